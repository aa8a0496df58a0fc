-- Document 02, M-100, "The last drop": N in a read. The use rules take N as they take 1, and what is stored tells how far N reaches.
use Rattle.std.specs.Prelude.{Bool, true, false, not, ◌&&◌, List, [], ◌∷◌, ◌++◌, map, ℕ, max}
use Rattle.std.proofs.Math.Option.{Option, none, some}
use Rattle.rules.specs.Outcome.{Outcome, done, refused, ◌>>=◌}
use Rattle.rules.specs.Lists.{filter, join, look_up}
use Rattle.rules.specs.Table.{Part, Entry, part_holding}
use Rattle.rules.specs.Record.{Record, value_count_at, group_count_at}
use Rattle.rules.specs.Format.{Range, Indexing, these, the_last, up_to_the_last, Element, blanks, quoted, named, count, count_in_last, series}
use Rattle.rules.specs.Use.{Item, blanks_item, text_item, group_count, value_count, value_item, Asked, Use, one, values, items_over, find, just, Indexes, indexes_after, use_of}

-- How far indexes reach: as they are written; to the last one alone (`N`); or from 1 up to the last (`1-N`).
pub data Scope : Type 0 where
  as_written : Scope
  last_alone : Scope
  up_to_last : Scope

abbrev pub scope_of : Option Indexing → Scope
scope_of none = as_written
scope_of (some (these r)) = as_written
scope_of (some the_last) = last_alone
scope_of (some up_to_the_last) = up_to_last

-- The indexes that are meant where n are stored: "N with nothing stored means index 1"; "`1-N` with nothing stored gives no bytes".
abbrev pub resolved : Scope → Range → ℕ → Range
resolved as_written r n = r
resolved last_alone r n = just (max 1 n)
resolved up_to_last r n = record { from = 1; upto = n }

-- What an element of a read means: its use, and how far the occurrences and the values of that use reach.
pub record Meaning : Type 0 where
  pub meant : Use
  pub occurrences : Scope
  pub values : Scope

-- Whether the entry with a name is a periodic group or in one.
unfoldable pub lies_inside : ℕ → List Entry → Bool
lies_inside n es = elim (find n es) [ done x ↦ x.inside | refused k ↦ false ]

-- A use with the scopes that its element gives: the index of a name is one of its occurrences in a periodic group, and outside one of its values.
unfoldable pub scoped : List Entry → Element → Use → Meaning
scoped es (blanks n) u = record { meant = u; occurrences = as_written; values = as_written }
scoped es (quoted t) u = record { meant = u; occurrences = as_written; values = as_written }
scoped es (count n i) u = record { meant = u; occurrences = as_written; values = as_written }
scoped es (count_in_last n) u = record { meant = u; occurrences = last_alone; values = as_written }
scoped es (series n m) u = record { meant = u; occurrences = as_written; values = as_written }
scoped es (named n os vs l g) u = elim (lies_inside n es) [
  | true ↦ record { meant = u; occurrences = scope_of os; values = scope_of vs }
  | false ↦ record { meant = u; occurrences = as_written; values = scope_of os }
]

-- Of each MU field, the latest first, whether N was its last index so far.
abbrev pub Lasts : Type 0
Lasts = List (ℕ × Bool)

unfoldable pub after_N : ℕ → Lasts → Bool
after_N n ns = elim (look_up n ns) [ some b ↦ b | none ↦ false ]

abbrev pub is_last : Scope → Bool
is_last as_written = false
is_last last_alone = true
is_last up_to_last = true

-- After what an element means: by its use, and how far the values of that use reach.
unfoldable pub lasts_by : Use → Scope → Lasts → Lasts
lasts_by (one x) v ns = ns
lasts_by (values fs os vs bare) v ns = map (λ a. (a.field.name, is_last v)) (filter (λ a. a.field.multiple) fs) ++ ns

abbrev pub lasts_after : Meaning → Lasts → Lasts
lasts_after m ns = lasts_by m.meant m.values ns

-- "After `MFN` or `MF1-N`, bare `MF` means `MFN` until another index is given."
unfoldable pub in_full : List Entry → Lasts → Element → Element
in_full es ns (blanks n) = blanks n
in_full es ns (quoted t) = quoted t
in_full es ns (count n i) = count n i
in_full es ns (count_in_last n) = count_in_last n
in_full es ns (series n m) = series n m
in_full es ns (named n (some x) vs l g) = named n (some x) vs l g
in_full es ns (named n none vs l g) = elim (after_N n ns && not (lies_inside n es)) [
  | true ↦ named n (some the_last) vs l g
  | false ↦ named n none vs l g
]

-- What an element of a read means, after the indexes so far.
unfoldable pub meaning_of : List Entry → Indexes → Lasts → Element → Outcome Meaning
meaning_of es ls ns x = do
  u ← use_of es ls (in_full es ns x)
  done (scoped es (in_full es ns x) u)

-- "elements left to right, 4 before 5"
unfoldable pub meanings : List Entry → Indexes → Lasts → List Element → Outcome (List Meaning)
meanings es ls ns [] = done []
meanings es ls ns (x ∷ xs) = do
  m ← meaning_of es ls ns x
  ms ← meanings es (indexes_after m.meant ls) (lasts_after m ns) xs
  done (m ∷ ms)

-- How many are stored: the occurrences of a periodic group, by its name; the values of a field in an occurrence.
pub record Counts : Type 0 where
  pub group : ℕ → ℕ
  pub values : ℕ → ℕ → ℕ

-- Those of a record.
unfoldable pub counts_in : List Part → Record → Counts
counts_in ps r = record { group = group_count_at ps r; values = value_count_at ps r }

-- The fields of an element lie in one periodic group, if in any: the first tells how many occurrences are stored.
unfoldable pub occurrences_stored : List Part → Counts → List Asked → ℕ
occurrences_stored ps c [] = 0
occurrences_stored ps c (a ∷ fs) = c.group (part_holding a.field.name ps)

-- "`CBNC`": the count in the last occurrence, which is the first where none is stored.
unfoldable pub item_resolved : List Part → Counts → Scope → Item → Item
item_resolved ps c o (blanks_item n) = blanks_item n
item_resolved ps c o (text_item t) = text_item t
item_resolved ps c o (group_count n) = group_count n
item_resolved ps c o (value_count n i) = value_count n (resolved o (just i) (c.group (part_holding n ps))).upto
item_resolved ps c o (value_item p g n bare) = value_item p g n bare

-- The items that a meaning stands for, by what is stored: each occurrence has a last value of its own.
unfoldable pub use_resolved : List Part → Counts → Scope → Scope → Use → List Item
use_resolved ps c o v (one x) = item_resolved ps c o x ∷ []
use_resolved ps c o v (values fs os vs bare) =
    items_over fs (resolved o os (occurrences_stored ps c fs)) (λ f i. resolved v vs (c.values f.name i)) bare

unfoldable pub items_read : List Part → Counts → List Meaning → List Item
items_read ps c ms = join (map (λ m. use_resolved ps c m.occurrences m.values m.meant) ms)
