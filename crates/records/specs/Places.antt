-- Where the values of a stored record lie, by the place of each entry's part.
use Rattle.std.specs.Prelude.{◌≡◌, true, false, List, [], ◌∷◌, ◌++◌, ℕ, ◌+◌, ◌*◌, ◌-◌, ◌≤◌, ◌<◌, length, take, drop, get_or, None, Option, Some}
use Rattle.std.proofs.Math.Seq.{slice}
use Rattle.rules.specs.Outcome.{done}
use Rattle.rules.specs.Limits.{count_size}
use Rattle.rules.specs.Lists.{Bytes, join, run}
use Rattle.rules.specs.Values.{Format, content, allowed}
use Rattle.rules.specs.Table.{Entry, Field, group, parts}
use Rattle.rules.specs.Record.{Record, times, each, stored_cell, stored, group_count_at, values_at}
use Rattle.tables.specs.Entries.{blank, is_group, is_multiple, what_at}
use Rattle.tables.specs.Groups.{group_end, field_at, fields_in}
use Rattle.tables.specs.Places.{inside_at}
use Rattle.records.specs.Walk.{rest_of, Walked, occurrence, Starts, OccurrencesKept}
use Rattle.records.specs.Paths.{Leads, Wide}
use Rattle.records.specs.declared.paths.Path.{Path}

-- The bytes hold the record r, and places is their directory.
pub record IsRecord (es : List Entry) (b : Bytes) (places : List ℕ) (r : Record) : Type 0 where
  pub stands : stored (parts es) b ≡ done r
  pub starts : (j : ℕ) → j < length es → Starts es b places j
  pub occurrences : (g : ℕ) → g < length es → OccurrencesKept es b places g

-- They hold some record.
abbrev pub HasRecord : List Entry → Bytes → List ℕ → Type 0
HasRecord es b places = (r : Record) × IsRecord es b places r

-- "A plain field outside periodic groups has one occurrence."
abbrev pub OneOutside : List Entry → ℕ → ℕ → Type 0
OneOutside es i o = inside_at es i ≡ false → o ≡ 1

-- A path leads to the first of the entries up to `end` in one periodic group, which are `width` bytes wide; o is an occurrence of a record.
abbrev pub LeadsInside : List Entry → Bytes → List ℕ → Path → ℕ → ℕ → ℕ → Type 0
LeadsInside es b places path end width o =
    (path.entry < end) × (end ≤ length es) × (end ≤ group_end es path.group) × (1 ≤ o) × Leads es path × (path.inside ≡ true)
    × Wide (fields_in (slice path.entry end es)) width × HasRecord es b places

-- A record has the n occurrences from occurrence o on of the periodic group that entry g is, which are `width` bytes wide.
abbrev pub HasOccurrences : List Entry → Bytes → List ℕ → ℕ → ℕ → ℕ → ℕ → Type 0
HasOccurrences es b places g width o n =
    (1 ≤ o) × (1 ≤ n) × ((r : Record) → IsRecord es b places r → o + n ≤ group_count_at (parts es) r (get_or es g blank).name + 1)
    × Wide (fields_in (slice (g + 1) (group_end es g) es)) width × HasRecord es b places

-- Entry i's place in occurrence o of the periodic group that entry g is: the occurrence stands at p, and there the fields before the entry.
pub record EntryAt (es : List Entry) (b : Bytes) (places : List ℕ) (g i o : ℕ) (r : Record) (p q : ℕ) : Type 0 where
  pub many : o ≤ group_count_at (parts es) r (get_or es g blank).name
  pub row : Walked b (rest_of (times (o - 1) (occurrence es g) (drop (get_or places g 0 + count_size) b))) (Some p)
  pub before : Walked b (rest_of (each stored_cell (fields_in (slice (g + 1) i es)) (drop p b))) (Some q)

-- The same of the code's answer: or there is no such occurrence.
abbrev pub Entered : List Entry → Bytes → List ℕ → ℕ → ℕ → ℕ → Record → Option ℕ → Type 0
Entered es b places g i o r (Some q) = (p : ℕ) × EntryAt es b places g i o r p q
Entered es b places g i o r None = group_count_at (parts es) r (get_or es g blank).name < o

-- The same of an entry among the members of that group.
pub record MemberEntered (es : List Entry) (b : Bytes) (places : List ℕ) (g i o : ℕ) (r : Record) (c : Option ℕ) : Type 0 where
  pub held : IsRecord es b places r
  pub periodic : what_at es g ≡ group true
  pub after : g < i
  pub within : i < group_end es g
  pub some : 1 ≤ o
  pub entered : Entered es b places g i o r c

-- The cell of entry i in occurrence o of a record: from a place on, or there is none.
abbrev pub CellOf : List Entry → Bytes → ℕ → ℕ → Record → Option ℕ → Type 0
CellOf es b i o r (Some q) = (q ≤ length b) × (rest : Bytes) × (stored_cell (field_at es i) (drop q b) ≡ done (values_at (parts es) r (get_or es i blank).name o, rest))
CellOf es b i o r None = values_at (parts es) r (get_or es i blank).name o ≡ []

-- The content of a value v, without its length byte: between two places, and so long as its format allows.
pub record ContentOf (f : Format) (size : ℕ) (b v : Bytes) (from upto : ℕ) : Type 0 where
  pub ordered : from ≤ upto
  pub inside : upto ≤ length b
  pub is : content size v ≡ take (upto - from) (drop from b)
  pub long : allowed f (upto - from) ≡ true

-- The values of some fields in occurrence o, one after the other.
unfoldable pub values_of : List Entry → Record → ℕ → List Field → Bytes
values_of es r o [] = []
values_of es r o (f ∷ fs) = join (values_at (parts es) r f.name o) ++ values_of es r o fs

-- The entries from first to end lie outside periodic groups, and none is MU.
abbrev pub Outside : List Entry → ℕ → ℕ → Type 0
Outside es first end = (j : ℕ) → first ≤ j → j < end → (inside_at es j ≡ false) × (is_multiple (what_at es j) ≡ false)

-- Each of the fields among the entries from first to end has its cell in occurrence o.
abbrev pub Celled : List Entry → ℕ → ℕ → ℕ → Record → Type 0
Celled es first end o r = (j : ℕ) → first ≤ j → j < end → is_group (what_at es j) ≡ false
    → (bs : Bytes) × (rest : Bytes) × (stored_cell (field_at es j) bs ≡ done (values_at (parts es) r (get_or es j blank).name o, rest))

-- None of them has a value there.
abbrev pub Valueless : List Entry → ℕ → ℕ → ℕ → Record → Type 0
Valueless es first end o r = (j : ℕ) → first ≤ j → j < end → is_group (what_at es j) ≡ false → values_at (parts es) r (get_or es j blank).name o ≡ []

-- The piece of a record that those fields are; or they lie in a periodic group, and there is no such occurrence.
abbrev pub PieceOf : List Entry → Bytes → ℕ → ℕ → ℕ → Record → Option (ℕ × ℕ) → Type 0
PieceOf es b first end o r (Some (from, upto)) =
    (from ≤ upto) × (upto ≤ length b) × (take (upto - from) (drop from b) ≡ values_of es r o (fields_in (slice first end es))) × Celled es first end o r
PieceOf es b first end o r None = (inside_at es first ≡ true) × Valueless es first end o r

-- n occurrences of the periodic group that entry g is, from occurrence o on, stand one after the other from a place on, each `width` bytes wide.
pub record OccurrencesOf (es : List Entry) (b : Bytes) (g o n width : ℕ) (r : Record) (from : ℕ) : Type 0 where
  pub inside : from + n * width ≤ length b
  pub bytes : take (n * width) (drop from b) ≡ join (run (λ k. values_of es r k (fields_in (slice (g + 1) (group_end es g) es))) o n)
  pub cells : (k : ℕ) → o ≤ k → k < o + n → Celled es (g + 1) (group_end es g) k r
