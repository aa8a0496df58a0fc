-- A group's members and fields by their entry numbers, and the fields of a series.
use Rattle.std.specs.Prelude.{◌≡◌, Bool, true, false, cond, not, ◌&&◌, ◌||◌, List, [], ◌∷◌, map, ℕ, suc, ◌+◌, ◌-◌, ◌≤◌, leb, ltb, length, get_or, take, drop, is_none}
use Rattle.rules.specs.Values.{alpha}
use Rattle.rules.specs.Table.{What, field, group, Field, Entry, fields_below}
use Rattle.rules.specs.Outcome.{done, is_done}
use Rattle.rules.specs.Use.{fields_to}
use Rattle.buffer.specs.Splice.{splice}
use Rattle.tables.specs.Entries.{blank, what_at}
use Rattle.tables.specs.declared.Entry.{Entry as Decoded}
use Rattle.tables.specs.declared.groups.Expansion.{Expansion}

-- How many entries there are before the next that is not deeper than a level.
unfoldable pub run_below : ℕ → List Entry → ℕ
run_below level [] = 0
run_below level (e ∷ es) = cond (ltb level e.level) (suc (run_below level es)) 0

-- The number of the first entry after the members of entry i.
unfoldable pub group_end : List Entry → ℕ → ℕ
group_end es i = suc i + run_below (get_or es i blank).level (drop (suc i) es)

-- An entry as a field; that of a group is of no use.
unfoldable pub field_by : ℕ → What → Field
field_by n (field f s m) = record { name = n; format = f; size = s; multiple = m }
field_by n (group p) = record { name = n; format = alpha; size = 0; multiple = false }

unfoldable pub field_at : List Entry → ℕ → Field
field_at es i = field_by (get_or es i blank).name (what_at es i)

-- The first of some entries before the rest of them, where it is a field.
abbrev pub with_number : What → ℕ → List ℕ → List ℕ
with_number (field f s m) at ns = at ∷ ns
with_number (group p) at ns = ns

abbrev pub with_field : ℕ → What → List Field → List Field
with_field n (field f s m) fs = record { name = n; format = f; size = s; multiple = m } ∷ fs
with_field n (group p) fs = fs

-- The entry numbers of the fields of a group of a level, from the entries after it, of which the first has the number given.
unfoldable pub numbers_below : ℕ → ℕ → List Entry → List ℕ
numbers_below level at [] = []
numbers_below level at (e ∷ es) = cond (ltb level e.level) (with_number e.what at (numbers_below level (suc at) es)) []

-- The fields among entries.
unfoldable pub fields_in : List Entry → List Field
fields_in [] = []
fields_in (e ∷ es) = with_field e.name e.what (fields_in es)

-- What a walk over the entries after a group leaves: it ends after the members, and the fields' numbers are written from
-- `count` on, with every other byte as it was.
pub record Expanded (es : List Entry) (level at count : ℕ) (before after : List ℕ) (r : Expansion) : Type 0 where
  pub past : r.next ≡ at + run_below level (drop at es)
  pub counted : r.count ≡ count + length (numbers_below level at (drop at es))
  pub written : after ≡ splice count (numbers_below level at (drop at es)) before
  pub same : length after ≡ length before

-- What the expansion of group i leaves: the numbers of its fields at the front, with every other byte as it was. Taken as entries,
-- those numbers are the group's fields.
pub record FieldsOf (es : List Entry) (i : ℕ) (before after : List ℕ) (r : ℕ) : Type 0 where
  pub counted : r ≡ length (numbers_below (get_or es i blank).level (i + 1) (drop (i + 1) es))
  pub written : after ≡ splice 0 (numbers_below (get_or es i blank).level (i + 1) (drop (i + 1) es)) before
  pub same : length after ≡ length before
  pub fields : map (field_at es) (take r after) ≡ fields_below (get_or es i blank).level (drop (i + 1) es)

-- Whether an entry can stand in a group that is named: a group, or a field neither MU nor of variable length.
unfoldable pub plain_entry : Decoded → Bool
plain_entry r = is_none r.format || (not r.multiple && leb 1 r.size)

-- What is said of the series from entry i to entry j: whether it is one, and that its fields are those of the entries from i to j.
pub record Spanned (es : List Entry) (i j : ℕ) (r : Bool) : Type 0 where
  pub answer : r ≡ is_done (fields_to (get_or es j blank).name (drop i es))
  pub upto : r ≡ true → i ≤ j
  pub fields : r ≡ true → fields_to (get_or es j blank).name (drop i es) ≡ done (fields_in (take (suc j - i) (drop i es)))
