-- Document 01, "Update": which occurrences are named, the values that the record buffer gives them, and the new record.
use Rattle.std.specs.Prelude.{Bool, true, false, not, ◌&&◌, ◌||◌, List, [], ◌∷◌, map, ℕ, max, eqb, leb, length}
use Rattle.std.proofs.Math.Option.{Option, none, some}
use Rattle.rules.specs.Outcome.{Outcome, done, ◌>>=◌}
use Rattle.rules.specs.Lists.{Bytes, absent, all, any, filter, maximum, cut}
use Rattle.rules.specs.Values.{converted_bytes, first_value}
use Rattle.rules.specs.Table.{Part, member}
use Rattle.rules.specs.Record.{Record, value_at, value_count_at, Plan, laid_out, count_or_one}
use Rattle.rules.specs.Format.{Range}
use Rattle.rules.specs.Use.{Place, Item, blanks_item, text_item, group_count, value_count, value_item, Asked, Use, one, values}

-- Two ranges have an index in common.
unfoldable pub meet : Range → Range → Bool
meet a b = leb a.from b.upto && leb b.from a.upto

-- Two lists of fields have a field in common.
unfoldable pub share : List Asked → List Asked → Bool
share fs gs = any (λ a. any (λ b. eqb a.field.name b.field.name) gs) fs

-- Two elements name an occurrence in common: a field, and an index of its occurrences, and one of its values.
-- "Counts, spaces and text name nothing."
unfoldable pub name_alike : Use → Use → Bool
name_alike (one x) (one y) = false
name_alike (one x) (values gs ps ws c) = false
name_alike (values fs os vs b) (one y) = false
name_alike (values fs os vs b) (values gs ps ws c) = share fs gs && meet os ps && meet vs ws

-- "update names an occurrence twice" (6). One element names each of its occurrences once: its fields differ, and its ranges ascend.
unfoldable pub named_twice : List Use → Bool
named_twice [] = false
named_twice (u ∷ us) = any (name_alike u) us || named_twice us

-- An occurrence with the value that it takes, in normal form at its standard length.
pub record Assignment : Type 0 where
  pub place : Place
  pub bare : Bool
  pub bytes : Bytes

-- "items left to right", each "7, 8, 9": what the record buffer gives to the occurrences. Blanks, text and counts are skipped.
unfoldable pub assignments : List Item → Bytes → Outcome (List Assignment)
assignments [] bs = done []
assignments (blanks_item n ∷ xs) bs = cut 7 n bs >>= λ r. assignments xs r.1
assignments (text_item t ∷ xs) bs = cut 7 (length t) bs >>= λ r. assignments xs r.1
assignments (group_count n ∷ xs) bs = cut 7 1 bs >>= λ r. assignments xs r.1
assignments (value_count n i ∷ xs) bs = cut 7 1 bs >>= λ r. assignments xs r.1
assignments (value_item p g n bare ∷ xs) bs = do
  r ← first_value n bs
  w ← converted_bytes g p.field.format p.field.size r.0
  ws ← assignments xs r.1
  done (record { place = p; bare = bare; bytes = w } ∷ ws)

unfoldable pub same_place : Place → Place → Bool
same_place a b = eqb a.field.name b.field.name && eqb a.occurrence b.occurrence && eqb a.value b.value

-- The value that an occurrence takes, if it is named.
unfoldable pub assigned : List Assignment → Place → Option Bytes
assigned [] p = none
assigned (a ∷ ws) p = elim (same_place a.place p) [ true ↦ some a.bytes | false ↦ assigned ws p ]

-- The assignments to the field n in occurrence i; those to the fields of a part.
unfoldable pub to_field : List Assignment → ℕ → ℕ → List Assignment
to_field ws n i = filter (λ a. eqb a.place.field.name n && eqb a.place.occurrence i) ws

unfoldable pub to_part : List Assignment → Part → List Assignment
to_part ws p = filter (λ a. not (absent (member a.place.field.name p.members))) ws

-- "the highest index named": 0 where none is.
unfoldable pub highest_occurrence : List Assignment → Part → ℕ
highest_occurrence ws p = maximum (map (λ a. a.place.occurrence) (to_part ws p))

unfoldable pub highest_value : List Assignment → ℕ → ℕ → ℕ
highest_value ws n i = maximum (map (λ a. a.place.value) (to_field ws n i))

-- "names an MU field outside periodic groups by bare names only": it is named, and each time by its bare name.
unfoldable pub bare_only : List Assignment → Bool
bare_only [] = false
bare_only (a ∷ ws) = a.bare && all (λ b. b.bare) ws

-- "its count becomes the number of names. Otherwise a count becomes the larger of the old count and the highest index named".
unfoldable pub new_value_count : List Assignment → ℕ → ℕ → ℕ → ℕ
new_value_count ws n i old = elim (bare_only (to_field ws n i)) [
  | true ↦ length (to_field ws n i)
  | false ↦ max old (highest_value ws n i)
]

-- "an index of a field in a periodic group raises that group's count likewise"
unfoldable pub new_group_count : List Assignment → Part → ℕ → ℕ
new_group_count ws p old = max old (highest_occurrence ws p)

-- "each named occurrence takes its value; all else stored keeps its own. What lies above an old count, up to the new one, and isn't
-- named becomes null": the old value of what doesn't exist is null.
unfoldable pub new_value : List Assignment → Bytes → Place → Bytes
new_value ws old p = elim (assigned ws p) [ some b ↦ b | none ↦ old ]

unfoldable pub update_plan : List Part → Record → List Assignment → Plan
update_plan ps r ws = record {
  occurrences = λ p old. count_or_one p.periodic (new_group_count ws p old);
  values = λ f i. count_or_one f.multiple (new_value_count ws f.name i (value_count_at ps r f.name i));
  value = λ f i k. new_value ws (value_at ps r f i k) (record { field = f; occurrence = i; value = k });
}

unfoldable pub after_update : List Part → Record → List Assignment → Record
after_update ps r ws = laid_out (update_plan ps r ws) ps r
