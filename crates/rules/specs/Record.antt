-- Document 01, "The stored record". Every refusal here is 2.
use Rattle.std.specs.Prelude.{Bool, true, false, List, [], ◌∷◌, ◌++◌, map, ℕ, zero, suc, pred, eqb, leb, length, take, drop, get_or}
use Rattle.std.proofs.Math.Option.{none, some}
use Rattle.rules.specs.Outcome.{Outcome, done, refused, by, ◌>>=◌, need, refused_as}
use Rattle.rules.specs.Limits.{greatest_count, longest_record, record_head_size}
use Rattle.rules.specs.Lists.{Bytes, nothing, same, join, run}
use Rattle.rules.specs.Values.{Format, first_value, with_length_byte, in_normal_form, null}
use Rattle.rules.specs.Table.{Field, Part, member}

-- "Bytes E5 D9 C3 ("VRC"), version 0001"
unfoldable pub record_head : Bytes
record_head = 0xE5 ∷ 0xD9 ∷ 0xC3 ∷ 0x00 ∷ 0x01 ∷ []

-- A record has a list of occurrences for each part: one where the part is no periodic group. An occurrence has a cell for each field.
-- A cell is a list of values: one where the field is not MU. A value is its bytes in normal form.
abbrev pub Cell : Type 0
Cell = List Bytes

abbrev pub Occurrence : Type 0
Occurrence = List Cell

abbrev pub Record : Type 0
Record = List (List Occurrence)

-- A reader takes what stands first in the bytes, and leaves the bytes after it.
abbrev pub Reader : Type 0 → Type 0
Reader X = Bytes → Outcome (X × Bytes)

-- "that many": n one after the other.
unfoldable pub times : {X : Type 0} → ℕ → Reader X → Reader (List X)
times zero one bs = done ([], bs)
times (suc n) one bs = do
  x ← one bs
  xs ← times n one x.1
  done (x.0 ∷ xs.0, xs.1)

-- "a count byte 0 to 191"
unfoldable pub stored_count : Reader ℕ
stored_count [] = refused (by 2)
stored_count (n ∷ bs) = do
  _ ← need (leb n greatest_count) 2
  done (n, bs)

-- "a count byte .. and that many"; without a count, one.
unfoldable pub counted : {X : Type 0} → Bool → Reader X → Reader (List X)
counted false one bs = times 1 one bs
counted true one bs = do
  n ← stored_count bs
  times n.0 one n.1

-- "its members in order"
unfoldable pub each : {X Y : Type 0} → (Y → Reader X) → List Y → Reader (List X)
each one [] bs = done ([], bs)
each one (y ∷ ys) bs = do
  x ← one y bs
  xs ← each one ys x.1
  done (x.0 ∷ xs.0, xs.1)

-- "Every value has the field's standard length and is in normal form."
unfoldable pub stored_value : Format → ℕ → Reader Bytes
stored_value f n bs = do
  r ← refused_as 2 (first_value n bs)
  _ ← need (in_normal_form f n r.0) 2
  done (with_length_byte n r.0, r.1)

-- "A plain field is one value. An MU field is a count byte 0 to 191 and that many values."
unfoldable pub stored_cell : Field → Reader Cell
stored_cell f = counted f.multiple (stored_value f.format f.size)

-- "A periodic group is a count byte 0 to 191 and that many times its members in order."
unfoldable pub stored_part : Part → Reader (List Occurrence)
stored_part p = counted p.periodic (each stored_cell p.members)

-- The record that bytes hold: at most 4,096 of them, the head, "then the body in table order, to the end of the slice".
unfoldable pub stored : List Part → Bytes → Outcome Record
stored ps bs = do
  _ ← need (leb (length bs) longest_record) 2
  _ ← need (same (take record_head_size bs) record_head) 2
  r ← each stored_part ps (drop record_head_size bs)
  _ ← need (nothing r.1) 2
  done r.0

-- The bytes of a record, by the same sentences.
unfoldable pub count_bytes : ℕ → Bytes
count_bytes n = n ∷ []

unfoldable pub counted_bytes : {X : Type 0} → Bool → (X → Bytes) → List X → Bytes
counted_bytes false one xs = join (map one xs)
counted_bytes true one xs = count_bytes (length xs) ++ join (map one xs)

unfoldable pub each_bytes : {X Y : Type 0} → (Y → X → Bytes) → List Y → List X → Bytes
each_bytes one [] xs = []
each_bytes one (y ∷ ys) [] = []
each_bytes one (y ∷ ys) (x ∷ xs) = one y x ++ each_bytes one ys xs

unfoldable pub cell_bytes : Field → Cell → Bytes
cell_bytes f = counted_bytes f.multiple (λ v. v)

unfoldable pub part_bytes : Part → List Occurrence → Bytes
part_bytes p = counted_bytes p.periodic (each_bytes cell_bytes p.members)

unfoldable pub body_bytes : List Part → Record → Bytes
body_bytes = each_bytes part_bytes

unfoldable pub record_bytes : List Part → Record → Bytes
record_bytes ps r = record_head ++ body_bytes ps r

-- The cell of the field n in an occurrence; nothing where there is none.
unfoldable pub cell_of : ℕ → List Field → Occurrence → Cell
cell_of n [] cs = []
cell_of n (f ∷ fs) [] = []
cell_of n (f ∷ fs) (c ∷ cs) = elim (eqb f.name n) [ true ↦ c | false ↦ cell_of n fs cs ]

-- The values of the field n in occurrence i. Indexes count from 1.
unfoldable pub values_at : List Part → Record → ℕ → ℕ → Cell
values_at [] r n i = []
values_at (p ∷ ps) [] n i = []
values_at (p ∷ ps) (os ∷ r) n i = elim (member n p.members) [
  | some f ↦ cell_of n p.members (get_or os (pred i) [])
  | none ↦ values_at ps r n i
]

-- Value k of the field f in occurrence i: null where it doesn't exist.
unfoldable pub value_at : List Part → Record → Field → ℕ → ℕ → Bytes
value_at ps r f i k = get_or (values_at ps r f.name i) (pred k) (null f.format f.size)

-- The count of the MU field n in occurrence i: 0 where the occurrence doesn't exist.
unfoldable pub value_count_at : List Part → Record → ℕ → ℕ → ℕ
value_count_at ps r n i = length (values_at ps r n i)

-- The count of the periodic group n.
unfoldable pub group_count_at : List Part → Record → ℕ → ℕ
group_count_at [] r n = 0
group_count_at (p ∷ ps) [] n = 0
group_count_at (p ∷ ps) (os ∷ r) n = elim (eqb p.name n) [ true ↦ length os | false ↦ group_count_at ps r n ]

-- A new record by its counts and values: how many occurrences a part has (by how many it had), how many values a field in an
-- occurrence, and each value.
pub record Plan : Type 0 where
  pub occurrences : Part → ℕ → ℕ
  pub values : Field → ℕ → ℕ
  pub value : Field → ℕ → ℕ → Bytes

unfoldable pub laid_cell : Plan → ℕ → Field → Cell
laid_cell w i f = run (λ k. w.value f i k) 1 (w.values f i)

unfoldable pub laid_part : Plan → Part → ℕ → List Occurrence
laid_part w p old = run (λ i. map (laid_cell w i) p.members) 1 (w.occurrences p old)

-- The new record, beside the old one.
unfoldable pub laid_out : Plan → List Part → Record → Record
laid_out w [] r = []
laid_out w (p ∷ ps) [] = laid_part w p 0 ∷ laid_out w ps []
laid_out w (p ∷ ps) (os ∷ r) = laid_part w p (length os) ∷ laid_out w ps r

-- What is counted has the count n; what is not counted stands there once.
unfoldable pub count_or_one : Bool → ℕ → ℕ
count_or_one true n = n
count_or_one false n = 1

-- "The empty record has every value null and every count 0."
unfoldable pub empty_record : List Part → Record
empty_record ps = laid_out (record {
  occurrences = λ p old. count_or_one p.periodic 0;
  values = λ f i. count_or_one f.multiple 0;
  value = λ f i k. null f.format f.size;
}) ps []
