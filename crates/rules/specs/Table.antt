-- Document 01, "The field definition table". Every refusal here is 1.
use Rattle.std.specs.Prelude.{Bool, true, false, not, ◌&&◌, ◌||◌, List, [], ◌∷◌, map, ℕ, zero, suc, ◌+◌, ◌*◌, eqb, leb, ltb, take, drop, get_or}
use Rattle.std.proofs.Math.Option.{Option, none, some}
use Rattle.rules.specs.Outcome.{Outcome, done, refused, by, ◌>>=◌, need}
use Rattle.rules.specs.Limits.{most_entries, deepest_level, table_head_size}
use Rattle.rules.specs.Characters.{space, letter, digit, letter_A, letter_B, letter_E, letter_F, letter_P, letter_U}
use Rattle.rules.specs.Lists.{Bytes, same, all, look_up}
use Rattle.rules.specs.Values.{Format, alpha, binary, fixed, packed, unpacked, allowed}

-- "Bytes E5 C6 E3 ("VFT"), a 16-bit version 0001"
unfoldable pub table_head : Bytes
table_head = 0xE5 ∷ 0xC6 ∷ 0xE3 ∷ 0x00 ∷ 0x01 ∷ []

-- "A name is a letter, then a letter or digit; those written E0 to E9 aren't names".
unfoldable pub is_name : ℕ → ℕ → Bool
is_name a b = letter a && (letter b || digit b) && not (eqb a letter_E && digit b)

-- A name is kept as one number: its first byte times 256, and its second.
unfoldable pub name_of : ℕ → ℕ → ℕ
name_of a b = a * 256 + b

-- The five formats by their letters.
unfoldable pub format_letters : List (ℕ × Format)
format_letters = (letter_A, alpha) ∷ (letter_B, binary) ∷ (letter_F, fixed) ∷ (letter_P, packed) ∷ (letter_U, unpacked) ∷ []

unfoldable pub format_of : ℕ → Option Format
format_of b = look_up b format_letters

-- What an entry is: a field of a format and standard length, MU or not; or a group, periodic or not.
pub data What : Type 0 where
  field : Format → ℕ → Bool → What
  group : Bool → What

pub record Entry : Type 0 where
  pub name : ℕ
  pub level : ℕ
  pub what : What

-- "A field has one of the five formats and a standard length that Values below allows for it; a group has format 40 and length 0.
-- Option 0 is none, 1 MU (a field only), 2 PE (a group of level 1 only)."
unfoldable pub what_of : ℕ → ℕ → ℕ → ℕ → Outcome What
what_of level format length option = elim (format_of format) [
  | some f ↦ do
    _ ← need (allowed f length && leb option 1) 1
    done (field f length (eqb option 1))
  | none ↦ do
    _ ← need (eqb format space && eqb length 0 && (eqb option 0 || (eqb option 2 && eqb level 1))) 1
    done (group (eqb option 2))
]

-- "then n entries of six bytes: name (2), level (1), format letter, standard length (1), option"; "the whole slice is 6 + 6n bytes".
unfoldable pub entries : ℕ → Bytes → Outcome (List Entry)
entries zero [] = done []
entries zero (b ∷ bs) = refused (by 1)
entries (suc n) [] = refused (by 1)
entries (suc n) (a ∷ []) = refused (by 1)
entries (suc n) (a ∷ b ∷ []) = refused (by 1)
entries (suc n) (a ∷ b ∷ l ∷ []) = refused (by 1)
entries (suc n) (a ∷ b ∷ l ∷ f ∷ []) = refused (by 1)
entries (suc n) (a ∷ b ∷ l ∷ f ∷ s ∷ []) = refused (by 1)
entries (suc n) (a ∷ b ∷ l ∷ f ∷ s ∷ o ∷ bs) = do
  _ ← need (is_name a b) 1
  w ← what_of l f s o
  es ← entries n bs
  done (record { name = name_of a b; level = l; what = w } ∷ es)

-- "After a group the next entry has that group's level plus 1; after a field the level is at most that field's, and at least 1.
-- The last entry is a field." The entry before has the given level. "The first entry has level 1": as after a group of level 0.
unfoldable pub levels : What → ℕ → List Entry → Bool
levels (field f n m) l [] = true
levels (group p) l [] = false
levels (field f n m) l (e ∷ es) = leb 1 e.level && leb e.level l && levels e.what e.level es
levels (group p) l (e ∷ es) = eqb e.level (suc l) && leb e.level deepest_level && levels e.what e.level es

-- "names differ"
unfoldable pub differ : List ℕ → Bool
differ [] = true
differ (n ∷ ns) = all (λ m. not (eqb m n)) ns && differ ns

unfoldable pub names : List Entry → List ℕ
names es = map (λ e. e.name) es

-- The entries of a table: "one byte n from 1 to 64", then the entries.
unfoldable pub table : Bytes → Outcome (List Entry)
table bs = do
  _ ← need (same (take 5 bs) table_head) 1
  _ ← need (leb 1 (get_or bs 5 0) && leb (get_or bs 5 0) most_entries) 1
  es ← entries (get_or bs 5 0) (drop table_head_size bs)
  _ ← need (levels (group false) 0 es && differ (names es)) 1
  done es

-- A field as the sections below speak of it.
pub record Field : Type 0 where
  pub name : ℕ
  pub format : Format
  pub size : ℕ
  pub multiple : Bool

-- Whether an entry is a periodic group or lies in one, by whether the entry before it does: only level 1 leaves a periodic group.
unfoldable pub inside_of : Bool → ℕ → What → Bool
inside_of before level (field f n m) = before && ltb 1 level
inside_of before level (group p) = p || (before && ltb 1 level)

abbrev pub is_inside : Bool → Entry → Bool
is_inside before e = inside_of before e.level e.what

-- The fields of a group of a level, from the entries after it: those before the next entry that is not deeper.
unfoldable pub fields_below : ℕ → List Entry → List Field
fields_below level [] = []
fields_below level (e ∷ es) = elim (ltb level e.level) [
  | true ↦ elim e.what [
    | field f n m ↦ record { name = e.name; format = f; size = n; multiple = m } ∷ fields_below level es
    | group p ↦ fields_below level es
  ]
  | false ↦ []
]

-- What stands in a record, in table order: a field outside periodic groups, or a periodic group with its fields.
pub record Part : Type 0 where
  pub name : ℕ
  pub periodic : Bool
  pub members : List Field

unfoldable pub alone : Field → Part
alone f = record { name = f.name; periodic = false; members = f ∷ [] }

-- An entry before the parts after it. "Another group adds no bytes", and a field in a periodic group stands in that group's part.
unfoldable pub part_of : Bool → ℕ → What → List Entry → List Part → List Part
part_of inside name (group true) es ps = record { name = name; periodic = true; members = fields_below 1 es } ∷ ps
part_of inside name (group false) es ps = ps
part_of true name (field f n m) es ps = ps
part_of false name (field f n m) es ps = alone (record { name = name; format = f; size = n; multiple = m }) ∷ ps

unfoldable pub parts_from : Bool → List Entry → List Part
parts_from before [] = []
parts_from before (e ∷ es) = part_of (is_inside before e) e.name e.what es (parts_from (is_inside before e) es)

unfoldable pub parts : List Entry → List Part
parts es = parts_from false es

-- The field with a name.
unfoldable pub member : ℕ → List Field → Option Field
member n [] = none
member n (f ∷ fs) = elim (eqb f.name n) [ true ↦ some f | false ↦ member n fs ]

-- The part with a name.
unfoldable pub part_named : ℕ → List Part → Option Part
part_named n [] = none
part_named n (p ∷ ps) = elim (eqb p.name n) [ true ↦ some p | false ↦ part_named n ps ]

-- The name of the part in which the field n stands.
unfoldable pub part_holding : ℕ → List Part → ℕ
part_holding n [] = 0
part_holding n (p ∷ ps) = elim (member n p.members) [ some f ↦ p.name | none ↦ part_holding n ps ]
