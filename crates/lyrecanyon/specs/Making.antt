-- A new record that is made in an array of its own.
use Rattle.std.specs.Prelude.{◌≡◌, false, List, ℕ, ◌*◌, ◌≤◌, ◌<◌, leb, length, take, get_or, Err, Ok, Result}
use Rattle.rules.specs.declared.Refusal.{Refusal}
use Rattle.rules.specs.Outcome.{Outcome, done, refused, ◌>>=◌, need}
use Rattle.rules.specs.Limits.{longest_new_record}
use Rattle.rules.specs.Lists.{Bytes}
use Rattle.rules.specs.Numbers.{refusal}
use Rattle.rules.specs.Table.{Entry, parts}
use Rattle.rules.specs.Record.{Record, record_bytes}
use Rattle.rules.specs.Use.{items}
use Rattle.rules.specs.Update.{Assignment, named_twice, assignments, after_update}
use Rattle.rules.specs.Services.{fitting}
use Rattle.uses.specs.Meant.{uses_of}
use Rattle.uses.specs.Kept.{numbers_kept, uses_kept, GoodUses}
use Rattle.records.specs.Places.{IsRecord}
use Rattle.assignments.specs.Notes.{note_bound, note_place}

-- An outcome stands at the front of an array, or it is refused.
abbrev pub Makes : Outcome Bytes → Bytes → Result ℕ Refusal → Type 0
Makes o made (Ok n) = (n ≤ length made) × (o ≡ done (take n made))
Makes o made (Err x) = o ≡ refused (refusal x)

-- The new record by what is assigned, as far as its own limit.
abbrev pub new_record : List Entry → Record → List Assignment → Outcome Bytes
new_record es r ws = fitting longest_new_record (record_bytes (parts es) (after_update (parts es) r ws))

-- The same of whatever record the bytes hold.
abbrev pub MakesNew : List Entry → Bytes → List ℕ → Outcome (List Assignment) → Bytes → Result ℕ Refusal → Type 0
MakesNew es b places o made n = (r : Record) → IsRecord es b places r → Makes (o >>= new_record es r) made n

-- The uses of a format are kept, and no two of them name an occurrence in common.
pub record Apart (es : List Entry) (f : Bytes) (kept : List ℕ) (n : ℕ) : Type 0 where
  pub meant : uses_of es f ≡ done (uses_kept es f kept n)
  pub good : GoodUses es f kept n
  pub room : numbers_kept * n ≤ length kept
  pub once : named_twice (uses_kept es f kept n) ≡ false

-- The list has room for n uses, and nothing is noted in it yet.
pub record Fresh (n : ℕ) (list : List ℕ) : Type 0 where
  pub few : n < note_bound
  pub room : note_place n ≤ length list
  pub zeros : (j : ℕ) → get_or list j 0 ≡ 0

-- What the record buffer gives to them.
abbrev pub given : List Entry → Bytes → List ℕ → ℕ → Bytes → Outcome (List Assignment)
given es f kept n buffer = assignments (items (uses_kept es f kept n)) buffer

-- The new record by the items of the uses that are kept, whichever format has them.
abbrev pub MakesItems : List Entry → Bytes → List ℕ → List ℕ → ℕ → Bytes → Bytes → Result ℕ Refusal → Type 0
MakesItems es stored places kept count buffer made n = (f : Bytes) → Apart es f kept count → MakesNew es stored places (given es f kept count buffer) made n

-- A list is fresh for as many uses as can be kept.
abbrev pub FreshFor : List ℕ → List ℕ → Type 0
FreshFor kept list = (n : ℕ) → numbers_kept * n ≤ length kept → Fresh n list

-- Bytes in a lent room of a length: "over the lent room" is 10.
abbrev pub in_lent : ℕ → Outcome Bytes → Outcome Bytes
in_lent room o = do
  b ← o
  _ ← need (leb (length b) room) 10
  done b
