-- Filling room: where what is put ends, and what the room then holds. The same walk tests, and writes if it is asked to.
use Rattle.std.specs.Prelude.{◌≡◌, Bool, true, false, List, [], ◌∷◌, ◌++◌, ℕ, ◌+◌, ◌-◌, ◌≤◌, leb, length, Err, Ok, Result}
use Rattle.rules.specs.declared.Refusal.{Refusal}
use Rattle.rules.specs.Outcome.{Outcome, done, refused, ◌>>=◌, need, is_done}
use Rattle.rules.specs.Lists.{Bytes, bytes_of}
use Rattle.rules.specs.Numbers.{refusal}
use Rattle.buffer.specs.Splice.{splice}

-- A place lies before an end, up to which bytes may be written.
abbrev pub Roomy : ℕ → ℕ → Bytes → Type 0
Roomy at end out = (at ≤ end) × (end ≤ length out)

-- Where what was put ends, or the number of its refusal.
abbrev pub ended : Result ℕ Refusal → Outcome ℕ
ended (Ok p) = done p
ended (Err x) = refused (refusal x)

-- Where bytes that begin at a place end.
abbrev pub placed : ℕ → Outcome Bytes → Outcome ℕ
placed at (done bs) = done (at + length bs)
placed at (refused k) = refused k

-- Bytes written at a place, or the room as it was where nothing is to be written.
abbrev pub left_as : Bool → ℕ → Outcome Bytes → Bytes → Bytes
left_as true at o out = splice at (bytes_of o) out
left_as false at o out = out

-- An item in limited room: "an item ends beyond the record buffer" is 7.
unfoldable pub in_room : ℕ → Outcome Bytes → Outcome Bytes
in_room room o = do
  b ← o
  _ ← need (leb (length b) room) 7
  done b

-- Outcomes one after the other in limited room, as items are filled.
unfoldable pub together : ℕ → List (Outcome Bytes) → Outcome Bytes
together room [] = done []
together room (o ∷ os) = do
  b ← o
  _ ← need (leb (length b) room) 7
  bs ← together (room - length b) os
  done (b ++ bs)

-- What is written counts only where all of it is done.
abbrev pub Matters : Bool → Outcome Bytes → Type 0
Matters write o = write ≡ true → is_done o ≡ true

pub record Filling (o : Outcome Bytes) (at : ℕ) (write : Bool) (entry exit : Bytes) (r : Result ℕ Refusal) : Type 0 where
  pub answer : ended r ≡ placed at o
  pub same : length exit ≡ length entry
  pub bytes : Matters write o → exit ≡ left_as write at o entry

-- A walk stands at a place with some of the outcomes left: those end and write from there as the whole does from its start.
pub record Continues (whole rest : Outcome Bytes) (start at : ℕ) (write : Bool) (out₀ out : Bytes) : Type 0 where
  pub answer : placed at rest ≡ placed start whole
  pub alike : is_done rest ≡ is_done whole
  pub same : length out ≡ length out₀
  pub bytes : Matters write rest → left_as write at rest out ≡ left_as write start whole out₀
