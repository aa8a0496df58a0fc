-- One item in its room: beyond the end it is refused and nothing changes; within it, it ends after its bytes, written where that is asked.
use Rattle.std.specs.Prelude.{Err, Ok}
use mathlib.Core.Path.{◌≡◌, refl, sym, ◌∙◌, ap}
use mathlib.Core.Bool.{Bool, true}
use mathlib.Core.List.{[]}
use Prim.Native.Nat.{ℕ, ◌+◌, ◌≤◌, ◌<◌}
use native.Mathlib.Nat.{add-zero}
use native.Mathlib.Omega.{arith}
use borrow.Author.Tests.{le-leb, lt-leb}
use lib.ListN.{length, length-replicate}
use Rattle.rules.specs.Outcome.{Outcome, done, refused, by, is_done}
use Rattle.rules.specs.Outcome as outcome
use Rattle.rules.specs.Lists.{Bytes, bytes_of}
use Rattle.rules.specs.Numbers.{refusal}
use Rattle.rules.specs.declared.Refusal.{Refusal}
use Rattle.rules.specs.declared.Refusal.TheVariants.{BeyondBuffer}
use Rattle.rules.proofs.Steps.{not_both}
use Rattle.buffer.specs.Splice.{splice}
use Rattle.buffer.proofs.Laws.{length_splice, set_splice, splice_nil}
use Rattle.values.proofs.Numbered.{longest_size}
use Rattle.values.proofs.Chosen.{asked_refused, asked_bytes, asked_number}
use Rattle.filling.specs.Filling.{in_room, placed, left_as, Filling}
use Rattle.filling.proofs.Continues.{left_empty}

pub inside_room : (room : ℕ) (bs : Bytes) → length bs ≤ room → in_room room (done bs) ≡ done bs
unfolding in_room
inside_room room bs h = rw (le-leb (length bs) room h) refl

pub beyond_room : (room : ℕ) (bs : Bytes) → room < length bs → in_room room (done bs) ≡ refused (by 7)
unfolding in_room
beyond_room room bs h = rw (lt-leb (length bs) room h) refl

module _ (room at : ℕ) (bs out : Bytes) (write : Bool) where
  pub item_beyond : room < length bs → Filling (in_room room (done bs)) at write out out (Err BeyondBuffer)
  unfolding bytes_of
  item_beyond h = rw (beyond_room room bs h) (record { answer = refl; same = refl; bytes = λ k. sym (left_empty write at (refused (by 7)) out refl) })

  pub item_written : (n : ℕ) {out' : Bytes} → write ≡ true → length bs ≤ room → at + length bs ≤ length out → n ≡ at + length bs → out' ≡ splice at bs out → Filling (in_room room (done bs)) at write out out' (Ok n)
  unfolding bytes_of
  item_written n w h l e q = rw (inside_room room bs h, e, w) (record { answer = refl; same = ap length q ∙ length_splice at bs out l; bytes = λ k. q })

-- No bytes: nothing changes.
pub nothing_put : (room at : ℕ) (out : Bytes) (write : Bool) (bs : Bytes) → bs ≡ [] → Filling (in_room room (done bs)) at write out out (Ok at)
unfolding bytes_of
nothing_put room at out write bs e = rw (e, inside_room room [] (omega arith)) (record { answer = ap done (sym (add-zero at)); same = refl; bytes = λ k. sym (left_empty write at (done []) out refl) })

-- A refusal is the same in any room, and nothing changes.
pub value_refused : (o : Outcome Bytes) (room at : ℕ) (out : Bytes) (write : Bool) (x : Refusal) → o ≡ refused (refusal x) → Filling (in_room room o) at write out out (Err x)
unfolding in_room bytes_of
value_refused o room at out write x e = rw e (record { answer = refl; same = refl; bytes = λ k. sym (left_empty write at (refused (refusal x)) out refl) })

-- What the room then holds, as it was asked for.
pub left_done : (at : ℕ) (bs out : Bytes) → left_as true at (done bs) out ≡ splice at bs out
unfolding bytes_of
left_done at bs out = refl

pub left_refused : (write : Bool) (at : ℕ) (k : outcome.Refusal) (out : Bytes) → left_as write at (refused k) out ≡ out
unfolding bytes_of
left_refused write at k out = left_empty write at (refused k) out refl

-- The same of an outcome that is done, and of one that is refused.
pub inside_done : (room : ℕ) (o : Outcome Bytes) → is_done o ≡ true → length (bytes_of o) ≤ room → in_room room o ≡ o
unfolding bytes_of
inside_done room (done bs) d h = inside_room room bs h
inside_done room (refused k) d h = absurd (not_both d)

pub beyond_done : (room : ℕ) (o : Outcome Bytes) → is_done o ≡ true → room < length (bytes_of o) → in_room room o ≡ refused (by 7)
unfolding bytes_of
beyond_done room (done bs) d h = beyond_room room bs h
beyond_done room (refused k) d h = absurd (not_both d)

pub placed_done : (at : ℕ) (o : Outcome Bytes) → is_done o ≡ true → placed at o ≡ done (at + length (bytes_of o))
unfolding bytes_of
placed_done at (done bs) d = refl
placed_done at (refused k) d = absurd (not_both d)

pub room_refused : (room : ℕ) (k : outcome.Refusal) → in_room room (refused k) ≡ refused k
unfolding in_room
room_refused room k = refl

-- What the functions that put an item cite.
pub ruleset by_room = (inside_room, beyond_room, left_done, left_refused, length_splice, set_splice, splice_nil, length-replicate)

-- What the functions that put a value cite.
pub ruleset by_value = (by_room, inside_done, beyond_done, placed_done, room_refused, asked_refused, asked_bytes, asked_number, longest_size)
