-- An answer is settled by an outcome: a refusal leaves the slice as it was, and what is done stands at its front. And back: an answer tells the
-- outcome, because no refusal has the number 0.
use Rattle.std.specs.Prelude.{Err, Ok, Result}
use Rattle.std.specs.Result.{result_unwrap_or}
use mathlib.Core.Path.{◌≡◌, refl, sym, ◌∙◌, ap}
use Prim.Native.Nat.{ℕ, ◌≤◌}
use native.Mathlib.Omega.{arith}
use lib.ListN.{length, take, drop, length-append}
use Rattle.rules.specs.Outcome.{Outcome, done, refused}
use Rattle.rules.specs.Lists.{Bytes, bytes_of}
use Rattle.rules.proofs.Only.{Only}
use Rattle.rules.proofs.Numbered.{Numbered, above_zero, not_zero}
use Rattle.buffer.specs.Splice.{splice}
use Rattle.buffer.proofs.Laws.{take_splice}
use Rattle.rules.specs.Outcome as outcome
use Rattle.rules.specs.Numbers.{refusal, refusal_number, refusal_length}
use Rattle.rules.specs.declared.Refusal.{Refusal}
use Rattle.lyrecanyon.specs.Answers.{answer_number, Settled, Applied}

pub settled_refused : (o : Outcome Bytes) (entry : Bytes) (x : Refusal) → o ≡ refused (refusal x) → Settled o entry entry (Err x)
unfolding bytes_of
settled_refused o entry x e = rw e (record { number_is = refl; size_is = refl; bytes_are = refl; needed_is = refl })

pub settled_done : (o : Outcome Bytes) (bs entry exit : Bytes) (n : ℕ) → o ≡ done bs → n ≡ length bs → exit ≡ splice 0 bs entry → Settled o entry exit (Ok n)
unfolding bytes_of splice
settled_done o bs entry exit n e l w = rw (e, l) (record { number_is = refl; size_is = refl; bytes_are = w; needed_is = refl })

pub done_back : (o : Outcome Bytes) → Only Numbered o → (entry exit : Bytes) (n : ℕ) → Settled o entry exit (Ok n) → (o ≡ done (take n exit)) × (n ≤ length exit)
unfolding bytes_of splice
done_back (done b) k entry exit n s =
    (ap done (sym (ap (take n) s.bytes_are ∙ take_splice b entry n s.size_is)), omega (arith, s.size_is, ap length s.bytes_are, length-append b (drop (length b) entry)))
done_back (refused m) k entry exit n s = absurd (let h = not_zero m k in omega (arith, h, s.number_is))

-- A refusal is its number and its length.
refusal_is : (x : Refusal) (m : outcome.Refusal) → refusal_number x ≡ m.number → refusal_length x ≡ m.length → refusal x ≡ m
refusal_is x m e l = rw (e, l) refl

pub refused_back : (o : Outcome Bytes) (entry exit : Bytes) (x : Refusal) → Settled o entry exit (Err x) → (o ≡ refused (refusal x)) × (exit ≡ entry)
unfolding bytes_of
refused_back (done b) entry exit x s = absurd (let h = above_zero x in omega (arith, h, s.number_is))
refused_back (refused m) entry exit x s = (ap refused (sym (refusal_is x m s.number_is s.needed_is)), s.bytes_are)

-- The same of an update in place as C has it.
applied_done : (o : Outcome Bytes) → Only Numbered o → (entry exit : Bytes) (used n : ℕ) → Settled o entry exit (Ok n) → Applied o entry exit used n 0
unfolding bytes_of
applied_done (done b) k entry exit used n s = record { number_is = refl; used_is = s.size_is; bytes_are = s.bytes_are }
applied_done (refused m) k entry exit used n s = absurd (let h = not_zero m k in omega (arith, h, s.number_is))

applied_refused : (o : Outcome Bytes) (entry exit : Bytes) (used : ℕ) (x : Refusal) → Settled o entry exit (Err x) → Applied o entry exit used used (refusal_number x)
applied_refused (done b) entry exit used x s = absurd (let h = above_zero x in omega (arith, h, s.number_is))
applied_refused (refused m) entry exit used x s = record { number_is = s.number_is; used_is = refl; bytes_are = s.bytes_are }

pub applied : (o : Outcome Bytes) → Only Numbered o → (entry exit : Bytes) (used : ℕ) (r : Result ℕ Refusal) → Settled o entry exit r → Applied o entry exit used (result_unwrap_or r used) (answer_number r)
applied o k entry exit used (Ok n) s = applied_done o k entry exit used n s
applied o k entry exit used (Err x) s = applied_refused o entry exit used x s
