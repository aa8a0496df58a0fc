-- The contract of an update in place is the step of a history, so calls by the compiled service leave `record_after`.
use Rattle.std.specs.Prelude.{Err, Ok, Result}
use Rattle.std.specs.Result.{result_unwrap_or}
use mathlib.Core.Path.{◌≡◌, sym, ◌∙◌, ap}
use mathlib.Core.List.{[], ◌∷◌}
use Prim.Native.Nat.{ℕ, ◌+◌, ◌≤◌}
use native.Mathlib.Omega.{arith}
use lib.ListN.{length, take, drop}
use Rattle.rules.specs.Outcome.{Outcome, done, refused}
use Rattle.rules.specs.Outcome as outcome
use Rattle.rules.specs.Limits.{longest_new_record}
use Rattle.rules.specs.Lists.{Bytes, bytes_of}
use Rattle.rules.specs.Services.{update}
use Rattle.rules.specs.declared.Refusal.{Refusal}
use Rattle.rules.proofs.Numbered.{update_numbered}
use Rattle.buffer.specs.Splice.{splice}
use Rattle.buffer.proofs.Laws.{take_splice}
use Rattle.histories.specs.History.{History, answer, left_by, record_after}
use Rattle.lyrecanyon.specs.Answers.{Settled, Applied}
use Rattle.lyrecanyon.proofs.Settling.{done_back, refused_back}
use Rattle.journals.specs.Carried.{CarriedOut}
use Rattle.journals.specs.Journal.{head_length, length_at, entry_call}
use Rattle.journals.specs.Replay.{Steps}

applied_left : (o : Outcome Bytes) (entry exit : Bytes) (used used' number : ℕ) → Applied o entry exit used used' number → take used' exit ≡ left_by o (take used entry)
unfolding left_by bytes_of splice
applied_left (done b) entry exit used used' number a = ap (take used') a.bytes_are ∙ take_splice b entry used' a.used_is
applied_left (refused n) entry exit used used' number a = ap (λ k. take k exit) a.used_is ∙ ap (take used) a.bytes_are

-- A list of calls by the compiled service leaves the record that the history leaves.
pub carried_out : (t first : Bytes) (start : ℕ) (h : History) (stored : Bytes) (used : ℕ) → CarriedOut t first start h stored used → take used stored ≡ record_after t (take start first) h
unfolding record_after
carried_out t first start [] stored used (e, f) = ap (λ n. take n stored) f ∙ ap (take start) e
carried_out t first start (c ∷ earlier) stored used (before, length_before, number, then, _, a) =
    applied_left (answer t (take length_before before) c) before stored length_before used number a
    ∙ ap (λ b. left_by (answer t b c) b) (carried_out t first start earlier before length_before then)

-- ---- an entry of a journal, by `apply`

left_done : (o : Outcome Bytes) (old new : Bytes) → o ≡ done new → left_by o old ≡ new
unfolding left_by
left_done o old new e = rw e

left_refused : (o : Outcome Bytes) (old : Bytes) (n : outcome.Refusal) → o ≡ refused n → left_by o old ≡ old
unfolding left_by
left_refused o old n e = rw e

module _ (t j : Bytes) (at used : ℕ) (stored stored' : Bytes) (room : length stored ≡ longest_new_record)
    (m p k : ℕ) (e : m ≡ length_at j at) (f : p ≡ at + head_length + length_at j at) (g : k ≡ length_at j (at + 2)) where
  abbrev asked : Outcome Bytes
  asked = update t (take used stored) (take m (drop (at + head_length) j)) (take k (drop p j)) (length stored)

  asked_entry : answer t (take used stored) (entry_call j at) ≡ asked
  unfolding answer entry_call
  asked_entry = rw (e, f, g, room)

  step_done : (n : ℕ) → Settled asked stored stored' (Ok n) → Steps t j at stored used stored' n
  step_done n s =
      let b = done_back asked (update_numbered t (take used stored) (take m (drop (at + head_length) j)) (take k (drop p j)) (length stored)) stored stored' n s in
      record { after = sym (left_done _ (take used stored) _ (asked_entry ∙ b.0)); within = b.1 }

  step_refused : (x : Refusal) → used ≤ length stored → Settled asked stored stored' (Err x) → Steps t j at stored used stored' used
  step_refused x l s =
      let b = refused_back asked stored stored' x s in
      record {
        after = ap (take used) b.1 ∙ sym (left_refused _ (take used stored) _ (asked_entry ∙ b.0));
        within = omega (arith, l, ap length b.1);
      }

  pub steps : used ≤ length stored → (r : Result ℕ Refusal) → Settled asked stored stored' r → Steps t j at stored used stored' (result_unwrap_or r used)
  steps l (Ok n) s = step_done n s
  steps l (Err x) s = step_refused x l s
