-- A stored value, by where the first value lies and whether it is in normal form.
use Rattle.std.specs.Prelude.{Err, None, Ok, Result, Some}
use Rattle.std.specs.Result.{result_ok}
use Rattle.std.proofs.lemmas.Option.{none-some, same_Some}
use Rattle.std.specs.Bool.{then_some}
use mathlib.Core.Path.{◌≡◌, refl, sym, ◌∙◌, ap}
use mathlib.Core.Bool.{Bool, true, false}
use mathlib.Core.List.{[], ◌∷◌}
use Prim.Native.Nat.{ℕ, zero, suc, ◌+◌, ◌*◌, ◌-◌, ◌≤◌, ◌<◌}
use native.Mathlib.Nat.{zero-mul}
use native.Mathlib.Omega.{arith}
use lib.ListN.{length, take, drop, get_or, length-drop}
use lib.Seq.{length-take-le, drop-drop, get_or-drop}
use Rattle.rules.specs.Outcome.{Outcome, done, refused, by}
use Rattle.rules.specs.Outcome as outcome
use Rattle.rules.specs.Lists.{Bytes, cut}
use Rattle.rules.specs.Values.{Format, first_value, in_normal_form}
use Rattle.rules.specs.Numbers.{refusal}
use Rattle.rules.specs.Record.{times, stored_value}
use Rattle.rules.specs.declared.Refusal.{Refusal}
use Rattle.buffer.proofs.Cases.{by_order}
use Rattle.values.specs.Normals.{AnyNormal}
use Rattle.values.specs.Places.{found, Located}
use Rattle.values.proofs.Cuts.{cut_enough, cut_short, first_own}
use Rattle.records.specs.Walk.{rest_of, Walked}
use Rattle.records.proofs.Walks.{times_turn, times_stop}

-- Where a first value was found, or that it was refused.
pub first_at : {s : Bytes} {at : ℕ} {o : Outcome (Bytes × Bytes)} {r : (Result (ℕ × ℕ) Refusal)} {from next : ℕ} → Located s at o r → r ≡ Ok (from, next)
    → (o ≡ done (take (next - from) (drop from s), drop next s)) × (from ≤ next) × (next ≤ length s)
first_at {s} {at} {o} {r} {from} {next} w q = (sym w.answer ∙ ap (found s) q, (rw q at w.place).1, (rw q at w.place).2)

pub first_none : {s : Bytes} {at : ℕ} {o : Outcome (Bytes × Bytes)} {r : (Result (ℕ × ℕ) Refusal)} {x : Refusal} → Located s at o r → r ≡ Err x → o ≡ refused (refusal x)
first_none {s} {at} {o} {r} {x} w q = sym w.answer ∙ ap (found s) q

module _ (f : Format) (n : ℕ) (bs : Bytes) where
  pub value_missing : {k : outcome.Refusal} → first_value n bs ≡ refused k → rest_of (stored_value f n bs) ≡ refused (by 2)
  unfolding stored_value
  value_missing h = rw h refl

  module _ {v rest : Bytes} (h : first_value n bs ≡ done (v, rest)) where
    pub value_normal : in_normal_form f n v ≡ true → rest_of (stored_value f n bs) ≡ done rest
    unfolding stored_value
    value_normal q = rw (h, q) refl

    pub value_other : in_normal_form f n v ≡ false → rest_of (stored_value f n bs) ≡ refused (by 2)
    unfolding stored_value
    value_other q = rw (h, q) refl

-- A step by where the first value lies, and by whether it is in normal form.
pub value_walked : (f : Format) (n : ℕ) {s : Bytes} {at : ℕ} {r : (Result (ℕ × ℕ) Refusal)} {from next : ℕ} → Located s at (first_value n (drop at s)) r → r ≡ Ok (from, next)
    → (t : Bool) → t ≡ in_normal_form f n (take (next - from) (drop from s)) → Walked s (rest_of (stored_value f n (drop at s))) (then_some t next)
value_walked f n w q true e = let h = first_at w q in record { answer = sym (value_normal f n _ h.0 (sym e)); place = h.2 }
value_walked f n w q false e = record { answer = sym (value_other f n _ (first_at w q).0 (sym e)); place = tt }

pub value_stopped : (f : Format) (n : ℕ) {s : Bytes} {at : ℕ} (r : (Result (ℕ × ℕ) Refusal)) → Located s at (first_value n (drop at s)) r → result_ok r ≡ None
    → Walked s (rest_of (stored_value f n (drop at s))) None
value_stopped f n (Err x) w q = record { answer = sym (value_missing f n _ (first_none w refl)); place = tt }
value_stopped f n (Ok p) w q = absurd (none-some p (sym q))

pub ok_is : (r : (Result (ℕ × ℕ) Refusal)) {p : ℕ × ℕ} → result_ok r ≡ Some p → r ≡ Ok p
ok_is (Ok p) q = ap Ok (same_Some p _ q)
ok_is (Err x) q = absurd (none-some _ q)

below_take : (n : ℕ) (bs : Bytes) → ((i : ℕ) → get_or bs i 0 < 256) → (i : ℕ) → get_or (take n bs) i 0 < 256
below_take zero bs b i = omega arith
below_take (suc n) [] b i = omega arith
below_take (suc n) (x ∷ bs) b zero = b 0
below_take (suc n) (x ∷ bs) b (suc i) = below_take n bs (λ j. b (suc j)) i

-- Values of a length at which all bytes are in normal form: they are n times the length in bytes.
module _ (f : Format) (size : ℕ) (any : AnyNormal f size) where
  any_value : (bs : Bytes) → ((i : ℕ) → get_or bs i 0 < 256) → size ≤ length bs → rest_of (stored_value f size bs) ≡ done (drop size bs)
  any_value bs b l = value_normal f size bs (first_own size bs (λ z. omega (arith, any.0)) ∙ cut_enough 7 size bs l) (any.1 (take size bs) (below_take size bs b) (length-take-le size bs l))

  cut_on : (n : ℕ) (bs : Bytes) → size ≤ length bs → rest_of (cut 2 (n * size) (drop size bs)) ≡ rest_of (cut 2 (suc n * size) bs)
  cut_on n bs l =
      let m : suc n * size ≡ size + n * size = omega arith in
      let d = length-drop size bs in
      by_order (length bs) (size + n * size)
      (λ h. rw (m, cut_short 2 (n * size) (drop size bs) (omega (arith, d)), cut_short 2 (size + n * size) bs h) refl)
      (λ h. rw (m, cut_enough 2 (n * size) (drop size bs) (omega (arith, d)), cut_enough 2 (size + n * size) bs h, drop-drop (n * size) size bs) refl)

  pub values_cut : (n : ℕ) (bs : Bytes) → ((i : ℕ) → get_or bs i 0 < 256) → rest_of (times n (stored_value f size) bs) ≡ rest_of (cut 2 (n * size) bs)
  unfolding times cut
  values_cut zero bs b = rw (zero-mul size) refl
  values_cut (suc n) bs b = by_order (length bs) size
      (λ h. times_stop (stored_value f size) n bs (value_missing f size bs (first_own size bs (λ z. omega (arith, any.0)) ∙ cut_short 7 size bs h))
      ∙ sym (ap rest_of (cut_short 2 (suc n * size) bs (omega arith))))
      (λ h. times_turn (stored_value f size) n bs (any_value bs b h) ∙ values_cut n (drop size bs) (λ i. rw (get_or-drop size bs i 0) (b (size + i))) ∙ cut_on n bs h)
