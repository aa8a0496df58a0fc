-- The bytes before the last of a value have the digits before its last, and are all zeros where the magnitude has one digit.
use mathlib.Core.Path.{◌≡◌, refl, sym, ◌∙◌, ap}
use mathlib.Core.Bool.{Bool, true, false, not, ◌&&◌}
use mathlib.Core.List.{[], ◌∷◌, ◌++◌}
use Prim.Native.Nat.{ℕ, zero, suc, ◌+◌, ◌-◌, ◌*◌, ◌/◌, ◌%◌, ◌^◌, ◌<◌}
use native.Mathlib.Nat.{pow-zero, pow-suc, div-lt_iff_lt-mul}
use native.Mathlib.Omega.{arith}
use lib.Dec.{eqb, ltb, lit<}
use lib.ListN.{length, take, get_or}
use lib.Seq.{take_at}
use borrow.Author.Tests.{lt-ltb, le-ltb, eqb-true, eqb-false, eq-eqb, ne_eqb}
use Rattle.rules.specs.Lists.{Bytes, all, digits}
use Rattle.rules.specs.Outcome.{is_done}
use Rattle.rules.specs.Values.{meaning, accepted_minus}
use Rattle.rules.proofs.Steps.{by_test}
use Rattle.rules.proofs.Digits.{spelled_below, own_digits, all_none, all_last}
use Rattle.buffer.proofs.Cases.{by_order}
use Rattle.decimals.specs.Decimals.{decimal_format, digits_of, sign_half, magnitude_of, is_negative, Readable, places, byte_base, inner_written, front, last_written}
use Rattle.decimals.proofs.Halves.{length_digits_of, high_at, unpacked_at}
use Rattle.decimals.proofs.Sound.{Sound, sound, below_ten}
use Rattle.decimals.proofs.Written.{length_front, front_none, front_more, base_some, encoded_front}
use Rattle.decimals.proofs.FirstDigits.{last_digit_of}

-- ---- the bytes before the last

hundreds : (m : ℕ) → 10 ^ (2 * m) ≡ 100 ^ m
hundreds zero = refl
hundreds (suc m) =
    let e : 2 * suc m ≡ suc (suc (2 * m)) = omega arith in
    let h = hundreds m in
    rw (e, pow-suc 10 (suc (2 * m)), pow-suc 10 (2 * m), pow-suc 100 m) (omega arith)

less_one : (p : Bool) (m x : ℕ) → x < 10 ^ places p (suc m) → x / 10 < byte_base p ^ m
unfolding places byte_base
less_one true m x h =
    let e : 2 * suc m - 1 ≡ suc (2 * m) = omega arith in
    rw (← hundreds m) ((div-lt_iff_lt-mul (lit< tt)).1 (rw (e, pow-suc 10 (2 * m)) at h))
less_one false m x h = (div-lt_iff_lt-mul (lit< tt)).1 (rw (pow-suc 10 m) at h)

module _ {p : Bool} {s : Bytes} (v : Sound p s) where
  one_more : length s ≡ suc (length s - 1)
  one_more = let o = v.some in omega arith

  value_digits : digits 10 (places p (suc (length s - 1))) (magnitude_of p s) ≡ digits_of p s
  unfolding magnitude_of
  value_digits = rw (← one_more, ← length_digits_of p s) (own_digits 10 (digits_of p s) (below_ten p s v.nines))

  in_parts : front p (length s - 1) (magnitude_of p s / 10) ++ (last_written p (magnitude_of p s % 10) (sign_half p s) ∷ []) ≡ s
  in_parts = sym (encoded_front p (length s - 1) (magnitude_of p s) (sign_half p s)) ∙ rw value_digits v.whole

  pub before_last : take (length s - 1) s ≡ front p (length s - 1) (magnitude_of p s / 10)
  before_last =
      ap (take (length s - 1)) (sym in_parts) ∙ take_at (front p (length s - 1) (magnitude_of p s / 10)) _ (length s - 1) (length_front p _ _)

  pub before_small : magnitude_of p s / 10 < byte_base p ^ (length s - 1)
  unfolding magnitude_of
  before_small = less_one p (length s - 1) _ (rw (length_digits_of p s, one_more) at (spelled_below 10 (digits_of p s) (below_ten p s v.nines)))

-- ---- whether all are zeros

both_zero : (a b c y : ℕ) → (y ≡ 0 → a ≡ 0) → (y ≡ 0 → b ≡ c) → (a ≡ 0 → b ≡ c → y ≡ 0) → (eqb a 0 && eqb b c) ≡ eqb y 0
both_zero a b c y f g h =
    by_test (eqb y 0) (λ e. let z = eqb-true y 0 e in rw (eq-eqb a 0 (f z), eq-eqb b c (g z), e))
    (λ e. by_test (eqb a 0) (λ q. rw (q, ne_eqb b c (λ r. eqb-false y 0 e (h (eqb-true a 0 q) r)), e)) (λ q. rw (q, e)))

zero_parts : (p : Bool) (y : ℕ) → (eqb (y / byte_base p) 0 && eqb (inner_written p (y % byte_base p)) (inner_written p 0)) ≡ eqb y 0
unfolding byte_base inner_written
zero_parts true y = both_zero (y / 100) (y % 100 / 10 * 16 + y % 100 % 10) 0 y (λ z. omega arith) (λ z. omega arith) (λ z q. omega arith)
zero_parts false y = both_zero (y / 10) (0xF0 + y % 10) 0xF0 y (λ z. omega arith) (λ z. omega arith) (λ z q. omega arith)

all_zeros : (p : Bool) (m y : ℕ) → y < byte_base p ^ m → all (λ b. eqb b (inner_written p 0)) (front p m y) ≡ eqb y 0
all_zeros p zero y h =
    let z : y ≡ 0 = let k = rw (pow-zero (byte_base p)) at h in omega arith in
    rw (front_none p y, z) (all_none (λ b. eqb b (inner_written p 0)))
all_zeros p (suc m) y h =
    rw (front_more p m y, all_last (λ b. eqb b (inner_written p 0)) (front p m (y / byte_base p)) (inner_written p (y % byte_base p)), all_zeros p m (y / byte_base p) ((div-lt_iff_lt-mul (base_some p)).1 (rw (pow-suc (byte_base p) m) at h)))
    (zero_parts p y)

module _ {p : Bool} {s : Bytes} (v : Sound p s) where
  -- a last digit that is not zero, or one before it
  pub above_zero : (magnitude_of p s % 10 ≡ 0 → ⊥) → ltb 0 (magnitude_of p s) ≡ true
  above_zero h = lt-ltb 0 (magnitude_of p s) (by_order 0 (magnitude_of p s) (λ k. k) (λ k. absurd (h (omega arith))))

  pub zero_or_not : {r : Bool} → magnitude_of p s % 10 ≡ 0 → r ≡ all (λ b. eqb b (inner_written p 0)) (take (length s - 1) s)
      → not r ≡ ltb 0 (magnitude_of p s)
  zero_or_not {r} e f =
      let x = magnitude_of p s in
      let g : r ≡ eqb (x / 10) 0 = f ∙ rw (before_last v) (all_zeros p (length s - 1) (x / 10) (before_small v)) in
      by_order 0 x (λ k. rw (g, ne_eqb (x / 10) 0 (λ z. omega arith)) (sym (lt-ltb 0 x k)))
      (λ k. rw (g, eq-eqb (x / 10) 0 (omega arith)) (sym (le-ltb 0 x k)))

-- Whether a value is below zero, by its sign, its last digit and those before it.
module _ (p : Bool) (s : Bytes) (good : is_done (meaning (decimal_format p) s) ≡ true) (minus : accepted_minus (sign_half p s) ≡ true) where
  pub negative_by_last : (magnitude_of p s % 10 ≡ 0 → ⊥) → is_negative p s ≡ true
  unfolding is_negative
  negative_by_last h = rw minus (above_zero (sound p s good) h)

  pub negative_before_last : (r : Bool) → magnitude_of p s % 10 ≡ 0 → r ≡ all (λ b. eqb b (inner_written p 0)) (take (length s - 1) s)
      → is_negative p s ≡ not r
  unfolding is_negative
  negative_before_last r e f = rw minus (sym (zero_or_not (sound p s good) e f))

-- ---- the last digit

pub packed_last_digit : {s : Bytes} → Readable true s → get_or s (length s - 1) 0 / 16 ≡ magnitude_of true s % 10
unfolding places
packed_last_digit {s} v =
    let o = v.some in
    let e : 2 * length s - 1 - 1 ≡ 2 * (length s - 1) = omega arith in
    sym (high_at s (length s - 1) (omega arith)) ∙ rw e at (last_digit_of v)

pub unpacked_last_digit : {s : Bytes} → Readable false s → get_or s (length s - 1) 0 % 16 ≡ magnitude_of false s % 10
unfolding places
unpacked_last_digit {s} v = sym (unpacked_at s (length s - 1)) ∙ last_digit_of v
