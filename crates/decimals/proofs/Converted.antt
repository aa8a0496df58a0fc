-- The bytes of a value in the other format, two digits of U for a byte of P and a half of P for a byte of U, and in the same format.
use mathlib.Core.Path.{◌≡◌, refl, sym, ◌∙◌}
use mathlib.Core.Bool.{Bool, true, false}
use mathlib.Core.List.{◌∷◌, [], ◌++◌}
use Prim.Native.Nat.{ℕ, zero, suc, ◌+◌, ◌-◌, ◌*◌, ◌/◌, ◌%◌, ◌≤◌, ◌<◌}
use native.Mathlib.Omega.{arith}
use lib.ListN.{length, take, drop, get_or, replicate}
use Rattle.rules.specs.Lists.{Bytes}
use Rattle.decimals.specs.Decimals.{magnitude_of, Readable, places, inner_written, front}
use Rattle.decimals.specs.Conversion.{first_spelled}
use Rattle.decimals.proofs.Halves.{packed_high, packed_low, unpacked_at}
use Rattle.decimals.proofs.Sound.{Sound}
use Rattle.decimals.proofs.Written.{front_drop, front_after_zeros}
use Rattle.decimals.proofs.FirstDigits.{first_none, first_digit, first_less}
use Rattle.decimals.proofs.Before.{before_last, before_small}

-- two digits of U as a byte of P
module _ {s : Bytes} (v : Readable false s) (j : ℕ) where
  pub pair_two : 1 < j → j ≤ length s → get_or s (j - 2) 0 % 16 * 16 + get_or s (j - 1) 0 % 16 ≡ inner_written true (first_spelled false s j % 100)
  unfolding places inner_written
  pair_two o h =
      let e : j - 1 - 1 ≡ j - 2 = omega arith in
      let a = first_digit v j (omega arith) h ∙ unpacked_at s (j - 1) in
      let b = rw e at (first_digit v (j - 1) (omega arith) (omega arith)) ∙ unpacked_at s (j - 2) in
      let c = first_less v j h in
      omega arith

  pub pair_one : j ≡ 1 → get_or s 0 0 % 16 ≡ inner_written true (first_spelled false s j % 100)
  unfolding places inner_written
  pair_one e =
      let o = v.some in
      let a = first_digit v 1 (omega arith) o ∙ unpacked_at s 0 in
      let c = first_less v 1 o in
      let z = first_none v in
      rw e (omega arith)

  pub pair_none : j ≡ 0 → 0 ≡ inner_written true (first_spelled false s j % 100)
  unfolding inner_written
  pair_none e = rw (e, first_none v)

-- a digit of P
module _ {s : Bytes} (v : Readable true s) (j : ℕ) where
  pub half_none : j ≡ 0 → 0 ≡ first_spelled true s j % 10
  half_none e = rw (e, first_none v)

  pub half_low : (j ≡ 0 → ⊥) → j < 2 * length s → j % 2 ≡ 0 → get_or s ((j - 1) / 2) 0 % 16 ≡ first_spelled true s j % 10
  unfolding places
  half_low o h e = sym (first_digit v j (omega arith) (omega arith) ∙ packed_low s (j - 1) (omega arith) (λ q. omega arith))

  pub half_high : (j ≡ 0 → ⊥) → j < 2 * length s → (j % 2 ≡ 0 → ⊥) → get_or s ((j - 1) / 2) 0 / 16 ≡ first_spelled true s j % 10
  unfolding places
  half_high o h e = sym (first_digit v j (omega arith) (omega arith) ∙ packed_high s (j - 1) (omega arith) (omega arith))

take_of_drop : (a m : ℕ) (s : Bytes) (k : ℕ) → m ≡ a + k → take k (drop a s) ≡ drop a (take m s)
take_of_drop zero m s k e =
    let q : m ≡ k = omega arith in
    rw q
take_of_drop (suc a) zero s k e = absurd (omega arith)
take_of_drop (suc a) (suc m) [] zero e = refl
take_of_drop (suc a) (suc m) [] (suc k) e = refl
take_of_drop (suc a) (suc m) (b ∷ s) k e = take_of_drop a m s k (omega arith)

-- to n bytes of the same format: the last of them, or zeros and then all
module _ {p : Bool} {s : Bytes} (v : Sound p s) (n : ℕ) where
  pub copied_last : 0 < n → n < length s → take (length s - 1 - (length s - n)) (drop (length s - n) s) ≡ front p (n - 1) (magnitude_of p s / 10)
  copied_last o h =
      let e : length s - 1 - (length s - n) ≡ n - 1 = omega arith in
      let f : length s - n + (n - 1) ≡ length s - 1 = omega arith in
      rw (e, take_of_drop (length s - n) (length s - 1) s (n - 1) (omega arith), before_last v, ← f) (front_drop p (length s - n) (n - 1) (magnitude_of p s / 10))

  pub copied_all : length s ≤ n → replicate (n - length s) (inner_written p 0) ++ take (length s - 1) s ≡ front p (n - 1) (magnitude_of p s / 10)
  copied_all h =
      let o = v.some in
      let e : n - length s + (length s - 1) ≡ n - 1 = omega arith in
      rw (before_last v, ← e) (sym (front_after_zeros p (n - length s) (length s - 1) (magnitude_of p s / 10) (before_small v)))
