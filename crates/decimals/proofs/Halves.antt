-- The digits and the sign of P and U bytes by index.
use mathlib.Core.Path.{◌≡◌, refl, ◌∙◌, ap}
use mathlib.Core.Bool.{Bool, true, false}
use mathlib.Core.List.{List, [], ◌∷◌}
use Prim.Native.Nat.{ℕ, zero, suc, ◌+◌, ◌-◌, ◌*◌, ◌/◌, ◌%◌, ◌<◌}
use native.Mathlib.Omega.{arith}
use lib.ListN.{length, get_or, length-map, get_or-map}
use Rattle.rules.specs.Lists.{Bytes, but_last, last}
use Rattle.rules.specs.Values.{halves}
use Rattle.rules.proofs.Lengths.{length_halves, length_but_last}
use Rattle.decimals.specs.Decimals.{digits_of, sign_half, places}

halves_high : (s : List ℕ) (i m : ℕ) → m ≡ 2 * i → get_or (halves s) m 0 ≡ get_or s i 0 / 16
unfolding halves
halves_high [] i m e = refl
halves_high (b ∷ s) zero zero e = refl
halves_high (b ∷ s) zero (suc m) e = absurd (omega arith)
halves_high (b ∷ s) (suc i) zero e = absurd (omega arith)
halves_high (b ∷ s) (suc i) (suc zero) e = absurd (omega arith)
halves_high (b ∷ s) (suc i) (suc (suc m)) e = halves_high s i m (omega arith)

halves_low : (s : List ℕ) (i m : ℕ) → m ≡ 2 * i + 1 → get_or (halves s) m 0 ≡ get_or s i 0 % 16
unfolding halves
halves_low [] i m e = refl
halves_low (b ∷ s) i zero e = absurd (omega arith)
halves_low (b ∷ s) zero (suc zero) e = refl
halves_low (b ∷ s) zero (suc (suc m)) e = absurd (omega arith)
halves_low (b ∷ s) (suc i) (suc zero) e = absurd (omega arith)
halves_low (b ∷ s) (suc i) (suc (suc m)) e = halves_low s i m (omega arith)

but_last_at : (l : List ℕ) (i : ℕ) → i + 1 < length l → get_or (but_last l) i 0 ≡ get_or l i 0
unfolding but_last
but_last_at [] i h = absurd (omega arith)
but_last_at (x ∷ []) i h = absurd (omega arith)
but_last_at (x ∷ y ∷ l) zero h = refl
but_last_at (x ∷ y ∷ l) (suc i) h = but_last_at (y ∷ l) i (omega arith)

last_at : (l : List ℕ) (i : ℕ) → i + 1 ≡ length l → last l ≡ get_or l i 0
unfolding last
last_at [] i e = absurd (omega arith)
last_at (x ∷ []) zero e = refl
last_at (x ∷ []) (suc i) e = absurd (omega arith)
last_at (x ∷ y ∷ l) zero e = absurd (omega arith)
last_at (x ∷ y ∷ l) (suc i) e = last_at (y ∷ l) i (omega arith)

pub length_digits_of : (p : Bool) (s : Bytes) → length (digits_of p s) ≡ places p (length s)
unfolding digits_of places
length_digits_of true s = length_but_last (halves s) ∙ rw (length_halves s)
length_digits_of false s = length-map s (λ b. b % 16)

pub places_some : (p : Bool) (n : ℕ) → 0 < n → 0 < places p n
unfolding places
places_some true n h = omega arith
places_some false n h = h

-- ---- a digit by the byte that holds it

pub packed_high : (s : Bytes) (i : ℕ) → i < places true (length s) → i % 2 ≡ 0 → get_or (digits_of true s) i 0 ≡ get_or s (i / 2) 0 / 16
unfolding digits_of places
packed_high s i h e = but_last_at (halves s) i (rw (length_halves s) (omega arith)) ∙ halves_high s (i / 2) i (omega arith)

pub packed_low : (s : Bytes) (i : ℕ) → i < places true (length s) → (i % 2 ≡ 0 → ⊥) → get_or (digits_of true s) i 0 ≡ get_or s (i / 2) 0 % 16
unfolding digits_of places
packed_low s i h e = but_last_at (halves s) i (rw (length_halves s) (omega arith)) ∙ halves_low s (i / 2) i (omega arith)

-- the same by the byte
module _ (s : Bytes) (i : ℕ) where
  half : 2 * i / 2 ≡ i
  half = omega arith

  pub high_at : 2 * i < places true (length s) → get_or (digits_of true s) (2 * i) 0 ≡ get_or s i 0 / 16
  high_at h = packed_high s (2 * i) h (omega arith) ∙ ap (λ j. get_or s j 0 / 16) half

  pub low_at : 2 * i + 1 < places true (length s) → get_or (digits_of true s) (2 * i + 1) 0 ≡ get_or s i 0 % 16
  low_at h =
      let e : (2 * i + 1) / 2 ≡ i = omega arith in
      packed_low s (2 * i + 1) h (λ q. omega arith) ∙ ap (λ j. get_or s j 0 % 16) e

pub unpacked_at : (s : Bytes) (i : ℕ) → get_or (digits_of false s) i 0 ≡ get_or s i 0 % 16
unfolding digits_of
unpacked_at s i = get_or-map (λ b. b % 16) s i 0

-- ---- the sign, in the last byte

pub packed_sign : (s : Bytes) → 0 < length s → sign_half true s ≡ get_or s (length s - 1) 0 % 16
unfolding sign_half
packed_sign s h =
    last_at (halves s) (2 * length s - 1) (rw (length_halves s) (omega arith)) ∙ halves_low s (length s - 1) (2 * length s - 1) (omega arith)

pub unpacked_sign : (s : Bytes) → 0 < length s → sign_half false s ≡ get_or s (length s - 1) 0 / 16
unfolding sign_half
unpacked_sign s h = ap (λ b. b / 16) (last_at s (length s - 1) (omega arith))
