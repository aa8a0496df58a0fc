-- Byte strings as pairs of digits: what stands at each place, and the cases of a word.
use mathlib.Core.Path.{◌≡◌, refl}
use mathlib.Core.Bool.{true, false, ◌&&◌, and-false}
use mathlib.Core.List.{[], ◌∷◌}
use mathlib.Core.Option.{none, some}
use Prim.Native.Nat.{ℕ, zero, suc, ◌+◌, ◌*◌, ◌/◌, ◌%◌, ◌<◌}
use native.Mathlib.Nat.{le_of_suc-le-suc, not-suc-le-zero}
use native.Mathlib.Omega.{arith}
use borrow.Author.Tests.{ne_eqb}
use lib.Dec.{T, eqb, leb}
use lib.ListN.{length, get_or}
use Rattle.rules.specs.Lists.{Bytes, same}
use Rattle.rules.proofs.Steps.{and_right, true_T}
use Rattle.hexadecimal.specs.Text.{value, glyph, empty_word, all_of_base, paired, parted, is_paired, spelled_bytes}

-- The bytes of a word of digits.

pub length_paired : (w : Bytes) → length (paired w) ≡ length w / 2
unfolding paired
length_paired [] = refl
length_paired (h ∷ []) = refl
length_paired (h ∷ l ∷ w) = let e = length_paired w in omega arith

pub paired_at : (w : Bytes) (i : ℕ) → i < length w / 2 → get_or (paired w) i 0 ≡ 16 * value (get_or w (2 * i) 0) + value (get_or w (2 * i + 1) 0)
unfolding paired
paired_at [] i h = absurd (not-suc-le-zero h)
paired_at (c ∷ []) i h = absurd (not-suc-le-zero h)
paired_at (c ∷ d ∷ w) zero h = refl
paired_at (c ∷ d ∷ w) (suc i) h =
    let e : 2 * suc i ≡ suc (suc (2 * i)) = omega arith in
    let f : suc (suc (2 * i)) + 1 ≡ suc (suc (2 * i + 1)) = omega arith in
    rw (e, f) (paired_at w i (omega arith))

pub paired_digits : (w : Bytes) → is_paired w ≡ true → T (all_of_base 16 w)
unfolding is_paired
paired_digits w e =
    and_right (eqb (length w % 2) 0) (all_of_base 16 w) (and_right (leb 2 (length w)) (eqb (length w % 2) 0 && all_of_base 16 w) (true_T e))

-- The digits of some bytes.

pub length_parted : (bs : Bytes) → length (parted bs) ≡ 2 * length bs
unfolding parted
length_parted [] = refl
length_parted (b ∷ bs) = let e = length_parted bs in omega arith

pub parted_high : (bs : Bytes) (i : ℕ) → i < length bs → get_or (parted bs) (2 * i) 0 ≡ glyph (get_or bs i 0 / 16)
unfolding parted
parted_high [] i h = absurd (not-suc-le-zero h)
parted_high (b ∷ bs) zero h = refl
parted_high (b ∷ bs) (suc i) h =
    let e : 2 * suc i ≡ suc (suc (2 * i)) = omega arith in
    rw e (parted_high bs i (le_of_suc-le-suc h))

pub parted_low : (bs : Bytes) (i : ℕ) → i < length bs → get_or (parted bs) (2 * i + 1) 0 ≡ glyph (get_or bs i 0 % 16)
unfolding parted
parted_low [] i h = absurd (not-suc-le-zero h)
parted_low (b ∷ bs) zero h = refl
parted_low (b ∷ bs) (suc i) h =
    let e : 2 * suc i + 1 ≡ suc (suc (2 * i + 1)) = omega arith in
    rw e (parted_low bs i (le_of_suc-le-suc h))

-- The place after a pair, as a loop counts it.
pub twice_next : (i : ℕ) → 2 * (i + 1) ≡ 2 * i + 1 + 1
twice_next i = omega arith

-- The cases of a word.

pub spelled_bytes_hyphen : (w : Bytes) → same w empty_word ≡ true → spelled_bytes w ≡ some []
unfolding spelled_bytes
spelled_bytes_hyphen w e = rw e

pub spelled_bytes_pairs : (w : Bytes) → same w empty_word ≡ false → is_paired w ≡ true → spelled_bytes w ≡ some (paired w)
unfolding spelled_bytes
spelled_bytes_pairs w e p = rw (e, p)

pub spelled_bytes_none : (w : Bytes) → same w empty_word ≡ false → is_paired w ≡ false → spelled_bytes w ≡ none
unfolding spelled_bytes
spelled_bytes_none w e p = rw (e, p)

pub hyphen_here : (w : Bytes) → length w ≡ 1 → get_or w 0 0 ≡ 45 → same w empty_word ≡ true
unfolding same
hyphen_here [] e h = absurd (omega arith)
hyphen_here (c ∷ []) e h = rw h
hyphen_here (c ∷ d ∷ w) e h = absurd (omega arith)

pub hyphen_not : (w : Bytes) → (length w ≡ 1 → get_or w 0 0 ≡ 45 → ⊥) → same w empty_word ≡ false
unfolding same
hyphen_not [] n = refl
hyphen_not (c ∷ []) n = rw (ne_eqb c 45 (n refl))
hyphen_not (c ∷ d ∷ w) n = and-false (eqb c 45)
