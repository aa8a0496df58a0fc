-- Format F without ℤ: the sign and magnitude of an i32's bits, its bytes, and that every two or four bytes are in normal form.
use mathlib.Core.Path.{◌≡◌, refl, sym, ap, ◌∙◌}
use mathlib.Core.Bool.{Bool, true, false}
use mathlib.Core.Logic.{◌⊎◌, ⊎_elim}
use Prim.Native.Nat.{ℕ, zero, suc, ◌+◌, ◌-◌, ◌*◌, ◌/◌, ◌%◌, ◌^◌, ◌<◌, ◌≤◌}
use native.Mathlib.Omega.{arith}
use lib.Dec.{ltb, leb}
use lib.IntN.{ℤ}
use lib.ListN.{length}
use borrow.Author.Tests.{lt-ltb, le-ltb, le-leb, ltb-true, leb-true}
use mir.Syntax.{w32}
use mir.Val.{SFits, to_z, of_z}
use mir.Facts.{to_z-of_z}
use Rattle.buffer.proofs.Cases.{by_order}
use Rattle.rules.specs.Outcome.{done, ◌>>=◌, is_done}
use Rattle.rules.specs.Lists.{Bytes, bytes_of, digits, spelled}
use Rattle.rules.specs.Values.{number, fixed, meaning, normal, twos_complement, in_normal_form}
use Rattle.fixed.specs.Signs.{sign_of, with_sign, greatest}
use Rattle.fixed.specs.Words.{signed_value}
use Rattle.rules.proofs.Done.{is_done_need, done_need, no_length_byte}
use Rattle.rules.proofs.Digits.{Below, own_digits, spelled_below}
use Rattle.fixed.proofs.NormalForm.{is_normal_form}

pub not_2 : {n : ℕ} → (n ≡ 2) ⊎ (n ≡ 4) → (n ≡ 4 → ⊥) → n ≡ 2
not_2 o no-4 = ⊎_elim (λ h. h) (λ h. absurd (no-4 h)) o

-- Bytes that say no minus, and bytes that say one.
pub twos_plus : (size n : ℕ) → n < 2 ^ (8 * size - 1) → twos_complement size n ≡ number false n
unfolding twos_complement
twos_plus size n h = rw (lt-ltb n (2 ^ (8 * size - 1)) h, twos_complement)

pub twos_minus : (size n : ℕ) → 2 ^ (8 * size - 1) ≤ n → twos_complement size n ≡ number true (2 ^ (8 * size) - n)
unfolding twos_complement
twos_minus size n h = rw (le-ltb n (2 ^ (8 * size - 1)) h, twos_complement)

-- The sign and magnitude of an i32's bits; of two bytes, with the sign's bit copied upwards.
pub sign_bits : (n : ℕ) → n < 4294967296 → signed_value (sign_of (to_z w32 n)) ≡ twos_complement 4 n
sign_bits n h =
    by_order n 0x80000000
    (λ l. rw (lt-ltb n 0x80000000 l) (sym (twos_plus 4 n l)))
    (λ l. rw (le-ltb n 0x80000000 l) (ap (number true) (omega arith) ∙ sym (twos_minus 4 n l)))

pub low_bits : (n : ℕ) → n < 32768 → twos_complement 4 n ≡ twos_complement 2 n
low_bits n h = twos_plus 4 n (omega arith) ∙ sym (twos_plus 2 n h)

pub high_bits : (n : ℕ) → 32768 ≤ n → n < 65536 → twos_complement 4 (n + 4294901760) ≡ twos_complement 2 n
high_bits n h l = twos_minus 4 (n + 4294901760) (omega arith) ∙ ap (number true) (omega arith) ∙ sym (twos_minus 2 n h)

-- A result r that is the number of the bits n.
pub decoded : (r : ℤ) (n : ℕ) → SFits w32 r → r ≡ to_z w32 n → n < 4294967296
    → signed_value (sign_of (to_z w32 (of_z w32 r))) ≡ twos_complement 4 n
decoded r n f e h = ap (λ z. signed_value (sign_of z)) (to_z-of_z f ∙ e) ∙ sign_bits n h

-- The ranges of n bytes.
pub fits_plus : (n x : ℕ) → is_done (normal fixed n (number false x)) ≡ ltb x (2 ^ (8 * n - 1))
unfolding normal
fits_plus n x = is_done_need (ltb x (2 ^ (8 * n - 1))) (digits 256 n x)

pub fits_minus : (n x : ℕ) → is_done (normal fixed n (number true x)) ≡ leb x (2 ^ (8 * n - 1))
unfolding normal
fits_minus n x = is_done_need (leb x (2 ^ (8 * n - 1))) (digits 256 n (2 ^ (8 * n) - x))

plus_normal : (n x : ℕ) → x < 2 ^ (8 * n - 1) → normal fixed n (number false x) ≡ done (digits 256 n x)
unfolding normal
plus_normal n x h = done_need (ltb x (2 ^ (8 * n - 1))) (digits 256 n x) (lt-ltb x (2 ^ (8 * n - 1)) h)

minus_normal : (n x : ℕ) → x ≤ 2 ^ (8 * n - 1) → normal fixed n (number true x) ≡ done (digits 256 n (2 ^ (8 * n) - x))
unfolding normal
minus_normal n x h = done_need (leb x (2 ^ (8 * n - 1))) (digits 256 n (2 ^ (8 * n) - x)) (le-leb x (2 ^ (8 * n - 1)) h)

plus_below : (n x : ℕ) → is_done (normal fixed n (number false x)) ≡ true → x < 2 ^ (8 * n - 1)
plus_below n x d = ltb-true x (2 ^ (8 * n - 1)) (sym (fits_plus n x) ∙ d)

minus_upto : (n x : ℕ) → is_done (normal fixed n (number true x)) ≡ true → x ≤ 2 ^ (8 * n - 1)
minus_upto n x d = leb-true x (2 ^ (8 * n - 1)) (sym (fits_minus n x) ∙ d)

-- What fits two or four bytes fits an i32.
pub fixed_room : (n : ℕ) → (n ≡ 2) ⊎ (n ≡ 4) → (below : Bool) (x : ℕ) → is_done (normal fixed n (number below x)) ≡ true → x ≤ greatest below
fixed_room n o false x d =
    let h = plus_below n x d in
    ⊎_elim (λ e. omega (arith, rw e at h)) (λ e. omega (arith, rw e at h)) o
fixed_room n o true x d =
    let h = minus_upto n x d in
    ⊎_elim (λ e. omega (arith, rw e at h)) (λ e. omega (arith, rw e at h)) o

-- The low two of four bytes.
low_two : (x y : ℕ) → x ≡ y + 4294901760 → digits 256 2 x ≡ digits 256 2 y
unfolding digits
low_two x y e =
    let p : x / 256 % 256 ≡ y / 256 % 256 = omega arith in
    let q : x % 256 ≡ y % 256 = omega arith in
    rw (p, q)

zeros_2 : digits 256 2 0 ≡ digits 256 2 65536
unfolding digits
zeros_2 = refl

zeros_4 : digits 256 4 0 ≡ digits 256 4 4294967296
unfolding digits
zeros_4 = refl

minus_digits : (n : ℕ) → (n ≡ 2) ⊎ (n ≡ 4) → (x : ℕ) → x ≤ 2 ^ (8 * n - 1)
    → digits 256 n (of_z w32 (with_sign true x)) ≡ digits 256 n (2 ^ (8 * n) - x)
minus_digits n o zero h = ⊎_elim (λ e. rw e zeros_2) (λ e. rw e zeros_4) o
minus_digits n o (suc k) h =
    ⊎_elim
    (λ e. let l = rw e at h in rw e (low_two (4294967296 - suc k) (65536 - suc k) (omega arith)))
    (λ e. rw e)
    o

-- The bits of an i32 are the bytes of format F.
pub fixed_bytes : (n : ℕ) → (n ≡ 2) ⊎ (n ≡ 4) → (below : Bool) (x : ℕ) → is_done (normal fixed n (number below x)) ≡ true
    → digits 256 n (of_z w32 (with_sign below x)) ≡ bytes_of (normal fixed n (number below x))
unfolding bytes_of
fixed_bytes n o false x d = rw (plus_normal n x (plus_below n x d))
fixed_bytes n o true x d = rw (minus_normal n x (minus_upto n x d)) (minus_digits n o x (minus_upto n x d))

-- Bytes of format F give themselves back, whatever they are.
module _ (n : ℕ) (bs : Bytes) (size : length bs ≡ n) (b : Below 256 bs) (whole : 256 ^ n ≡ 2 ^ (8 * n)) (halved : 2 ^ (8 * n) ≡ 2 ^ (8 * n - 1) + 2 ^ (8 * n - 1)) where
  back : digits 256 n (spelled 256 bs 0) ≡ bs
  back = rw size at (own_digits 256 bs b)

  again_plus : spelled 256 bs 0 < 2 ^ (8 * n - 1) → normal fixed n (twos_complement n (spelled 256 bs 0)) ≡ done bs
  again_plus h = rw (twos_plus n (spelled 256 bs 0) h) (plus_normal n (spelled 256 bs 0) h ∙ ap done back)

  again_minus : 2 ^ (8 * n - 1) ≤ spelled 256 bs 0 → normal fixed n (twos_complement n (spelled 256 bs 0)) ≡ done bs
  again_minus h =
      let l : spelled 256 bs 0 < 2 ^ (8 * n) = rw (size, whole) at (spelled_below 256 bs b) in
      let e : 2 ^ (8 * n) - (2 ^ (8 * n) - spelled 256 bs 0) ≡ spelled 256 bs 0 = omega arith in
      rw (twos_minus n (spelled 256 bs 0) h)
      (minus_normal n (2 ^ (8 * n) - spelled 256 bs 0) (omega arith) ∙ rw e (ap done back))

  again : (meaning fixed bs >>= normal fixed n) ≡ done bs
  unfolding meaning
  again = rw size (by_order (spelled 256 bs 0) (2 ^ (8 * n - 1)) again_plus again_minus)

-- "one only": every two or four bytes are in normal form.
pub fixed_normal : (n : ℕ) → (n ≡ 2) ⊎ (n ≡ 4) → (bs : Bytes) → length bs ≡ n → Below 256 bs → in_normal_form fixed n bs ≡ true
fixed_normal n o bs l b =
    ⊎_elim
    (λ e. rw e (is_normal_form fixed 2 bs (again 2 bs (l ∙ e) b refl refl ∙ ap done (sym (no_length_byte 2 bs (omega arith))))))
    (λ e. rw e (is_normal_form fixed 4 bs (again 4 bs (l ∙ e) b refl refl ∙ ap done (sym (no_length_byte 4 bs (omega arith))))))
    o
