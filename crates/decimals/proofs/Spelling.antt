-- Reading a value's digits from the left: x is what those before place i spell, and with those from i on it is the magnitude.
use mathlib.Core.Path.{◌≡◌, refl, sym, ◌∙◌}
use mathlib.Core.Bool.{Bool, true, false}
use mathlib.Core.List.{◌∷◌}
use Prim.Native.Nat.{ℕ, ◌+◌, ◌-◌, ◌*◌, ◌/◌, ◌%◌, ◌^◌, ◌≤◌, ◌<◌}
use native.Mathlib.Nat.{pow-le-pow_right, lt_of_lt_of_le, le_trans}
use native.Mathlib.Numerals.{add-one}
use native.Mathlib.Omega.{arith}
use lib.Dec.{ltb, lit<}
use lib.ListN.{length, drop, get_or, length-drop}
use lib.Seq.{drop-cons}
use borrow.Author.Tests.{lt-ltb, le-ltb}
use Rattle.rules.specs.Lists.{Bytes, spelled}
use Rattle.rules.proofs.Digits.{below_drop, spelled_turn, spelled_end, spelled_below, spelled_full, spelled_grows}
use Rattle.buffer.proofs.Cases.{by_order}
use Rattle.decimals.specs.Decimals.{digits_of, magnitude_of, all_digits, places}
use Rattle.decimals.proofs.Halves.{length_digits_of, high_at, low_at, unpacked_at}
use Rattle.decimals.proofs.Sound.{below_ten}

pub record Spelling (p : Bool) (s : Bytes) (i x : ℕ) : Type 0 where
  pub upto : i ≤ places p (length s)
  pub rest : spelled 10 (drop i (digits_of p s)) x ≡ magnitude_of p s

pub spelling_start : (p : Bool) (s : Bytes) → Spelling p s 0 0
unfolding magnitude_of
spelling_start p s = record { upto = omega arith; rest = refl }

module _ {p : Bool} {s : Bytes} {i x : ℕ} (w : Spelling p s i x) where
  -- the digits from i on: there is one at i
  first : i < places p (length s) → spelled 10 (drop i (digits_of p s)) x ≡ spelled 10 (get_or (digits_of p s) i 0 ∷ drop (i + 1) (digits_of p s)) x
  first h = let l = length_digits_of p s in rw (drop-cons (digits_of p s) i 0 (omega arith), add-one)

  pub spelling_turn : i < places p (length s) → Spelling p s (i + 1) (x * 10 + get_or (digits_of p s) i 0)
  spelling_turn h =
      let l = length_digits_of p s in
      record { upto = omega arith; rest = spelled_turn 10 (digits_of p s) i x (omega arith) ∙ w.rest }

  pub spelling_over : x ≤ magnitude_of p s
  spelling_over = rw w.rest at (spelled_grows 10 (drop i (digits_of p s)) x (lit< tt))

  pub spelling_end : places p (length s) ≤ i → x ≡ magnitude_of p s
  spelling_end h =
      let l = length_digits_of p s in
      sym (spelled_end 10 (digits_of p s) i x (omega arith)) ∙ w.rest

-- ---- a byte a turn; a byte of P has two digits

pub unpacked_turn : {s : Bytes} {x : ℕ} (i : ℕ) → Spelling false s i x → i < length s → Spelling false s (i + 1) (x * 10 + get_or s i 0 % 16)
unfolding places
unpacked_turn {s} i w h = rw (unpacked_at s i) at (spelling_turn w h)

module _ {s : Bytes} {x : ℕ} (i : ℕ) (w : Spelling true s (2 * i) x) where
  pub packed_turn : 2 * i + 1 < places true (length s) → Spelling true s (2 * (i + 1)) (x * 100 + (get_or s i 0 / 16 * 10 + get_or s i 0 % 16))
  packed_turn h =
      let e : 2 * i + 1 + 1 ≡ 2 * (i + 1) = omega arith in
      let f : (x * 10 + get_or s i 0 / 16) * 10 + get_or s i 0 % 16 ≡ x * 100 + (get_or s i 0 / 16 * 10 + get_or s i 0 % 16) = omega arith in
      rw (high_at s i (omega arith), low_at s i h, e, f) at (spelling_turn (spelling_turn w (omega arith)) h)

-- ---- leading zeros

module _ {p : Bool} {s : Bytes} {i : ℕ} (w : Spelling p s i 0) where
  pub spelling_zero : i < places p (length s) → get_or (digits_of p s) i 0 ≡ 0 → Spelling p s (i + 1) 0
  spelling_zero h e = rw e at (spelling_turn w h)

  -- a digit that is not zero with m or more after it: the magnitude has more than m digits
  pub spelling_more : (m : ℕ) → m < places p (length s) - i → (get_or (digits_of p s) i 0 ≡ 0 → ⊥) → ltb (magnitude_of p s) (10 ^ m) ≡ false
  spelling_more m h e =
      let l = length_digits_of p s in
      let f = spelled_full 10 (get_or (digits_of p s) i 0) (drop (i + 1) (digits_of p s)) (omega arith) in
      let g : 10 ^ m ≤ 10 ^ length (drop (i + 1) (digits_of p s)) = pow-le-pow_right (lit< tt) (simp length-drop (omega arith)) in
      le-ltb (magnitude_of p s) (10 ^ m) (rw (← w.rest, first w (omega arith)) (le_trans g f))

  -- at most m digits are left
  pub spelling_fits : (m : ℕ) → all_digits p s ≡ true → places p (length s) - i ≤ m → ltb (magnitude_of p s) (10 ^ m) ≡ true
  spelling_fits m a h =
      let l = length_digits_of p s in
      let f = spelled_below 10 (drop i (digits_of p s)) (below_drop 10 (digits_of p s) i (below_ten p s a)) in
      let g : 10 ^ length (drop i (digits_of p s)) ≤ 10 ^ m = pow-le-pow_right (lit< tt) (simp length-drop (omega arith)) in
      lt-ltb (magnitude_of p s) (10 ^ m) (rw (← w.rest) (lt_of_lt_of_le f g))

-- ---- leading zeros of P, two a byte

module _ {s : Bytes} (i : ℕ) (w : Spelling true s (2 * i) 0) where
  pub packed_zero : 2 * i + 1 < places true (length s) → get_or s i 0 ≡ 0 → Spelling true s (2 * (i + 1)) 0
  packed_zero h z = rw z at (packed_turn i w h)

  pub packed_more : (m : ℕ) → m + (2 * i + 1) < places true (length s) → (get_or s i 0 ≡ 0 → ⊥) → ltb (magnitude_of true s) (10 ^ m) ≡ false
  packed_more m h z =
      let a = high_at s i (omega arith) in
      let b = low_at s i (omega arith) in
      by_order 0 (get_or (digits_of true s) (2 * i) 0) (λ l. spelling_more w m (omega arith) (λ q. omega arith))
      (λ l. spelling_more (spelling_zero w (omega arith) (omega arith)) m (omega arith) (λ q. z (omega arith)))

  -- a digit alone, in the high half of its byte
  pub packed_half : (m : ℕ) → all_digits true s ≡ true → m + (2 * i + 1) ≡ places true (length s) → ltb (get_or s i 0) 16 ≡ ltb (magnitude_of true s) (10 ^ m)
  packed_half m n h =
      let a = high_at s i (omega arith) in
      by_order (get_or s i 0) 16
      (λ l. lt-ltb (get_or s i 0) 16 l ∙ sym (spelling_fits (spelling_zero w (omega arith) (omega arith)) m n (omega arith)))
      (λ l. le-ltb (get_or s i 0) 16 l ∙ sym (spelling_more w m (omega arith) (λ q. omega arith)))
