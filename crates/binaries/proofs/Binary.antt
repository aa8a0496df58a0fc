-- Format B: a number fits n bytes when all before the last n are zeros, and its bytes are those last n, zeros to the left.
use Rattle.std.specs.Prelude.{None, Option, Some}
use Rattle.fixed.specs.declared.Signed.{Signed}
use mathlib.Core.Path.{◌≡◌, refl, sym, ◌∙◌, ap}
use mathlib.Core.Bool.{Bool, true, false, false≢true}
use mathlib.Core.List.{◌++◌}
use Prim.Native.Nat.{ℕ, zero, suc, ◌+◌, ◌*◌, ◌-◌, ◌%◌, ◌^◌, ◌≤◌, ◌<◌}
use native.Mathlib.Nat.{pow-le-pow_right, mul-le-mul_right}
use native.Mathlib.Numerals.{add-one}
use native.Mathlib.Omega.{arith}
use lib.Dec.{ltb, leb, lit<}
use lib.ListN.{length, drop, take, get_or, replicate, length-drop}
use lib.Seq.{length-take-le, get_or-take}
use Rattle.std.specs.Bool.{MatchBool}
use Rattle.std.specs.List.{AllWithin, HoldsAt}
use borrow.Author.Tests.{lt-ltb, le-ltb, ltb-true, le-leb, lt-leb}
use Rattle.rules.specs.Outcome.{done, is_done}
use Rattle.rules.specs.Limits.{lowest_word}
use Rattle.rules.specs.Lists.{Bytes, bytes_of, spelled, digits}
use Rattle.rules.specs.Values.{number, binary, meaning, normal, converted_bytes, converted, conversion, in_range, in_normal_form}
use Rattle.rules.proofs.Done.{is_done_need, done_need, no_length_byte}
use Rattle.rules.proofs.Digits.{Below, below_drop, spelled_turn, spelled_end, spelled_after, spelled_below, spelled_grows, digits_spelled, own_digits, digits_zero}
use Rattle.buffer.proofs.Cases.{by_order}
use Rattle.fixed.specs.Words.{pick, word_of, value_of}
use Rattle.fixed.proofs.NormalForm.{is_normal_form}

-- Carried from B to B, a value is written as the number that it means.
converted_is : (n : ℕ) (s : Bytes) → converted_bytes binary binary n s ≡ normal binary n (number false (spelled 256 s 0))
unfolding converted_bytes converted meaning conversion in_range
converted_is n s = refl

pub fits_is : (n x : ℕ) → is_done (normal binary n (number false x)) ≡ ltb x (256 ^ n)
unfolding normal
fits_is n x = is_done_need (ltb x (256 ^ n)) (digits 256 n x)

pub normal_is : (n x : ℕ) → x < 256 ^ n → normal binary n (number false x) ≡ done (digits 256 n x)
unfolding normal
normal_is n x h = done_need (ltb x (256 ^ n)) (digits 256 n x) (lt-ltb x (256 ^ n) h)

pub never_minus : (n x : ℕ) → is_done (normal binary n (number true x)) ≡ false
unfolding normal
never_minus n x = refl

-- Four bytes and more hold every word.
pub four_hold : (n x : ℕ) → 4 ≤ n → x < 4294967296 → is_done (normal binary n (number false x)) ≡ true
four_hold n x h l =
    let k : 256 ^ 4 ≤ 256 ^ n = pow-le-pow_right {n = 256} (lit< tt) {i = 4} {j = n} h in
    fits_is n x ∙ lt-ltb x (256 ^ n) (omega arith)

-- The least number that is too large for n bytes, where a word can be.
pub shifted : (n : ℕ) → n < 4 → 1 * 2 ^ (8 * n) % 4294967296 ≡ 256 ^ n
shifted zero h = refl
shifted (suc zero) h = refl
shifted (suc (suc zero)) h = refl
shifted (suc (suc (suc zero))) h = refl
shifted (suc (suc (suc (suc n)))) h = absurd (omega arith)

pub word_bytes : (n : ℕ) (below : Bool) (x : ℕ) → is_done (normal binary n (number below x)) ≡ true
    → digits 256 n x ≡ bytes_of (normal binary n (number below x))
unfolding bytes_of
word_bytes n false x d = rw (normal_is n x (ltb-true x (256 ^ n) (sym (fits_is n x) ∙ d)))
word_bytes n true x d = absurd (false≢true (sym (never_minus n x) ∙ d))

converted_fits : (n : ℕ) (s : Bytes) → is_done (converted_bytes binary binary n s) ≡ ltb (spelled 256 s 0) (256 ^ n)
converted_fits n s = rw (converted_is n s) (fits_is n (spelled 256 s 0))

-- One byte of the walk: a zero changes nothing, another byte makes the number too large for the bytes after it.
module _ (s : Bytes) (i : ℕ) (h : i < length s) where
  pub zero_skips : get_or s i 0 ≡ 0 → spelled 256 (drop (i + 1) s) 0 ≡ spelled 256 (drop i s) 0
  zero_skips e = rw e at (spelled_turn 256 s i 0 h)

  pub too_large : (n : ℕ) → 0 < get_or s i 0 → n + i < length s → 256 ^ n ≤ spelled 256 (drop i s) 0
  too_large n p l =
      let d = get_or s i 0 in
      let e = spelled_turn 256 s i 0 h in
      let f = spelled_after 256 (drop (i + 1) s) (0 * 256 + d) in
      let k : 256 ^ n ≤ 256 ^ length (drop (i + 1) s) = pow-le-pow_right {n = 256} (lit< tt) {i = n} {j = length (drop (i + 1) s)} (rw length-drop (omega arith)) in
      omega (arith, mul-le-mul_right (256 ^ length (drop (i + 1) s)) p)

small : (s : Bytes) (n : ℕ) → Below 256 s → length s ≤ n → spelled 256 s 0 < 256 ^ n
small s n b h =
    let k : 256 ^ length s ≤ 256 ^ n = pow-le-pow_right {n = 256} (lit< tt) {i = length s} {j = n} h in
    omega (arith, spelled_below 256 s b)

-- Every number of so few bytes fits.
pub fits_short : (s : Bytes) (n : ℕ) → Below 256 s → length s ≤ n → is_done (converted_bytes binary binary n s) ≡ true
fits_short s n b h = converted_fits n s ∙ lt-ltb (spelled 256 s 0) (256 ^ n) (small s n b h)

-- All before the last n bytes are zeros where the number fits.
leading : (s : Bytes) (n : ℕ) → spelled 256 s 0 < 256 ^ n → (k : ℕ) → k + n ≤ length s → spelled 256 (drop k s) 0 ≡ spelled 256 s 0
leading s n h zero l = refl
leading s n h (suc k) l =
    let same = leading s n h k (omega arith) in
    by_order 0 (get_or s k 0)
    (λ p. absurd (omega (arith, too_large s k (omega arith) n p (omega arith))))
    (λ z. rw add-one at (zero_skips s k (omega arith) (omega arith)) ∙ same)

-- The test of the bytes before the last n.
module _ (s : Bytes) (n : ℕ) where
  zeros_pass : Below 256 s → (k : ℕ) → length s ≤ n + k → spelled 256 (drop k s) 0 ≡ spelled 256 s 0 → spelled 256 s 0 < 256 ^ n
  zeros_pass b k h same = rw same at (small (drop k s) n (below_drop 256 s k b) (rw length-drop (omega arith)))

  zeros_skip : (k : ℕ) → k ≤ length s → ((i : ℕ) → i < k → get_or s i 0 ≡ 0) → spelled 256 (drop k s) 0 ≡ spelled 256 s 0
  zeros_skip zero l z = refl
  zeros_skip (suc k) l z =
      rw add-one at (zero_skips s k (omega arith) (z k (omega arith))) ∙ zeros_skip k (omega arith) (λ i h. z i (omega arith))

  other_fails : (k : ℕ) → k + n < length s → (get_or s k 0 ≡ 0 → ⊥) → 256 ^ n ≤ spelled 256 s 0
  other_fails k h z =
      by_order (spelled 256 s 0) (256 ^ n)
      (λ p. absurd (omega (arith, leading s n p k (omega arith), too_large s k (omega arith) n (omega (arith, z)) (omega arith))))
      (λ l. l)

  pub fits_by_zeros : Below 256 s → (r : Bool)
      → MatchBool r (AllWithin (λ x. x ≡ 0) (take (length s - n) s) 0 (length (take (length s - n) s))) ((k : ℕ) × (k < length (take (length s - n) s)) × HoldsAt (λ x. x ≡ 0 → ⊥) (take (length s - n) s) k)
      → r ≡ is_done (converted_bytes binary binary n s)
  fits_by_zeros b true h =
      let l = length-take-le (length s - n) s (omega arith) in
      sym (converted_fits n s
      ∙ lt-ltb (spelled 256 s 0) (256 ^ n)
      (zeros_pass b (length s - n) (omega arith) (zeros_skip (length s - n) (omega arith) (λ i k. rw get_or-take at (h i 0 (omega arith) (omega arith))))))
  fits_by_zeros b false (k, less, h) =
      let l = length-take-le (length s - n) s (omega arith) in
      let m : k < length s - n = omega arith in
      sym (converted_fits n s ∙ le-ltb (spelled 256 s 0) (256 ^ n) (other_fails k (omega arith) (rw get_or-take at (h 0))))

module _ (s : Bytes) (n : ℕ) (b : Below 256 s) (fits : is_done (converted_bytes binary binary n s) ≡ true) where
  fitting : spelled 256 s 0 < 256 ^ n
  fitting = ltb-true (spelled 256 s 0) (256 ^ n) (sym (converted_fits n s) ∙ fits)

  bytes_are : bytes_of (converted_bytes binary binary n s) ≡ digits 256 n (spelled 256 s 0)
  unfolding bytes_of
  bytes_are = rw (converted_is n s, normal_is n (spelled 256 s 0) fitting)

  -- The last n bytes, or all with zeros to the left.
  pub last_bytes : n ≤ length s → bytes_of (converted_bytes binary binary n s) ≡ drop (length s - n) s
  last_bytes h =
      let k = length s - n in
      let l : length (drop k s) ≡ n = rw length-drop (omega arith) in
      bytes_are ∙ rw (← leading s n fitting k (omega arith)) (rw l at (own_digits 256 (drop k s) (below_drop 256 s k b)))

  pub padded_bytes : length s ≤ n → bytes_of (converted_bytes binary binary n s) ≡ replicate (n - length s) 0 ++ s
  padded_bytes h =
      let e : n ≡ length s + (n - length s) = omega arith in
      bytes_are ∙ ap (λ m. digits 256 m (spelled 256 s 0)) e ∙ digits_spelled 256 s (n - length s) 0 b ∙ rw (digits_zero 256 (n - length s))

-- The word of a number.
number_word : ℕ → Option Signed
number_word x = pick (leb x lowest_word) (Some (record { negative = false; magnitude = x })) None

word_is : (s : Bytes) → word_of (value_of (meaning binary s)) ≡ number_word (spelled 256 s 0)
unfolding word_of value_of meaning number_word
word_is s = refl

module _ (s : Bytes) (i x : ℕ) (same : spelled 256 (drop i s) x ≡ spelled 256 s 0) where
  pub word_outside : lowest_word < x → None ≡ word_of (value_of (meaning binary s))
  unfolding number_word
  word_outside h =
      let g = spelled_grows 256 (drop i s) x (lit< tt) in
      rw (word_is s, lt-leb (spelled 256 s 0) lowest_word (omega arith))

  pub word_number : length s ≤ i → x ≤ lowest_word → Some (record { negative = false; magnitude = x }) ≡ word_of (value_of (meaning binary s))
  unfolding number_word
  word_number h l = rw (word_is s, ← same, spelled_end 256 s i x h, le-leb x lowest_word l)

-- "zeros to the left": every n bytes are in normal form.
pub binary_normal : (n : ℕ) → 0 < n → (bs : Bytes) → length bs ≡ n → Below 256 bs → in_normal_form binary n bs ≡ true
unfolding meaning
binary_normal n h bs l b =
    is_normal_form binary n bs
    (normal_is n (spelled 256 bs 0) (small bs n b (omega arith)) ∙ ap done (rw l at (own_digits 256 bs b) ∙ sym (no_length_byte n bs h)))
