-- A value as a number: what is read of its digits is the magnitude or too great, and so the word that the value means.
use Rattle.std.specs.Prelude.{None, Some}
use mathlib.Core.Path.{◌≡◌, refl, sym, ◌∙◌}
use mathlib.Core.Bool.{Bool, true, false, ◌&&◌}
use Prim.Native.Nat.{ℕ, ◌+◌, ◌-◌, ◌*◌, ◌/◌, ◌%◌, ◌≤◌, ◌<◌}
use lib.ListN.{length, take, get_or}
use lib.Seq.{length-take-le, get_or-take}
use native.Mathlib.Nat.{lt_of_lt_of_le}
use native.Mathlib.Omega.{arith}
use lib.Dec.{ltb, leb}
use borrow.Author.Tests.{le-leb, lt-leb}
use Rattle.rules.specs.Limits.{lowest_word}
use Rattle.rules.specs.Lists.{Bytes}
use Rattle.rules.specs.Values.{accepted_minus, meaning}
use Rattle.fixed.specs.Words.{word_of, value_of, pick}
use Rattle.decimals.specs.Decimals.{decimal_format, sign_half, magnitude_of, is_negative, Readable, places}
use Rattle.decimals.specs.Numbers.{Reckoned}
use Rattle.decimals.proofs.Sound.{Sound}
use Rattle.decimals.proofs.Halves.{places_some}
use Rattle.decimals.proofs.FirstDigits.{last_digit_of}
use Rattle.decimals.proofs.Spelling.{Spelling, spelling_start, spelling_turn, spelling_over, spelling_end, packed_turn, unpacked_turn}

module _ {p : Bool} {s : Bytes} {x : ℕ} where
  pub reckoned_over : {i : ℕ} → Spelling p s i x → lowest_word < x → Reckoned p s x
  reckoned_over w h = record { reached = spelling_over w; exact = λ k. absurd (omega arith) }

  pub reckoned_end : x ≡ magnitude_of p s → Reckoned p s x
  reckoned_end e = record { reached = omega arith; exact = λ k. e }

-- ---- a byte a turn, and then the last digit

-- How many digits i bytes have.
abbrev pub spot : Bool → ℕ → ℕ
spot true i = 2 * i
spot false i = i

pub record Reading (p : Bool) (s : Bytes) (i x : ℕ) : Type 0 where
  pub spelt : Spelling p s (spot p i) x
  pub small : x ≤ lowest_word

pub reading_start : (p : Bool) (s : Bytes) → Reading p s 0 0
reading_start p s = record { spelt = by_format p; small = omega arith }
  where
    by_format : (p : Bool) → Spelling p s (spot p 0) 0
    by_format true = spelling_start true s
    by_format false = spelling_start false s

module _ {p : Bool} {s : Bytes} {i x b : ℕ} (w : Reading p s i x) (h : i < length (take (length s - 1) s)) (e : b ≡ get_or (take (length s - 1) s) i 0) where
  within : i < length s - 1
  within = let l = length-take-le (length s - 1) s (omega arith) in omega arith

  same : b ≡ get_or s i 0
  same = let k = within in e ∙ rw get_or-take

  pub packed_more : p ≡ true → Spelling p s (spot p (i + 1)) (x * 100 + (b / 16 * 10 + b % 16))
  unfolding places
  packed_more f = rw (f, same) (packed_turn i (rw f at w.spelt) (let k = within in omega arith))

  pub unpacked_more : p ≡ false → Spelling p s (spot p (i + 1)) (x * 10 + b % 16)
  unpacked_more f = rw (f, same) (unpacked_turn i (rw f at w.spelt) (let k = within in omega arith))

pub reading_end : {p : Bool} {s : Bytes} {i x d : ℕ} → Readable p s → Reading p s i x → length (take (length s - 1) s) ≤ i → i ≤ length (take (length s - 1) s)
    → d ≡ magnitude_of p s % 10 → Reckoned p s (x * 10 + d)
unfolding places
reading_end {p} {s} {i} {x} {d} v w h k e =
    let o = v.some in
    let l = length-take-le (length s - 1) s (omega arith) in
    let n : i ≡ length s - 1 = omega arith in
    let q = places_some p (length s) o in
    let f : places p (length s) - 1 + 1 ≡ places p (length s) = omega arith in
    let t = spelling_turn (rw (n, before_last p (length s) o) at w.spelt) (omega arith) in
    reckoned_end (rw (e, ← last_digit_of v) (spelling_end (rw f at t) (omega arith)))
  where
    before_last : (p : Bool) (n : ℕ) → 0 < n → spot p (n - 1) ≡ places p n - 1
    before_last true n o = omega arith
    before_last false n o = refl

-- ---- the word of a value

module _ {p : Bool} {s : Bytes} (v : Sound p s) where
  word_is : word_of (value_of (meaning (decimal_format p) s))
      ≡ pick (leb (magnitude_of p s) lowest_word) (Some (record { negative = is_negative p s; magnitude = magnitude_of p s })) None
  unfolding word_of value_of
  word_is = rw v.means

  pub word_outside : {x : ℕ} → Reckoned p s x → lowest_word < x → None ≡ word_of (value_of (meaning (decimal_format p) s))
  word_outside r h = sym (word_is ∙ rw (lt-leb _ _ (lt_of_lt_of_le h r.reached)))

  pub word_number : (below : Bool) (x : ℕ) → Reckoned p s x → x ≤ lowest_word → below ≡ (accepted_minus (sign_half p s) && ltb 0 x)
      → Some (record { negative = below; magnitude = x }) ≡ word_of (value_of (meaning (decimal_format p) s))
  unfolding is_negative
  word_number below x r h e = sym (word_is ∙ rw (← r.exact h, ← e, le-leb _ _ h))
