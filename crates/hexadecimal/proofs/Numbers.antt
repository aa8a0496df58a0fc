-- Numbers and their decimal digits: what a loop over them keeps.
use Rattle.std.specs.Prelude.{None, Some, Option as Optional, IfNone, IfSome, unwrap_or}
use mathlib.Core.Path.{◌≡◌, refl, sym, ◌∙◌, ap}
use mathlib.Core.Bool.{true, false, and-false}
use mathlib.Core.List.{map}
use mathlib.Core.Option.{none, some}
use Prim.Native.Nat.{ℕ, zero, suc, ◌+◌, ◌*◌, ◌-◌, ◌/◌, ◌%◌, ◌^◌, ◌≤◌, ◌<◌}
use native.Mathlib.Nat.{pow-suc, pow-le-pow_right}
use native.Mathlib.Numerals.{add-one}
use native.Mathlib.Omega.{arith}
use borrow.Author.Tests.{le-leb}
use lib.Dec.{ltb, lit<, ltb→lt}
use Rattle.std.proofs.lemmas.Bool.Decides.{nat_tests}
use Rattle.std.proofs.lemmas.List.{get_or-map}
use lib.ListN.{length, take, drop, get_or, length-map}
use lib.Seq.{take_all, take-length}
use Rattle.std.specs.Char.{is_ascii_digit}
use Rattle.rules.specs.Lists.{Bytes, digits, spelled}
use Rattle.rules.proofs.Digits.{length_digits, digit_next, spelled_turn, spelled_end}
use Rattle.rules.proofs.Steps.{true_T}
use Rattle.hexadecimal.specs.Text.{value, glyph, is_number, spelled_number, number, decimal_places, decimal_word}
use Rattle.buffer.proofs.Loops.{Scan, scan_start, scan_turn, scan_stop, scan_end}

pub below_million : (i : ℕ) → i ≤ 6 → 10 ^ i ≤ 1000000
below_million i h = pow-le-pow_right {n = 10} (lit< tt) {i = i} {j = 6} h

-- The decimal digits are those of the library.
decimal_is : (c : ℕ) → is_ascii_digit c ≡ ltb (value c) 10
unfolding value
decimal_is c = grind (arith, nat_tests)

decimal_value : (c : ℕ) → is_ascii_digit c ≡ true → value c ≡ c - 48
unfolding value
decimal_value c e = grind (arith, nat_tests)

-- Reading: the first i characters of a word are decimal digits and spell n, and what they and the others spell is the whole.
pub record Reads (w : Bytes) (i n : ℕ) : Type 0 where
  pub small : n < 10 ^ i
  pub spells : spelled 10 (drop i (map value w)) n ≡ spelled_number w
  pub digits : Scan (λ c. ltb (value c) 10) (length w) w i

pub reads_start : (w : Bytes) → Reads w 0 0
reads_start w = record { small = lit< tt; spells = refl; digits = scan_start (omega arith) }

module _ (w : Bytes) (i n : ℕ) (r : Reads w i n) where
  pub reads_turn : i < length w → is_ascii_digit (get_or w i 0) ≡ true → Reads w (i + 1) (n * 10 + (get_or w i 0 - 48))
  reads_turn h e =
      let d = get_or w i 0 in
      let t : ltb (value d) 10 ≡ true = sym (decimal_is d) ∙ e in
      let m = get_or-map value w i 0 0 h in
      let k = ltb→lt (value d) 10 (true_T t) in
      let p = r.small in
      rw (← decimal_value d e) (record {
        small = rw (add-one, pow-suc 10 i) (omega arith);
        spells = rw (← m) (spelled_turn 10 (map value w) i n (omega (arith, length-map w value)) ∙ r.spells);
        digits = scan_turn r.digits h t;
      })

  pub reads_stop : i < length w → is_ascii_digit (get_or w i 0) ≡ false → number w ≡ none
  unfolding number is_number
  reads_stop h e = rw (← rw take-length at (scan_stop r.digits h (sym (decimal_is (get_or w i 0)) ∙ e)), and-false)

  pub reads_end : length w ≤ i → 1 ≤ length w → length w ≤ 6 → number w ≡ some n
  unfolding number is_number
  reads_end h k l =
      let a = rw take-length at (scan_end r.digits h) in
      let e = sym (spelled_end 10 (map value w) i n (omega (arith, length-map w value))) ∙ r.spells in
      rw (le-leb 1 (length w) k, le-leb (length w) 6 l, ← a) (ap some (sym e))

-- Writing: how many digits there are.
pub length_decimal : (n : ℕ) → length (decimal_word n) ≡ decimal_places n
unfolding decimal_word
length_decimal n = length-map (digits 10 (decimal_places n) n) glyph ∙ length_digits 10 (decimal_places n) n

pub places_most : (n : ℕ) → decimal_places n ≤ 6
unfolding decimal_places
places_most n = grind (arith, nat_tests)

pub decimal_short : (n : ℕ) → length (decimal_word n) ≤ 6
decimal_short n = omega (arith, length_decimal n, places_most n)

-- What is left of a number has the digits that are still to write.
abbrev pub Left : ℕ → ℕ → ℕ → ℕ → Type 0
Left n k i rest = (i ≤ k) × (take i (digits 10 k n) ≡ digits 10 i rest)

module _ (n k i rest : ℕ) (h : 0 < i) (l : Left n k i rest) where
  pub left_turn : Left n k (i - 1) (rest / 10)
  left_turn = (omega (arith, l.0), (digit_next 10 (digits 10 k n) i rest h l.1).1)

  digit_left : rest % 10 ≡ get_or (digits 10 k n) (i - 1) 0
  digit_left = (digit_next 10 (digits 10 k n) i rest h l.1).0

pub left_digit : (n i rest : ℕ) → 0 < i → Left n (decimal_places n) i rest → glyph (rest % 10) ≡ get_or (decimal_word n) (i - 1) 0
unfolding decimal_word
left_digit n i rest h l =
    let z = length_digits 10 (decimal_places n) n in
    ap glyph (digit_left n (decimal_places n) i rest h l)
    ∙ sym (get_or-map glyph (digits 10 (decimal_places n) n) (i - 1) 0 0 (omega (arith, l.0)))

pub left_start : (n : ℕ) → Left n (decimal_places n) (decimal_places n) n
left_start n = (omega arith, take_all (decimal_places n) (digits 10 (decimal_places n) n) (omega (arith, length_digits 10 (decimal_places n) n)))

-- The places of a number by its logarithm.
pub places_log : (n k : ℕ) → n < 1000000 → 10 ^ k ≤ n → n < 10 * 10 ^ k → k + 1 ≡ decimal_places n
unfolding decimal_places
places_log n zero h l m = grind (arith, nat_tests)
places_log n (suc zero) h l m = grind (arith, nat_tests)
places_log n (suc (suc zero)) h l m = grind (arith, nat_tests)
places_log n (suc (suc (suc zero))) h l m = grind (arith, nat_tests)
places_log n (suc (suc (suc (suc zero)))) h l m = grind (arith, nat_tests)
places_log n (suc (suc (suc (suc (suc zero))))) h l m = grind (arith, nat_tests)
places_log n (suc (suc (suc (suc (suc (suc k)))))) h l m =
    let p = pow-le-pow_right {n = 10} (lit< tt) {i = 6} {j = suc (suc (suc (suc (suc (suc k)))))} (omega arith) in
    absurd (omega arith)

pub places_counted : (n : ℕ) (o : Optional ℕ) → n < 1000000 → IfNone o (n ≡ 0) → IfSome o (λ k. 10 ^ k ≤ n) → IfSome o (λ k. n < 10 * 10 ^ k)
    → unwrap_or o 0 + 1 ≡ decimal_places n
unfolding decimal_places
places_counted n None h z l m = rw z
places_counted n (Some k) h z l m = places_log n k h l m
