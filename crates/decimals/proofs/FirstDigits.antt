-- What the first j digits of a value spell: it ends in the last of them, and before that is what one digit less spells.
use mathlib.Core.Path.{◌≡◌, sym, ◌∙◌, ap}
use mathlib.Core.Bool.{Bool, true, false}
use Prim.Native.Nat.{ℕ, zero, suc, ◌+◌, ◌-◌, ◌*◌, ◌/◌, ◌%◌, ◌≤◌, ◌<◌}
use native.Mathlib.Omega.{arith}
use lib.ListN.{length, take, get_or}
use lib.Seq.{take-suc, take_all}
use Rattle.rules.specs.Lists.{Bytes}
use Rattle.rules.proofs.Digits.{spelled_none, spelled_snoc}
use Rattle.decimals.specs.Decimals.{digits_of, magnitude_of, Readable, places}
use Rattle.decimals.specs.Conversion.{first_spelled}
use Rattle.decimals.proofs.Halves.{length_digits_of, places_some}
use Rattle.decimals.proofs.Sound.{below_ten}

module _ {p : Bool} {s : Bytes} (v : Readable p s) where
  first_more : (j : ℕ) → j < places p (length s) → first_spelled p s (suc j) ≡ first_spelled p s j * 10 + get_or (digits_of p s) j 0
  unfolding first_spelled
  first_more j h =
      let l = length_digits_of p s in
      rw (take-suc (digits_of p s) j 0 (omega arith)) (spelled_snoc 10 (take j (digits_of p s)) (get_or (digits_of p s) j 0) 0)

  pub first_none : first_spelled p s 0 ≡ 0
  unfolding first_spelled
  first_none = spelled_none 10 0

  pub first_all : first_spelled p s (places p (length s)) ≡ magnitude_of p s
  unfolding first_spelled magnitude_of
  first_all = let l = length_digits_of p s in rw (take_all (places p (length s)) (digits_of p s) (omega arith))

  -- the last of the first j digits, and what those before it spell
  pub first_digit : (j : ℕ) → 0 < j → j ≤ places p (length s) → first_spelled p s j % 10 ≡ get_or (digits_of p s) (j - 1) 0
  first_digit j o h =
      let e : j ≡ suc (j - 1) = omega arith in
      let m = first_more (j - 1) (omega arith) in
      let d = below_ten p s v.nines (j - 1) in
      ap (λ k. first_spelled p s k % 10) e ∙ omega arith

  pub first_less : (j : ℕ) → j ≤ places p (length s) → first_spelled p s (j - 1) ≡ first_spelled p s j / 10
  first_less zero h = let z = first_none in omega arith
  first_less (suc j) h =
      let e : suc j - 1 ≡ j = omega arith in
      let m = first_more j h in
      let d = below_ten p s v.nines j in
      rw e (omega arith)

  pub first_two_less : (j : ℕ) → j ≤ places p (length s) → first_spelled p s (j - 2) ≡ first_spelled p s j / 100
  first_two_less j h =
      let e : j - 1 - 1 ≡ j - 2 = omega arith in
      let a = first_less j h in
      let b = rw e at (first_less (j - 1) (omega arith)) in
      omega arith

  first_but_one : first_spelled p s (places p (length s) - 1) ≡ magnitude_of p s / 10
  first_but_one = first_less (places p (length s)) (omega arith) ∙ rw first_all

  pub last_digit_of : get_or (digits_of p s) (places p (length s) - 1) 0 ≡ magnitude_of p s % 10
  last_digit_of = sym (first_digit (places p (length s)) (places_some p (length s) v.some) (omega arith)) ∙ rw first_all

-- what the digits before the last spell
pub unpacked_but_one : {s : Bytes} → Readable false s → first_spelled false s (length s - 1) ≡ magnitude_of false s / 10
unfolding places
unpacked_but_one v = first_but_one v

pub packed_but_one : {s : Bytes} → Readable true s → first_spelled true s (2 * length s - 2) ≡ magnitude_of true s / 10
unfolding places
packed_but_one {s} v =
    let e : 2 * length s - 1 - 1 ≡ 2 * length s - 2 = omega arith in
    rw e at (first_but_one v)
