-- Bytes read from the left into the number that they spell: the invariant of the loop as a record, its start, its turn and its end.
use mathlib.Core.Path.{◌≡◌, refl, sym, ◌∙◌}
use mathlib.Core.List.{List}
use Prim.Native.Nat.{ℕ, ◌+◌, ◌*◌, ◌^◌, ◌≤◌, ◌<◌}
use native.Mathlib.Nat.{pow-zero, pow-suc, pow-le-pow_right}
use native.Mathlib.Numerals.{add-one}
use native.Mathlib.Omega.{arith}
use lib.Dec.{lit<}
use lib.ListN.{length, drop, get_or}
use Rattle.rules.specs.Lists.{spelled}
use Rattle.rules.proofs.Digits.{spelled_turn, spelled_end}

pub record Reading (s : List ℕ) (n i : ℕ) : Type 0 where
  pub upto : i ≤ length s
  pub small : n < 256 ^ i
  pub left : spelled 256 (drop i s) n ≡ spelled 256 s 0

pub reading_start : (s : List ℕ) → Reading s 0 0
reading_start s = record { upto = omega arith; small = rw (pow-zero 256) (omega arith); left = refl }

module _ {s : List ℕ} {n i : ℕ} (r : Reading s n i) where
  pub reading_room : i < length s → length s ≤ 4 → n < 16777216
  reading_room h k =
      let p : 256 ^ i ≤ 256 ^ 3 = pow-le-pow_right {n = 256} (lit< tt) {i = i} {j = 3} (omega arith) in
      omega (arith, r.small)

  pub reading_turn : (v : ℕ) → i < length s → v ≡ get_or s i 0 → v < 256 → Reading s (n * 256 + v) (i + 1)
  reading_turn v h e k = record {
    upto = omega arith;
    small = rw (add-one, pow-suc 256 i) (omega (arith, r.small));
    left = rw e (spelled_turn 256 s i n h ∙ r.left);
  }

  pub reading_end : length s ≤ i → (n ≡ spelled 256 s 0) × (n < 256 ^ length s)
  reading_end h =
      let e : length s ≡ i = omega arith in
      (sym (spelled_end 256 s i n h) ∙ r.left, rw e r.small)
