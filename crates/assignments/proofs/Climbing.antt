-- The highest of some numbers, met one after the other.
use mathlib.Core.Path.{◌≡◌, refl}
use Prim.Native.Nat.{ℕ, suc, ◌+◌, ◌-◌, ◌≤◌, ◌<◌, max}
use native.Mathlib.Omega.{arith}
use native.Mathlib.Numerals.{add-one}
use Rattle.rules.specs.Lists.{maximum, run}

pub maximum_none : (f : ℕ → ℕ) (i : ℕ) → maximum (run f i 0) ≡ 0
unfolding maximum run
maximum_none f i = refl

pub maximum_more : (f : ℕ → ℕ) (i n : ℕ) → maximum (run f i (suc n)) ≡ max (f i) (maximum (run f (suc i) n))
unfolding maximum run
maximum_more f i n = refl

-- The highest of some numbers: the higher of what was met and of those that are left.
abbrev pub Climbing : (ℕ → ℕ) → ℕ → ℕ → ℕ → ℕ → Type 0
Climbing g first end highest i = max highest (maximum (run g i (end - i))) ≡ maximum (run g first (end - first))

run_first : (g : ℕ → ℕ) (i n m : ℕ) → n ≡ suc m → maximum (run g i n) ≡ max (g i) (maximum (run g (i + 1) m))
unfolding run maximum
run_first g i n m e = rw (e, add-one i)

run_none : (g : ℕ → ℕ) (i n : ℕ) → n ≡ 0 → maximum (run g i n) ≡ 0
unfolding run maximum
run_none g i n e = rw e

module _ (g : ℕ → ℕ) (first end : ℕ) where
  pub climb_start : Climbing g first end 0 first
  climb_start = omega arith

  module _ (highest i : ℕ) (c : Climbing g first end highest i) where
    pub climb_on : (r : ℕ) → i < end → r ≡ max highest (g i) → Climbing g first end r (i + 1)
    climb_on r h e = let q = run_first g i (end - i) (end - (i + 1)) (omega arith) in omega (arith, c)

    pub climb_end : end ≤ i → highest ≡ maximum (run g first (end - first))
    climb_end h = let q = run_none g i (end - i) (omega arith) in omega (arith, c)
