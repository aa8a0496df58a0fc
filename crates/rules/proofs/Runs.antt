-- A run of what stands at n numbers in turn: how many there are, what stands at each, and that runs of what agrees are the same.
use mathlib.Core.Path.{◌≡◌, refl, ◌∙◌, ap}
use mathlib.Core.List.{◌∷◌}
use Prim.Native.Nat.{ℕ, zero, suc, pred, ◌+◌, ◌≤◌, ◌<◌}
use native.Mathlib.Nat.{add-zero, not-suc-le-zero, le_of_suc-le-suc}
use native.Mathlib.Omega.{arith}
use lib.ListN.{length, get_or, get_or-eq_default}
use Rattle.rules.specs.Lists.{run}

module _ {A : Type 0} (g : ℕ → A) where
  pub run_length : (s n : ℕ) → length (run g s n) ≡ n
  unfolding run
  run_length s zero = refl
  run_length s (suc n) = ap suc (run_length (suc s) n)

  run_at : (s n j : ℕ) (d : A) → j < n → get_or (run g s n) j d ≡ g (s + j)
  unfolding run
  run_at s zero j d h = absurd (not-suc-le-zero h)
  run_at s (suc n) zero d h = rw add-zero refl
  run_at s (suc n) (suc j) d h = run_at (suc s) n j d (le_of_suc-le-suc h) ∙ ap g (omega arith)

  -- Indexes count from 1.
  pub run_from_one : (n j : ℕ) (d : A) → 1 ≤ j → j ≤ n → get_or (run g 1 n) (pred j) d ≡ g j
  run_from_one n zero d o h = absurd (not-suc-le-zero o)
  run_from_one n (suc j) d o h = run_at 1 n j d h ∙ ap g (omega arith)

  pub run_past : (s n j : ℕ) (d : A) → n < j → get_or (run g s n) (pred j) d ≡ d
  run_past s n zero d h = absurd (not-suc-le-zero h)
  run_past s n (suc j) d h = get_or-eq_default (run g s n) d (rw run_length (le_of_suc-le-suc h))

  pub run_agree : (h : ℕ → A) (s n : ℕ) → ((k : ℕ) → s ≤ k → k < s + n → g k ≡ h k) → run g s n ≡ run h s n
  unfolding run
  run_agree h s zero e = refl
  run_agree h s (suc n) e = ap (λ x. x ∷ run g (suc s) n) (e s (omega arith) (omega arith)) ∙ ap (◌∷◌ (h s)) (run_agree h (suc s) n (λ k a b. e k (omega arith) (omega arith)))
