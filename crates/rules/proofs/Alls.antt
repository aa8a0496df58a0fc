-- What holds of every element of lists holds of every element of what is made of them.
use mathlib.Core.Path.{◌≡◌, refl, ◌∙◌, ap}
use mathlib.Core.List.{List, [], ◌∷◌, ◌++◌, map}
use Prim.Native.Nat.{ℕ, zero, suc, ◌+◌, ◌≤◌, ◌<◌}
use native.Mathlib.Omega.{arith}
use Rattle.rules.specs.Lists.{run, join}
use Rattle.rules.proofs.Back.{All}

module _ {X : Type 0} (P : X → Type 0) where
  pub all_append : (xs ys : List X) → All P xs → All P ys → All P (xs ++ ys)
  all_append [] ys a b = b
  all_append (x ∷ xs) ys a b = (a.0, all_append xs ys a.1 b)

  pub all_parts : (xs ys : List X) → All P (xs ++ ys) → All P xs × All P ys
  all_parts [] ys a = (tt, a)
  all_parts (x ∷ xs) ys a = let (b, c) = all_parts xs ys a.1 in ((a.0, b), c)

  pub all_join : (xss : List (List X)) → All (All P) xss → All P (join xss)
  unfolding join
  all_join [] a = tt
  all_join (xs ∷ xss) a = all_append xs (join xss) a.0 (all_join xss a.1)

  pub all_run : (g : ℕ → X) (s n : ℕ) → ((k : ℕ) → s ≤ k → k < s + n → P (g k)) → All P (run g s n)
  unfolding run
  all_run g s zero h = tt
  all_run g s (suc n) h = (h s (omega arith) (omega arith), all_run g (suc s) n (λ k a b. h k (omega arith) (omega arith)))

  pub all_of_map : {Y : Type 0} (g : Y → X) (ys : List Y) → All (λ y. P (g y)) ys → All P (map g ys)
  all_of_map g [] a = tt
  all_of_map g (y ∷ ys) a = (a.0, all_of_map g ys a.1)

pub all_both : {X : Type 0} (P Q R : X → Type 0) → ((x : X) → P x → Q x → R x) → (xs : List X) → All P xs → All Q xs → All R xs
all_both P Q R f [] a b = tt
all_both P Q R f (x ∷ xs) a b = (f x a.0 b.0, all_both P Q R f xs a.1 b.1)

pub map_agree : {X Y : Type 0} (f g : X → Y) (xs : List X) → All (λ x. f x ≡ g x) xs → map f xs ≡ map g xs
map_agree f g [] a = refl
map_agree f g (x ∷ xs) a = ap (λ y. y ∷ map f xs) a.0 ∙ ap (◌∷◌ (g x)) (map_agree f g xs a.1)
