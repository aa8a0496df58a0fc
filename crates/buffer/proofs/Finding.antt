-- The laws of `upto_first`: at the byte itself, at another, and that it passes no more than there is.
use mathlib.Core.Path.{◌≡◌, refl}
use mathlib.Core.List.{List, [], ◌∷◌}
use Prim.Native.Nat.{ℕ, ◌+◌, ◌≤◌}
use native.Mathlib.Numerals.{add-one}
use native.Mathlib.Omega.{arith}
use borrow.Author.Tests.{eq-eqb, ne_eqb}
use lib.ListN.{length}
use Rattle.buffer.specs.Search.{upto_first}

pub first_here : (b c : ℕ) (s : List ℕ) → c ≡ b → upto_first b (c ∷ s) ≡ 0
unfolding upto_first
first_here b c s e = rw (eq-eqb c b e) refl

pub first_later : (b c : ℕ) (s : List ℕ) → (c ≡ b → ⊥) → upto_first b (c ∷ s) ≡ upto_first b s + 1
unfolding upto_first
first_later b c s e = rw (ne_eqb c b e, add-one) refl

pub first_within : (b : ℕ) (s : List ℕ) → upto_first b s ≤ length s
unfolding upto_first
first_within b [] = omega arith
first_within b (c ∷ s) = grind (arith, first_within b s)
