-- A letter other than the five is that of no format.
use mathlib.Core.Path.{◌≡◌, refl, sym, ◌∙◌}
use mathlib.Core.Bool.{false}
use mathlib.Core.List.{List, [], ◌∷◌}
use mathlib.Core.Option.{none}
use Prim.Native.Nat.{ℕ}
use borrow.Author.Tests.{ne_eqb}
use lib.Dec.{eqb}
use Rattle.rules.specs.Lists.{look_up}
use Rattle.rules.specs.Characters.{letter_A, letter_B, letter_F, letter_P, letter_U}
use Rattle.rules.specs.Table.{format_of, format_letters}

look_up_none : {A : Type 0} (k : ℕ) → look_up {A = A} k [] ≡ none
unfolding look_up
look_up_none k = refl

look_up_skip : {A : Type 0} (k : ℕ) (x : ℕ × A) (xs : List (ℕ × A)) → eqb x.0 k ≡ false → look_up k (x ∷ xs) ≡ look_up k xs
unfolding look_up
look_up_skip k x xs e = rw (e, look_up)

pub letter_other : (b : ℕ) → (b ≡ letter_A → ⊥) → (b ≡ letter_B → ⊥) → (b ≡ letter_F → ⊥) → (b ≡ letter_P → ⊥) → (b ≡ letter_U → ⊥)
    → format_of b ≡ none
unfolding format_of format_letters
letter_other b a₁ a₂ a₃ a₄ a₅ =
    look_up_skip b _ _ (ne_eqb letter_A b (λ e. a₁ (sym e)))
    ∙ look_up_skip b _ _ (ne_eqb letter_B b (λ e. a₂ (sym e)))
    ∙ look_up_skip b _ _ (ne_eqb letter_F b (λ e. a₃ (sym e)))
    ∙ look_up_skip b _ _ (ne_eqb letter_P b (λ e. a₄ (sym e)))
    ∙ look_up_skip b _ _ (ne_eqb letter_U b (λ e. a₅ (sym e)))
    ∙ look_up_none b
