-- What a test of a character, or of every character of a word, says of one.
use Rattle.std.specs.List.{list_all}
use mathlib.Core.Path.{◌≡◌, refl, ap}
use mathlib.Core.Bool.{Bool, ◌&&◌}
use mathlib.Core.List.{List, [], ◌∷◌}
use Prim.Native.Nat.{ℕ, zero, suc, ◌<◌}
use native.Mathlib.Nat.{le_of_suc-le-suc, not-suc-le-zero}
use lib.Dec.{T, ltb, ltb→lt}
use lib.ListN.{length, get_or}
use Rattle.rules.specs.Lists.{all}
use Rattle.rules.proofs.Steps.{and_left, and_right}
use Rattle.hexadecimal.specs.Text.{value, all_of_base}

pub digit_at : (base i : ℕ) (w : List ℕ) → T (all_of_base base w) → i < length w → value (get_or w i 0) < base
unfolding all
digit_at base i [] t h = absurd (not-suc-le-zero h)
digit_at base zero (c ∷ w) t h = ltb→lt (value c) base (and_left (ltb (value c) base) (all_of_base base w) t)
digit_at base (suc i) (c ∷ w) t h = digit_at base i w (and_right (ltb (value c) base) (all_of_base base w) t) (le_of_suc-le-suc h)

-- The tests of every byte, here and in the library.
pub all_is : {A : Type 0} (f : A → Bool) (w : List A) → list_all f w ≡ all f w
unfolding all
all_is f [] = refl
all_is f (c ∷ w) = ap (λ b. f c && b) (all_is f w)
