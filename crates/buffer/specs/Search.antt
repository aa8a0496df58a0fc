-- Where a byte is found.
use Rattle.std.specs.Prelude.{cond, List, [], ◌∷◌, ℕ, suc, eqb}

-- How many bytes stand before the first b, or before the end if there is none.
unfoldable pub upto_first : ℕ → List ℕ → ℕ
upto_first b [] = 0
upto_first b (c ∷ s) = cond (eqb c b) 0 (suc (upto_first b s))
