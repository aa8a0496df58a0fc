-- `hexadecimal::decode` meets its contract: the hyphen, pairs of digits, or neither.
use mathlib.Core.Path.{sym, ◌∙◌}
use native.Mathlib.Omega.{arith}
use Rattle.hexadecimal.proofs.Pairs.{hyphen_here, hyphen_not}
use Rattle.hexadecimal.proofs.Ways.{way_hyphen, way_pairs, way_none}
use Rattle.hexadecimal.proofs.decode.Goals as goal

pub returns-in-45 : goal.returns-in-45
returns-in-45 c = way_hyphen _ _ _ (hyphen_here _ (omega arith) (omega arith))

pub returns-in_default : goal.returns-in_default
returns-in_default c = way_pairs _ _ _ _ _ (hyphen_not _ (λ e h. grind arith)) (sym c.is_paired.ensures ∙ c.if-is_paired.true) c.put_pairs.ensures.0 c.put_pairs.ensures.1

pub returns-in_default-2 : goal.returns-in_default-2
returns-in_default-2 c = way_none _ _ _ (hyphen_not _ (λ e h. grind arith)) (sym c.is_paired.ensures ∙ c.if-is_paired.false)
