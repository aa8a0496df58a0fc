-- `filling::lengths::would_hold` meets its contract: where there is room for every value, one that is refused is not held.
use native.Mathlib.Omega.{arith}
use Rattle.rules.specs.Values.{would_hold}
use Rattle.filling.proofs.Held.{held_is}
use Rattle.filling.proofs.lengths.would_hold.Goals as goal

pub returns-then-not-allowed : goal.returns-then-not-allowed
unfolding would_hold
returns-then-not-allowed c = grind arith

pub returns : goal.returns
returns c = grind (arith, held_is c.args.n c.requires)
