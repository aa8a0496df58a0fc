use mathlib.Core.Path.{refl}
use borrow.Author.Rules.{rules}
use native.Mathlib.Omega.{arith}
use Rattle.buffer.proofs.Loops.{up_start, up_turn, up_end}
use Rattle.buffer.proofs.put.Goals as goal

pub loop-i-init : goal.loop-i-init
loop-i-init c = up_start refl c.requires

pub loop-i-preserved : goal.loop-i-preserved
loop-i-preserved c = up_turn c.loop-i.invariant (omega arith) refl refl

pub returns : goal.returns
returns c = (search rules, up_end c.loop-i.invariant (omega arith))
