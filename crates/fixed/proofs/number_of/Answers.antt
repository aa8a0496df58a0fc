use Rattle.std.proofs.Common.{rules, arith}
use Rattle.fixed.proofs.Scans.{reading_start, reading_room, reading_turn, reading_end}
use Rattle.fixed.proofs.number_of.Goals as goal

pub loop-b-init : goal.loop-b-init
loop-b-init c = reading_start _

pub overflow_mul-n : goal.overflow_mul-n
overflow_mul-n c = let h = reading_room c.loop-b.invariant (omega arith) (omega arith) in search rules

pub overflow_add-n : goal.overflow_add-n
overflow_add-n c = let h = reading_room c.loop-b.invariant (omega arith) (omega arith) in search rules

pub loop-b-preserved : goal.loop-b-preserved
loop-b-preserved c = reading_turn c.loop-b.invariant _ c.loop-b-test.true c.from.ensures (search rules)

pub returns : goal.returns
returns c = reading_end c.loop-b.invariant (omega arith)
