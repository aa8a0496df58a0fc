use native.Mathlib.Omega.{arith}
use Rattle.uses.proofs.Marking.{marks_more}
use Rattle.uses.proofs.boxes.mark_span.Goals as goal

pub loop-j-preserved : goal.loop-j-preserved
loop-j-preserved c = marks_more c.args.boxes.now c.args.s c.loop-j.j (omega arith) c.loop-j.invariant c.widened.ensures
