use native.Mathlib.Omega.{arith}
use Rattle.tables.proofs.Tables.{valid_most}
use Rattle.assignments.proofs.Setting.{marking_turn}
use Rattle.assignments.proofs.chains.mark.Goals as goal

pub loop-i-preserved : goal.loop-i-preserved
loop-i-preserved c = marking_turn c.loop-i.invariant c.loop-i-test.true (omega (arith, c.requires.1, c.requires.2, valid_most c.args.t.now c.requires.0, c.loop-i-test.true)) c.mark_entry.ensures
