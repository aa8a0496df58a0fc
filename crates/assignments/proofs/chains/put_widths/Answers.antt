use native.Mathlib.Omega.{arith}
use native.Mathlib.Nat.{add_assoc}
use lib.ListN.{length-set}
use Rattle.tables.proofs.Tables.{valid_most}
use Rattle.assignments.specs.Notes.{widths_from}
use Rattle.assignments.proofs.Setting.{widening_turn}
use Rattle.assignments.proofs.chains.put_widths.Goals as goal

pub loop-i-preserved : goal.loop-i-preserved
loop-i-preserved c =
    rw (add_assoc widths_from c.loop-i.i 1)
    (widening_turn c.loop-i.invariant c.size_at-width.result (omega arith) (valid_most c.args.t.now c.requires.0) (omega (arith, c.requires.1, length-set c.args.list.now widths_from 0)) c.size_at-width.ensures.0 c.size_at-width.ensures.1)
