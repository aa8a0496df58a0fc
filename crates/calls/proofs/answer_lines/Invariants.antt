-- `calls::answer_lines` is safe and ends: there are ever fewer lines to ask for, and the areas keep their lengths.
use lib.ListN.{length}
use Rattle.lines.specs.Placed.{Placed}
use Rattle.calls.proofs.answer_lines.Given as goal

abbrev pub invariant-loop-l : goal.invariant-loop-l
invariant-loop-l g l = Placed (length l.input) l.l

abbrev pub decreases-loop-l : goal.decreases-loop-l
decreases-loop-l g l = l.l.more
