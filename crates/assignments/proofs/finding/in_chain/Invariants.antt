-- `assignments::finding::in_chain` meets its contract: what is left of the chain answers as the whole.
use Rattle.assignments.proofs.Searching.{turns_left, Room, Seeking}
use Rattle.assignments.proofs.finding.in_chain.Given as goal

abbrev pub invariant-loop-n : goal.invariant-loop-n
invariant-loop-n l = Room l.kept l.list l.n × Seeking l.kept l.list l.chain l.i l.o l.n

abbrev pub decreases-loop-n : goal.decreases-loop-n
decreases-loop-n l = turns_left l.n
