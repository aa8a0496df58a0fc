-- `assignments::finding::named` meets its contract: the chains of the cell are gone over one after the other, and what they were tallied to is what is named.
use Rattle.assignments.proofs.Tallying.{Counting}
use Rattle.assignments.proofs.finding.named.Given as goal

abbrev pub invariant-loop-chain : goal.invariant-loop-chain
invariant-loop-chain l = Counting l.kept l.list l.stage l.i l.o l.size l.by l.all l.chain-index
