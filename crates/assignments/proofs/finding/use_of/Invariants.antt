-- `assignments::finding::use_of` meets its contract: a use that names the cell is in one of its chains, and those that were searched have none.
use Rattle.assignments.proofs.Searching.{Searched}
use Rattle.assignments.proofs.finding.use_of.Given as goal

abbrev pub invariant-loop-chain : goal.invariant-loop-chain
invariant-loop-chain l = Searched l.kept l.list l.i l.o l.chain-index
