-- `assignments::finding::fill` meets its contract: the values below k are noted, and those from k on stand from the place p on.
use mathlib.Core.Path.{◌≡◌}
use lib.ListN.{length}
use Rattle.assignments.proofs.Filling.{Fills}
use Rattle.assignments.proofs.finding.fill.Given as goal

abbrev pub invariant-loop-k : goal.invariant-loop-k
invariant-loop-k l = (length l.by ≡ length l.initial.by) × Fills l.stage l.at l.fn.s l.size l.initial.by l.by l.p l.k
