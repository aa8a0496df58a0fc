-- `assignments::chains::mark` meets its contract: the entries of the span before the one that the loop stands at are marked.
use Rattle.tables.specs.Entries.{entries_of}
use Rattle.assignments.proofs.Setting.{Marking}
use Rattle.assignments.proofs.chains.mark.Given as goal

abbrev pub invariant-loop-i : goal.invariant-loop-i
invariant-loop-i l = Marking (entries_of l.t) l.s l.initial.list l.list l.i
