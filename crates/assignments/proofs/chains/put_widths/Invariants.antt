-- `assignments::chains::put_widths` meets its contract: the widths of the entries up to the one that the loop stands at are noted.
use Rattle.tables.specs.Entries.{entries_of}
use Rattle.assignments.proofs.Setting.{Widening}
use Rattle.assignments.proofs.chains.put_widths.Given as goal

abbrev pub invariant-loop-i : goal.invariant-loop-i
invariant-loop-i l = Widening (entries_of l.t) l.initial.list l.list l.width l.i
