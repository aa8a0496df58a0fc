-- `tables::validity::names_differ` meets its contract: the names passed differ and their marks are set, so a name whose mark is not set is none
-- of them.
use Rattle.tables.specs.Validity.{read_entries}
use Rattle.tables.proofs.Marks.{Marked}
use Rattle.tables.proofs.validity.names_differ.Given as goal

abbrev pub invariant-loop-i : goal.invariant-loop-i
invariant-loop-i l = Marked (read_entries l.n l.t) l.seen l.i
