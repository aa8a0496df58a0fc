-- `records::paths::width_of` meets its contract: the widths are added up, with those still to come.
use Rattle.tables.specs.Entries.{entries_of}
use Rattle.records.proofs.Widths.{Adding}
use Rattle.records.proofs.paths.width_of.Given as goal

abbrev pub invariant-loop-i : goal.invariant-loop-i
invariant-loop-i l = Adding (entries_of l.t) l.first l.end l.i l.w
