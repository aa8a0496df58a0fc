-- `tables::lookup::find` meets its contract: no entry before the one that the loop stands at has the name.
use Rattle.tables.specs.Entries.{entries_of}
use Rattle.tables.proofs.Names.{NoneBefore}
use Rattle.tables.proofs.lookup.find.Given as goal

abbrev pub invariant-loop-i : goal.invariant-loop-i
invariant-loop-i l = NoneBefore l.name (entries_of l.t) l.i
