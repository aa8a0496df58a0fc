-- `tables::lookup::periodic_group` meets its contract: on the way back to level 1 nothing leaves or enters a periodic group.
use Rattle.tables.specs.Entries.{entries_of}
use Rattle.tables.proofs.Climbs.{Climb}
use Rattle.tables.proofs.lookup.periodic_group.Given as goal

abbrev pub invariant-loop-j : goal.invariant-loop-j
invariant-loop-j l = Climb (entries_of l.t) l.i l.j

abbrev pub decreases-loop-j : goal.decreases-loop-j
decreases-loop-j l = l.j
