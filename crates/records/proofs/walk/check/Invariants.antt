-- `records::walk::check` meets its contract: the walk over what is left answers as the whole, and keeps each place.
use Rattle.tables.specs.Entries.{entries_of}
use Rattle.records.proofs.Checking.{Checking}
use Rattle.records.proofs.Directories.{Rowing}
use Rattle.records.proofs.walk.check.Given as goal

abbrev pub invariant-loop-i : goal.invariant-loop-i
invariant-loop-i l = Checking (entries_of l.t) l.b l.places l.inside l.i l.p × Rowing (entries_of l.t) l.b l.places l.i l.kept
