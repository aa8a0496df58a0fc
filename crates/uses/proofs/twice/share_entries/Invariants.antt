-- `uses::twice::share_entries` meets its contract: the entries of both spans are groups up to one that is a field.
use Rattle.tables.specs.Entries.{entries_of}
use Rattle.uses.proofs.Sharing.{Apart}
use Rattle.uses.proofs.twice.share_entries.Given as goal

abbrev pub invariant-loop-i : goal.invariant-loop-i
invariant-loop-i l = Apart (entries_of l.t) l.first l.low l.i
