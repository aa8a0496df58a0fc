-- `records::walk::occurrences_end` meets its contract: the occurrences still to come end where all of them do, and those after are kept.
use lib.ListN.{drop}
use Rattle.rules.specs.Record.{times}
use Rattle.tables.specs.Entries.{entries_of}
use Rattle.records.specs.Walk.{rest_of, members_among}
use Rattle.records.proofs.Turns.{Repeating, Keeping}
use Rattle.records.proofs.walk.occurrences_end.Given as goal

abbrev pub invariant-loop-i : goal.invariant-loop-i
invariant-loop-i l =
    Repeating (members_among (entries_of l.t) l.first l.end) l.b (rest_of (times l.n (members_among (entries_of l.t) l.first l.end) (drop l.at l.b))) l.n l.i l.p
    × Keeping (members_among (entries_of l.t) l.first l.end) l.b l.at l.kept l.initial.places l.places l.i l.p
