-- `records::skip::occurrences_end` meets its contract: the occurrences still to come end where all of them do.
use lib.ListN.{drop}
use Rattle.rules.specs.Record.{times}
use Rattle.tables.specs.Entries.{entries_of}
use Rattle.records.specs.Walk.{rest_of, members_among}
use Rattle.records.proofs.Turns.{Repeating}
use Rattle.records.proofs.skip.occurrences_end.Given as goal

abbrev pub invariant-loop-i : goal.invariant-loop-i
invariant-loop-i l =
    Repeating (members_among (entries_of l.t) l.first l.end) l.b (rest_of (times l.n (members_among (entries_of l.t) l.first l.end) (drop l.at l.b))) l.n l._i l.p
