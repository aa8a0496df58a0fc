-- `records::skip::members_end` meets its contract: the fields still to come end where all of them do.
use lib.ListN.{drop}
use Rattle.tables.specs.Entries.{entries_of}
use Rattle.records.specs.Walk.{rest_of, members_among}
use Rattle.records.proofs.Turns.{Among}
use Rattle.records.proofs.skip.members_end.Given as goal

abbrev pub invariant-loop-i : goal.invariant-loop-i
invariant-loop-i l =
    Among (entries_of l.t) l.b (rest_of (members_among (entries_of l.t) l.first l.end (drop l.at l.b))) l.end l.i l.p
