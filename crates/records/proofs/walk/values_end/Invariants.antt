-- `records::walk::values_end` meets its contract: values that any bytes are end after their bytes; of others, those still to come end where all of them do.
use lib.ListN.{drop}
use Rattle.rules.specs.Record.{times, stored_value}
use Rattle.tables.specs.Entries.{format_at}
use Rattle.records.specs.Walk.{rest_of}
use Rattle.records.proofs.Turns.{Repeating}
use Rattle.records.proofs.walk.values_end.Given as goal

abbrev pub invariant-loop-i : goal.invariant-loop-i
invariant-loop-i l =
    Repeating (stored_value (format_at l.format) l.size) l.b (rest_of (times l.n (stored_value (format_at l.format) l.size) (drop l.at l.b))) l.n l._i l.p
