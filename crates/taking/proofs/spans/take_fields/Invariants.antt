-- `taking::spans::take_fields` meets its contract: the entries that are left give what all of them give from the start.
use Rattle.tables.specs.Entries.{entries_of}
use Rattle.taking.specs.Taking.{items_between}
use Rattle.taking.proofs.Turns.{TakenOn}
use Rattle.taking.proofs.spans.take_fields.Given as goal

abbrev pub invariant-loop-i : goal.invariant-loop-i
invariant-loop-i l =
    TakenOn (entries_of l.t) l.buffer (items_between (entries_of l.t) l.u l.o l.u.first l.u.end) (items_between (entries_of l.t) l.u l.o l.i l.u.end) l.initial.state l.state l.initial.list l.list l.initial.stage l.stage
