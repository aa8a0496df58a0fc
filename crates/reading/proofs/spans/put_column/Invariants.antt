-- `reading::spans::put_column` meets its contract: the occurrences that are left fill the buffer as all of them do from the start.
use Rattle.tables.specs.Entries.{entries_of}
use Rattle.reading.specs.Spans.{scoped_items}
use Rattle.reading.proofs.Running.{Running}
use Rattle.reading.proofs.spans.put_column.Given as goal

abbrev pub invariant-loop-o : goal.invariant-loop-o
invariant-loop-o l =
    Running (entries_of l.t) l.b l.places l.end (λ r. scoped_items (entries_of l.t) r l.fn.s l.fn.scope l.fn.s.from) (λ r. scoped_items (entries_of l.t) r l.fn.s l.fn.scope l.o) l.at l.p l.write l.initial.out l.out
