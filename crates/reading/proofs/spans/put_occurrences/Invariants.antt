-- `reading::spans::put_occurrences` meets its contract: after the occurrences that are put together, those that are left fill the buffer as all of them do from the start.
use Rattle.tables.specs.Entries.{entries_of}
use Rattle.reading.specs.Spans.{span_items}
use Rattle.reading.proofs.Running.{Running}
use Rattle.reading.proofs.spans.put_occurrences.Given as goal

abbrev pub invariant-loop-o : goal.invariant-loop-o
invariant-loop-o l = Running (entries_of l.t) l.b l.places l.end (λ r. span_items (entries_of l.t) l.s l.s.from) (λ r. span_items (entries_of l.t) l.s l.o) l.fn.at l.p l.write l.fn.out l.out
