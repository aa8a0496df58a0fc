-- `reading::spans::put_null_fields` meets its contract: the nulls that are left fill the buffer as all of them do from the start.
use Rattle.tables.specs.Entries.{entries_of}
use Rattle.reading.proofs.Nulls.{Nulling}
use Rattle.reading.proofs.spans.put_null_fields.Given as goal

abbrev pub invariant-loop-field : goal.invariant-loop-field
invariant-loop-field l = Nulling (entries_of l.fn.t) l.fn.fields l.end l.field-index l.initial.p l.p l.write l.initial.out l.out
