-- `reading::spans::put_occurrence` meets its contract: what stands in one piece is put so, and what does not stand is null, field by field.
use Rattle.tables.specs.Entries.{entries_of}
use Rattle.reading.proofs.Pieces.{row_put}
use Rattle.reading.proofs.Nulls.{row_null}
use Rattle.reading.proofs.spans.put_occurrence.Goals as goal
use Rattle.reading.proofs.spans.put_occurrence.Goals.{In-Some, In-None}

pub returns-in-Some : goal.returns-in-Some
returns-in-Some c =
    let a = c.args in
    row_put (entries_of a.t.now) a.b.now a.places.now a.s c.requires.1 c.requires.2 a.o _ _ c.in-Some.ensures a.at a.end a.write c.put_bytes.ensures

pub returns-in-None : goal.returns-in-None
returns-in-None c =
    let a = c.args in
    row_null a.t.now a.b.now a.places.now c.requires.0 a.s c.requires.1 c.requires.2 a.o c.in-None.ensures a.at a.end a.write c.put_null_occurrence.ensures
