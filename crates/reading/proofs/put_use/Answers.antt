-- `reading::put_use` meets its contract: each kind of element has its own items.
use Rattle.tables.specs.Entries.{entries_of}
use Rattle.reading.proofs.Elements.{use_blanks, use_text, use_group_count, use_value_count, use_span, use_nothing}
use Rattle.reading.proofs.put_use.Goals as goal
use Rattle.reading.proofs.put_use.Goals.{In-Text, Start}

pub returns-then-meant : goal.returns-then-meant
returns-then-meant c =
    let a = c.args in
    use_nothing (entries_of a.t.now) a.b.now a.places.now a.f.now a.scopes a.at a.end a.write c.in-Values.is c.occurrences_meant-meant.ensures c.if-meant.true c.requires.3 c.requires.4.0 c.requires.4.1

pub returns-in-Blanks : goal.returns-in-Blanks
returns-in-Blanks c =
    let a = c.args in
    use_blanks (entries_of a.t.now) a.b.now a.places.now a.f.now a.scopes a.at a.end a.write c.in-Blanks.is c.put_blanks.ensures

pub returns-in-Text : goal.returns-in-Text
returns-in-Text c =
    let a = c.args in
    use_text (entries_of a.t.now) a.b.now a.places.now a.f.now a.scopes a.at a.end a.write c.in-Text.is c.put_bytes.ensures

pub returns-in-GroupCount : goal.returns-in-GroupCount
returns-in-GroupCount c =
    let a = c.args in
    use_group_count (entries_of a.t.now) a.b.now a.places.now a.f.now a.scopes a.at a.end a.write c.in-GroupCount.is c.group_count-count.ensures.1 c.put_count.ensures

pub returns-in-ValueCount : goal.returns-in-ValueCount
returns-in-ValueCount c =
    let a = c.args in
    use_value_count (entries_of a.t.now) a.b.now a.places.now a.f.now a.scopes a.at a.end a.write c.in-ValueCount.is c.occurrence_meant-o.ensures c.value_count-count.ensures.1 c.put_count-in-ValueCount.ensures

pub returns-else-meant : goal.returns-else-meant
returns-else-meant c =
    let a = c.args in
    use_span (entries_of a.t.now) a.b.now a.places.now a.f.now a.scopes a.at a.end a.write c.in-Values.is c.occurrences_meant-meant.ensures c.put_span.ensures
