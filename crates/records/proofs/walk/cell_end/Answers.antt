-- `records::walk::cell_end` meets its contract: a count and that many values, no count, or one value.
use mathlib.Core.Path.{sym, ◌∙◌}
use Rattle.rules.specs.Record.{stored_value}
use Rattle.tables.specs.Entries.{format_at}
use Rattle.records.proofs.Walks.{not_counted, walked_as}
use Rattle.records.proofs.Ends.{count_none, count_there}
use Rattle.records.proofs.walk.cell_end.Goals as goal

pub returns-then-not-multiple : goal.returns-then-not-multiple
returns-then-not-multiple c =
    let a = c.args in
    walked_as (rw c.if-not-multiple.true (not_counted (stored_value (format_at a.format) a.size) a.b.now a.at)) c.value_end.ensures

pub returns-then-not-has_count : goal.returns-then-not-has_count
returns-then-not-has_count c =
    let a = c.args in
    let h = sym c.has_count.ensures ∙ c.if-not-has_count.true in
    record { answer = sym (rw c.if-not-multiple.false (count_none (stored_value (format_at a.format) a.size) a.b.now a.at h)); place = tt }

pub returns : goal.returns
returns c =
    let a = c.args in
    let h = sym c.has_count.ensures ∙ c.if-not-has_count.false in
    walked_as (rw c.if-not-multiple.false (count_there (stored_value (format_at a.format) a.size) a.b.now a.at h))
    (rw (c.after_count.ensures, c.count_at-n.ensures.0) at c.values_end.ensures)
