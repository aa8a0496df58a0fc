-- `format_buffer::pieces::after_index` meets its contract: a count, or the range that the index begins.
use mathlib.Core.Path.{refl, sym, ap, ◌∙◌}
use native.Mathlib.Omega.{arith}
use Rattle.rules.specs.Outcome.{done}
use Rattle.format_buffer.specs.Elements.{indexing_of}
use Rattle.format_buffer.proofs.Indexes.{indexes_at, indexes_bad, count_indexed}
use Rattle.format_buffer.proofs.Names.{after_index_count, after_index_range}
use Rattle.format_buffer.proofs.Answers.{element_bad, element_is, element_from}
use Rattle.format_buffer.proofs.pieces.after_index.Goals as goal

pub returns-then-alone : goal.returns-then-alone
returns-then-alone c =
    let a = c.args in
    element_is refl (after_index_count a.name (indexing_of a.x) _ (sym c.alone.ensures ∙ c.if-alone.true) ∙ ap done (count_indexed a.x a.name))
    (c.requires.2, c.requires.3) (record {})

pub range_end-requires : goal.range_end-requires
range_end-requires c = (omega arith, omega arith, c.requires.2)

pub returns-in_err-y : goal.returns-in_err-y
returns-in_err-y c =
    let a = c.args in
    rw c.from_residual.ensures (element_bad (after_index_range a.name (indexing_of a.x) _ (sym c.alone.ensures ∙ c.if-alone.false) (indexes_bad c.range_end.ensures c.in_err-y.was)))

pub after_range-requires : goal.after_range-requires
after_range-requires c =
    let v = indexes_at c.range_end.ensures c.in_ok-y.was in
    (v.1.1, omega arith, v.1.2)

pub returns : goal.returns
returns c =
    let a = c.args in
    let v = indexes_at c.range_end.ensures c.in_ok-y.was in
    element_from (after_index_range a.name (indexing_of a.x) _ (sym c.alone.ensures ∙ c.if-alone.false) v.0) c.after_range.ensures
