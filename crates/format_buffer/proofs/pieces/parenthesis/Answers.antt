-- `format_buffer::pieces::parenthesis` meets its contract: the first index, the end of the range and what closes it, one after the other.
use mathlib.Core.Path.{sym, ◌∙◌}
use native.Mathlib.Omega.{arith}
use Rattle.format_buffer.proofs.Indexes.{indexes_at, indexes_bad}
use Rattle.format_buffer.proofs.Names.{parenthesis_none, parenthesis_bad, parenthesis_shut, parenthesis_open}
use Rattle.format_buffer.proofs.pieces.parenthesis.Goals as goal

pub returns-in_err-k : goal.returns-in_err-k
returns-in_err-k c = rw c.from_residual.ensures record { answer = parenthesis_none _ (indexes_bad c.index_first.ensures c.in_err-k.was); small = tt }

pub range_end-requires : goal.range_end-requires
range_end-requires c =
    let v = indexes_at c.index_first.ensures c.in_ok-k.was in
    (v.1.1, omega arith, v.1.2)

pub returns-in_err-x : goal.returns-in_err-x
returns-in_err-x c =
    let v = indexes_at c.index_first.ensures c.in_ok-k.was in
    rw c.from_residual-in_err-x.ensures record { answer = parenthesis_bad _ v.0 (indexes_bad c.range_end.ensures c.in_err-x.was); small = tt }

pub alone-requires : goal.alone-requires
alone-requires c =
    let w = indexes_at c.range_end.ensures c.in_ok-x.was in
    (w.1.1, omega arith)

pub returns-then-alone : goal.returns-then-alone
returns-then-alone c =
    let v = indexes_at c.index_first.ensures c.in_ok-k.was in
    let w = indexes_at c.range_end.ensures c.in_ok-x.was in
    record { answer = parenthesis_shut _ v.0 w.0 (sym c.alone.ensures ∙ c.if-alone.true); small = w.1.2 }

pub returns-else-alone : goal.returns-else-alone
returns-else-alone c =
    let v = indexes_at c.index_first.ensures c.in_ok-k.was in
    let w = indexes_at c.range_end.ensures c.in_ok-x.was in
    record { answer = parenthesis_open _ v.0 w.0 (sym c.alone.ensures ∙ c.if-alone.false); small = tt }
