-- `taking::value::take_value` meets its contract: the value is the first of the bytes that are left.
use Rattle.std.proofs.lemmas.Result.{err_from_is_err_and}
use Rattle.taking.proofs.Finding.{value_unfound, value_staged}
use Rattle.taking.proofs.value.take_value.Goals as goal

pub returns-in_err-from : goal.returns-in_err-from
returns-in_err-from c es gives room =
    let a = c.args in
    let p = err_from_is_err_and c.from_residual.result c.from_residual.ensures.1 in
    rw (p.1, p.2) (value_unfound es a.buffer.now a.g a.o a.k a.s c.first_value.ensures a.list.now a.stage.now _ c.in_err-from.was)

pub returns : goal.returns
returns c es gives room =
    let a = c.args in
    value_staged es a.buffer.now a.g a.o a.k a.s _ _ c.in_ok-from.ensures gives (c.stage_value.ensures es gives room)
