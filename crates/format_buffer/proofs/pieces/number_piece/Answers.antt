-- `format_buffer::pieces::number_piece` meets its contract: a number, and what follows it.
use mathlib.Core.Path.{refl}
use native.Mathlib.Omega.{arith}
use Rattle.format_buffer.proofs.Names.{numbered_value, numbered_bad}
use Rattle.format_buffer.proofs.Answers.{pieced_bad, pieced_from}
use Rattle.format_buffer.proofs.pieces.number_piece.Goals as goal

pub returns-in_err-n : goal.returns-in_err-n
returns-in_err-n c = rw c.from_residual.ensures (pieced_bad (rw (numbered_bad c.number_first.ensures c.in_err-n.was) refl))

pub after_number-requires : goal.after_number-requires
after_number-requires c =
    let v = numbered_value c.number_first.ensures c.in_ok-n.was in
    (v.1.1, omega arith)

pub returns : goal.returns
returns c =
    let v = numbered_value c.number_first.ensures c.in_ok-n.was in
    pieced_from (rw v.0 refl) c.after_number.ensures
