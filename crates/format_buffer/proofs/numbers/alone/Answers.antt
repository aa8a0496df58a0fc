-- `format_buffer::numbers::alone` meets its contract, by one byte being there or not.
use mathlib.Core.Path.{◌∙◌}
use borrow.Author.Tests.{ne_eqb}
use native.Mathlib.Omega.{arith}
use Rattle.format_buffer.proofs.Digits.{alone_one, alone_other}
use Rattle.format_buffer.proofs.numbers.alone.Goals as goal

pub returns-then-upto-at-eq1 : goal.returns-then-upto-at-eq1
returns-then-upto-at-eq1 c =
    let a = c.args in
    alone_one a.f.now a.c a.at a.upto (omega arith) c.if-upto-at-eq1.true

pub returns-else-upto-at-eq1 : goal.returns-else-upto-at-eq1
returns-else-upto-at-eq1 c =
    let a = c.args in
    ne_eqb _ _ c.if-upto-at-eq1.false ∙ alone_other a.f.now a.c a.at a.upto (omega arith) c.if-upto-at-eq1.false
