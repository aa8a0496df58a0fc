use native.Mathlib.Omega.{arith}
use mathlib.Core.Path.{refl}
use lib.Seq.{take_all}
use Rattle.rules.specs.Lists.{digits}
use Rattle.buffer.proofs.Loops.{down_start, down_turn, down_end}
use Rattle.rules.proofs.Digits.{length_digits, digit_next}
use borrow.Author.Rules.{rules}
use Rattle.fixed.proofs.put_number.Goals as goal

pub loop-j-init : goal.loop-j-init
loop-j-init c = (down_start (length_digits _ _ _) (search rules), take_all c.args.n _ (omega (arith, length_digits 256 c.args.n c.args.x)))

pub loop-j-preserved : goal.loop-j-preserved
loop-j-preserved c =
    let l = c.loop-j in
    let a = c.args in
    let d = digit_next 256 (digits 256 a.n a.x) l.j l.rest c.loop-j-test.true l.invariant.1 in
    (down_turn l.invariant.0 c.loop-j-test.true refl d.0, d.1)

pub returns : goal.returns
returns c = down_end c.loop-j.invariant.0 c.loop-j-test.false
