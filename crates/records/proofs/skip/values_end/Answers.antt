use native.Mathlib.Omega.{arith}
use Rattle.rules.specs.Record.{stored_value}
use Rattle.records.proofs.Turns.{repeating, repeat_on, repeat_there, repeated}
use Rattle.records.proofs.Skips.{value_skipped, values_skipped}
use Rattle.records.proofs.skip.values_end.Goals as goal

pub overflow_mul-result : goal.overflow_mul-result
overflow_mul-result c =
    let a = c.args in
    omega (arith, (values_skipped c.requires.1.0 a.size c.if-size-gt0.true a.n a.b.now a.at c.requires.0 c.requires.1.1).place)

pub overflow_add-result : goal.overflow_add-result
overflow_add-result c =
    let a = c.args in
    omega (arith, (values_skipped c.requires.1.0 a.size c.if-size-gt0.true a.n a.b.now a.at c.requires.0 c.requires.1.1).place)

pub returns-then-size-gt0 : goal.returns-then-size-gt0
returns-then-size-gt0 c f e = let a = c.args in values_skipped f a.size c.if-size-gt0.true a.n a.b.now a.at c.requires.0 e

pub loop-i-init : goal.loop-i-init
loop-i-init c f e = let a = c.args in repeating (stored_value f a.size) a.b.now a.n a.at c.requires.0

pub bounds-b-p : goal.bounds-b-p
bounds-b-p c =
    let l = c.loop-i.invariant c.requires.1.0 c.requires.1.1 in
    (value_skipped c.requires.1.0 c.args.size c.if-size-gt0.false c.args.b.now c.loop-i.p l.place (repeat_there l c.loop-i-test.true c.requires.1.1)).0

pub overflow_add-p : goal.overflow_add-p
overflow_add-p c =
    let l = c.loop-i.invariant c.requires.1.0 c.requires.1.1 in
    omega (arith, (value_skipped c.requires.1.0 c.args.size c.if-size-gt0.false c.args.b.now c.loop-i.p l.place (repeat_there l c.loop-i-test.true c.requires.1.1)).1.place)

pub loop-i-preserved : goal.loop-i-preserved
loop-i-preserved c f e =
    let a = c.args in
    let l = c.loop-i.invariant f e in
    repeat_on l c.loop-i-test.true (value_skipped f a.size c.if-size-gt0.false a.b.now c.loop-i.p l.place (repeat_there l c.loop-i-test.true e)).1 (cc c.from-p.ensures)

pub returns : goal.returns
returns c f e = repeated (c.loop-i.invariant f e) c.loop-i-test.false
