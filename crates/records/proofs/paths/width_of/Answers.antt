use native.Mathlib.Omega.{arith}
use Rattle.tables.specs.Entries.{entries_of, blank}
use Rattle.tables.proofs.Tables.{valid_most}
use Rattle.records.proofs.Widths.{adding, add_on, add_off, added}
use Rattle.records.proofs.paths.width_of.Goals as goal

pub loop-i-init : goal.loop-i-init
loop-i-init c = adding (entries_of c.args.t.now) c.args.first c.args.end c.requires.1

pub returns-in_err-w : goal.returns-in_err-w
returns-in_err-w c = rw c.from_residual.ensures (add_off c.loop-i.invariant blank c.loop-i-test.true c.requires.2 _ c.width_at.ensures c.in_err-w.was)

pub overflow_add-w : goal.overflow_add-w
overflow_add-w c =
    let l = add_on c.loop-i.invariant blank c.loop-i-test.true c.requires.2 _ c.width_at.ensures c.in_ok-w.was in
    omega (arith, l.most, l.upto, valid_most c.args.t.now c.requires.0, c.requires.2)

pub loop-i-preserved : goal.loop-i-preserved
loop-i-preserved c = add_on c.loop-i.invariant blank c.loop-i-test.true c.requires.2 _ c.width_at.ensures c.in_ok-w.was

pub returns : goal.returns
returns c = added c.loop-i.invariant c.loop-i-test.false (omega (arith, valid_most c.args.t.now c.requires.0, c.requires.2))
