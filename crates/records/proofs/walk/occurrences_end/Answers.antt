use native.Mathlib.Omega.{arith}
use Rattle.records.proofs.Walks.{not_at}
use Rattle.records.proofs.Turns.{repeating, repeat_on, repeat_off, repeated, keeping, keep_on, kept_all}
use Rattle.records.proofs.walk.occurrences_end.Goals as goal

pub loop-i-init : goal.loop-i-init
loop-i-init c =
    let a = c.args in
    (repeating _ a.b.now a.n a.at c.requires.3, keeping _ a.b.now a.at a.kept a.places.now)

pub returns-in_err-p : goal.returns-in_err-p
returns-in_err-p c =
    rw c.from_residual.ensures (repeat_off c.loop-i.invariant.0 c.loop-i-test.true c.members_end.ensures c.in_err-p.was, λ e q. absurd (not_at q))

pub loop-i-preserved : goal.loop-i-preserved
loop-i-preserved c =
    (repeat_on c.loop-i.invariant.0 c.loop-i-test.true c.members_end.ensures c.in_ok-p.was, rw c.keep.ensures (keep_on c.loop-i.invariant.1 c.requires.5 c.loop-i.invariant.0.place c.members_end.ensures c.in_ok-p.was))

pub returns : goal.returns
returns c = (repeated c.loop-i.invariant.0 c.loop-i-test.false, λ e q. kept_all c.loop-i.invariant.1 (omega (arith, c.loop-i.invariant.0.upto, c.loop-i-test.false)))
