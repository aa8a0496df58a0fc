use Rattle.std.proofs.lemmas.Result.{err_from_is_err_and}
use Rattle.tables.specs.Entries.{entries_of}
use Rattle.taking.proofs.Turns.{turn_on, turn_off, turn_end}
use Rattle.taking.proofs.Entries.{between_all, between_next, between_none}
use Rattle.taking.proofs.spans.take_fields.Goals as goal

pub returns-in_err-state : goal.returns-in_err-state
returns-in_err-state c =
    let a = c.args in
    let p = err_from_is_err_and c.from_residual.result c.from_residual.ensures.1 in
    rw (p.1, p.2, between_all (entries_of a.t.now) a.u a.o c.requires.1)
    (turn_off c.loop-i.invariant _ _ _ _ (between_next (entries_of a.t.now) a.u a.o c.loop-i.i a.u.end c.loop-i-test.true c.requires.1.upto) c.in_err-state.was c.take_entry.ensures)

pub loop-i-preserved : goal.loop-i-preserved
loop-i-preserved c =
    let a = c.args in
    turn_on c.loop-i.invariant _ _ _ _ (between_next (entries_of a.t.now) a.u a.o c.loop-i.i a.u.end c.loop-i-test.true c.requires.1.upto) c.in_ok-state.was c.take_entry.ensures

pub returns : goal.returns
returns c =
    let a = c.args in
    rw (between_all (entries_of a.t.now) a.u a.o c.requires.1)
    (turn_end c.loop-i.invariant (between_none (entries_of a.t.now) a.u a.o c.loop-i.i a.u.end c.loop-i-test.false))
