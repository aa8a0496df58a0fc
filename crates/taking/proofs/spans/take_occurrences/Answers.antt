use Prim.Native.Nat.{◌+◌}
use native.Mathlib.Omega.{arith}
use Rattle.std.proofs.lemmas.Result.{err_from_is_err_and}
use Rattle.rules.proofs.Ranges.{from_to, first_occurrence, no_occurrence}
use Rattle.tables.specs.Entries.{entries_of}
use Rattle.uses.specs.Meant.{asked_of}
use Rattle.taking.proofs.Turns.{TakenOn, turn_on, turn_off, turn_end}
use Rattle.taking.proofs.spans.take_occurrences.Invariants.{left}
use Rattle.taking.proofs.spans.take_occurrences.Goals as goal
use Rattle.taking.proofs.spans.take_occurrences.Goals.{In_ok-state}

pub returns-in_err-state : goal.returns-in_err-state
returns-in_err-state c =
    let a = c.args in
    let p = err_from_is_err_and c.from_residual.result c.from_residual.ensures.1 in
    rw (p.1, p.2)
    (turn_off c.loop-o.invariant _ _ _ _ (first_occurrence (asked_of (entries_of a.t.now) a.u) (from_to a.u.value_from a.u.value_upto) a.u.bare c.loop-o.o a.u.upto (omega arith)) c.in_err-state.was c.take_fields.ensures)

-- The occurrence was taken.
on : (c : In_ok-state) → let a = c.args in let es = entries_of a.t.now in
    TakenOn es a.buffer.now (left es a.u a.u.from) (left es a.u (c.loop-o.o + 1)) a.s c.in_ok-state.state a.list.now c.take_fields.new.list a.stage.now c.take_fields.new.stage
on c =
    let a = c.args in
    turn_on c.loop-o.invariant _ _ _ _ (first_occurrence (asked_of (entries_of a.t.now) a.u) (from_to a.u.value_from a.u.value_upto) a.u.bare c.loop-o.o a.u.upto (omega arith)) c.in_ok-state.was c.take_fields.ensures

pub loop-o-preserved : goal.loop-o-preserved
loop-o-preserved c = on (goal.at.loop-o-preserved c).In_ok-state

pub returns-in_ok-state : goal.returns-in_ok-state
returns-in_ok-state c =
    let a = c.args in
    turn_end (on (goal.at.returns-in_ok-state c).In_ok-state) (no_occurrence (asked_of (entries_of a.t.now) a.u) (from_to a.u.value_from a.u.value_upto) a.u.bare (c.loop-o.o + 1) a.u.upto (omega arith))
