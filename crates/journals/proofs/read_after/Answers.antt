-- `journals::read_after` meets its contract: the record after the journal is read as any record is.
use Rattle.std.specs.Prelude.{Ok}
use Rattle.std.proofs.lemmas.Result.{err_from_is_err_and}
use mathlib.Core.Path.{sym, subst}
use lib.Seq.{length-take-le}
use Rattle.lyrecanyon.specs.Making.{Makes}
use Rattle.lyrecanyon.proofs.Updates.{settled_as}
use Rattle.journals.specs.Journal.{replayed}
use Rattle.journals.proofs.Replaying.{after_refused, after_done}
use Rattle.journals.proofs.read_after.Goals as goal
use Rattle.journals.proofs.read_after.Goals.{In_ok-used}

made : (c : In_ok-used) → let a = c.args in
    Makes (replayed a.table.now a.journal.now) c.replay.new.stored (Ok c.in_ok-used.used)
made c = let a = c.args in
    subst (Makes (replayed a.table.now a.journal.now) c.replay.new.stored) c.in_ok-used.was c.replay.ensures

pub slice_bounds-stored-end : goal.slice_bounds-stored-end
slice_bounds-stored-end c = (made c).0

pub slice_bounds-read-end : goal.slice_bounds-read-end
slice_bounds-read-end c = sym (length-take-le _ c.replay.new.stored (made (goal.at.slice_bounds-read-end c).In_ok-used).0)

pub returns-in_err-used : goal.returns-in_err-used
returns-in_err-used c =
    let a = c.args in
    let p = err_from_is_err_and c.from_residual.result c.from_residual.ensures.1 in
    rw (p.1, p.2) (after_refused a.table.now a.journal.now a.format.now c.replay.new.stored a.buffer.now c.in_err-used.field-0.0
    (subst (Makes (replayed a.table.now a.journal.now) c.replay.new.stored) c.in_err-used.was c.replay.ensures))

pub returns : goal.returns
returns c =
    let a = c.args in
    settled_as _ _ c.read.result
    (after_done a.table.now a.journal.now a.format.now c.replay.new.stored a.buffer.now c.in_ok-used.used (made (goal.at.returns c).In_ok-used)) c.read.ensures
