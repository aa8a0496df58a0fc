-- `lyrecanyon::making::lend` meets its contract: a refusal stays one, and what was made is copied if the room has enough.
use Rattle.std.proofs.lemmas.Result.{err_from_is_err_and}
use mathlib.Core.Path.{sym, subst}
use native.Mathlib.Omega.{arith}
use Prim.Native.Nat.{◌≤◌}
use lib.ListN.{length}
use lib.Seq.{length-take-le}
use Rattle.lyrecanyon.specs.Making.{Makes}
use Rattle.lyrecanyon.proofs.Updates.{lent_refused}
use Rattle.lyrecanyon.proofs.making.lend.Goals as goal
use Rattle.lyrecanyon.proofs.making.lend.Goals.{In_ok-n}

made : (c : In_ok-n) → c.in_ok-n.n ≤ length c.args.made.now
made c = (subst (Makes c.requires.0 c.args.made.now) c.in_ok-n.was c.requires.1).0

pub slice_bounds-put-end : goal.slice_bounds-put-end
slice_bounds-put-end c = sym (length-take-le _ c.args.made.now (made (goal.at.slice_bounds-put-end c).In_ok-n))

pub put-requires : goal.put-requires
put-requires c = omega (arith, length-take-le _ c.args.made.now (made (goal.at.put-requires c).In_ok-n))

pub returns-in_err-n : goal.returns-in_err-n
returns-in_err-n c o m =
    let a = c.args in
    let p = err_from_is_err_and c.from_residual.result c.from_residual.ensures.1 in
    rw (p.1, p.2) (lent_refused a.made.now a.room.now c.in_err-n.field-0.0 (subst (Makes o a.made.now) c.in_err-n.was m))
