-- `uses::kept::keep_element` meets its contract: by what the element means, what is left after it is what was left with it.
use mathlib.Core.Path.{sym, ◌∙◌}
use Prim.Native.Nat.{◌+◌, ◌*◌, ◌≤◌}
use lib.ListN.{length}
use Rattle.std.proofs.lemmas.Result.{err_from_is_err_and}
use Rattle.tables.proofs.Tables.{valid_most}
use Rattle.uses.specs.Kept.{numbers_kept, small}
use Rattle.uses.proofs.Decoding.{keeps_passed, keeps_refused, span_held, small_held, room_for, keeps_last, keeps_use}
use Rattle.uses.proofs.kept.keep_element.Goals as goal
use Rattle.uses.proofs.kept.keep_element.Goals.{Else-not-is_written}

pub returns-in_err-n : goal.returns-in_err-n
returns-in_err-n c = let p = err_from_is_err_and c.from_residual.result c.from_residual.ensures.1 in rw (p.1, p.2) (keeps_passed _ _ _ c.in_err-n.was)

pub returns-in_err-u : goal.returns-in_err-u
returns-in_err-u c =
    let r = c.from_residual-in_err-u in
    let p = err_from_is_err_and r.result r.ensures.1 in
    rw (p.1, p.2) (keeps_refused _ c.use_of-m.ensures _ _ c.in_ok-n.was _ _ c.in_err-u.was)

pub returns-then-not-is_written : goal.returns-then-not-is_written
returns-then-not-is_written c = keeps_last _ c.use_of-m.ensures _ _ c.in_ok-n.was _ c.in_ok-u.was _ (sym c.is_written.ensures ∙ c.if-not-is_written.true)

pub remember-requires : goal.remember-requires
remember-requires c = (c.requires.0, span_held _ c.use_of-m.ensures _ _ c.in_ok-n.was _ c.in_ok-u.was c.requires.3.0 c.requires.3.1, c.requires.1)

-- There is room for one use more, which is small.
puts : (c : Else-not-is_written) → (numbers_kept * c.in_ok-n.n + numbers_kept ≤ length c.args.kept.now) × small c.in_ok-u.u
puts c = (
  room_for _ c.use_of-m.ensures _ _ c.in_ok-n.was _ c.in_ok-u.was _ c.requires.2,
  small_held _ c.use_of-m.ensures _ _ c.in_ok-n.was _ c.in_ok-u.was c.requires.3.0 c.requires.3.1 c.requires.3.2 (valid_most c.args.t.now c.requires.0),
)

pub put-requires : goal.put-requires
put-requires c = puts (goal.at.put-requires c).Else-not-is_written

pub returns : goal.returns
returns c =
    let p = puts (goal.at.returns c).Else-not-is_written in
    keeps_use _ c.use_of-m.ensures _ _ c.in_ok-n.was _ c.in_ok-u.was _ p.0 p.1 (sym c.is_written.ensures ∙ c.if-not-is_written.false) c.remember.ensures c.put.ensures
