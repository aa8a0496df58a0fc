-- `updating::cells::put_old` meets its contract: a value that stands at a place is the bytes up to where it ends, and else it is null.
use Rattle.std.specs.Prelude.{Some}
use mathlib.Core.Path.{sym, subst, ◌∙◌}
use Prim.Native.Nat.{◌-◌}
use Rattle.rules.specs.Lists.{Bytes}
use Rattle.rules.specs.Values.{null}
use Rattle.value_formats.specs.Formats.{format_at}
use Rattle.updating.specs.New.{Was}
use Rattle.updating.proofs.OldValues.{null_alone, filling_as}
use Rattle.updating.proofs.cells.put_old.Goals as goal
use Rattle.updating.proofs.cells.put_old.Goals.{In-Some}

stands : (c : In-Some) {v : Bytes} → Was c.args.b.now (format_at c.args.format) c.args.size v c.args.cell
    → Was c.args.b.now (format_at c.args.format) c.args.size v (Some c.in-Some.from)
stands c {v} w = let a = c.args in subst (Was a.b.now (format_at a.format) a.size v) c.in-Some.is w

pub put_stored-requires : goal.put_stored-requires
put_stored-requires c = ((format_at c.args.format, c.requires.1.0, stands (goal.at.put_stored-requires c).In-Some c.requires.1.1), c.requires.2)

pub returns-in-Some : goal.returns-in-Some
returns-in-Some c v w = c.put_stored.ensures (format_at c.args.format) v (stands (goal.at.returns-in-Some c).In-Some w)

pub returns-in-None : goal.returns-in-None
returns-in-None c v w =
    let a = c.args in
    let f = format_at a.format in
    filling_as (a.end - a.at) c.put_nulls.ensures (null_alone (null f a.size) ∙ sym (subst (Was a.b.now f a.size v) c.in-None.is w))
