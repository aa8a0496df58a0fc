-- `updating::cells::old_values` meets its contract: the values stand after their count; without a cell there are none.
use Rattle.std.specs.Prelude.{Some}
use mathlib.Core.Path.{subst}
use mathlib.Core.List.{List}
use Prim.Native.Nat.{ℕ}
use Rattle.rules.specs.Lists.{Bytes}
use Rattle.rules.specs.Values.{Format}
use Rattle.updating.specs.New.{Had}
use Rattle.updating.proofs.OldValues.{had_count, had_old, had_none}
use Rattle.updating.proofs.cells.old_values.Goals as goal
use Rattle.updating.proofs.cells.old_values.Goals.{In-Some}

stands : (c : In-Some) (f : Format) (n : ℕ) (vs : List Bytes) → Had c.args.b.now f n vs c.args.cell → Had c.args.b.now f n vs (Some c.in-Some.q)
stands c f n vs x = subst (Had c.args.b.now f n vs) c.in-Some.is x

pub after_count-requires : goal.after_count-requires
after_count-requires c = (had_count c.args.b.now c.requires.0 c.requires.1 c.requires.2 c.in-Some.q (stands c c.requires.0 c.requires.1 c.requires.2 c.requires.3)).0

pub count_at-requires : goal.count_at-requires
count_at-requires c = (had_count c.args.b.now c.requires.0 c.requires.1 c.requires.2 c.in-Some.q (stands (goal.at.count_at-requires c).In-Some c.requires.0 c.requires.1 c.requires.2 c.requires.3)).0

pub returns-in-Some : goal.returns-in-Some
returns-in-Some c f n vs x = had_old c.args.b.now f n vs c.in-Some.q (stands (goal.at.returns-in-Some c).In-Some f n vs x) c.after_count.ensures c.count_at.ensures.0

pub returns-in-None : goal.returns-in-None
returns-in-None c f n vs x =
    let a = c.args in
    had_none a.b.now f n vs (subst (Had a.b.now f n vs) c.in-None.is x)
