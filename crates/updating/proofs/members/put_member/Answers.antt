-- `updating::members::put_member` meets its contract: a group adds nothing by itself, a field its cell.
use mathlib.Core.Path.{sym, ◌∙◌}
use mathlib.Core.Bool.{true}
use Prim.Native.Nat.{◌-◌}
use lib.ListN.{get_or}
use Rattle.rules.specs.Table.{parts}
use Rattle.rules.specs.Update.{update_plan}
use Rattle.tables.specs.Entries.{entries_of, blank}
use Rattle.tables.specs.Groups.{field_at}
use Rattle.filling.proofs.Singles.{nothing_put}
use Rattle.updating.proofs.Turns.{adds_member, adds_no_member}
use Rattle.updating.proofs.Laying.{puts_as}
use Rattle.updating.proofs.members.put_member.Goals as goal

pub returns-then-group_at : goal.returns-then-group_at
returns-then-group_at c r ws h a = nothing_put _ _ _ true _ (adds_no_member _ _ _ _ (sym c.group_at.ensures ∙ c.if-group_at.true))

pub returns : goal.returns
unfolding field_at
returns c r ws h a =
    let es = entries_of c.args.t.now in
    let f = sym c.group_at.ensures ∙ c.if-group_at.false in
    puts_as (c.args.end - c.args.at) (sym (adds_member (update_plan (parts es) r ws) c.args.o (get_or es c.args.i blank).name (get_or es c.args.i blank).what f)) (c.put_cell.ensures r ws (h f) a)
