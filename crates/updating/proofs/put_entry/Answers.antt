-- `updating::put_entry` meets its contract: a periodic group adds its count and occurrences, a field outside its cell, anything else nothing.
use mathlib.Core.Path.{sym, ◌∙◌}
use mathlib.Core.Bool.{true}
use Prim.Native.Nat.{◌+◌, ◌-◌}
use lib.ListN.{drop, get_or}
use Rattle.rules.specs.Table.{parts}
use Rattle.rules.specs.Record.{group_count_at}
use Rattle.rules.specs.Update.{update_plan}
use Rattle.tables.specs.Entries.{entries_of, blank}
use Rattle.tables.specs.Groups.{field_at}
use Rattle.filling.proofs.Singles.{nothing_put}
use Rattle.updating.proofs.Turns.{adds_nothing, adds_cell}
use Rattle.updating.proofs.Laying.{puts_as}
use Rattle.updating.proofs.Grouping.{adds_alike, adds_inside}
use Rattle.updating.proofs.put_entry.Goals as goal
use Rattle.updating.proofs.put_entry.Goals.{then-inside-via-then-inside, then-inside-via-else-inside+then-group_at}

pub returns-then-periodic_at : goal.returns-then-periodic_at
returns-then-periodic_at c r ws p a =
    let es = entries_of c.args.t.now in
    let e = get_or es c.args.i blank in
    puts_as (c.args.end - c.args.at)
    (adds_alike (update_plan (parts es) r ws) (group_count_at (parts es) r) e.name (drop (c.args.i + 1) es) c.args.inside e.what (sym c.periodic_at.ensures ∙ c.if-periodic_at.true))
    (c.put_group.ensures r ws p a)

pub returns-then-inside : goal.returns-then-inside
returns-then-inside c r ws p a =
    let es = entries_of c.args.t.now in
    let e = get_or es c.args.i blank in
    let w = update_plan (parts es) r ws in
    let old = group_count_at (parts es) r in
    let other = sym c.periodic_at.ensures ∙ c.if-periodic_at.false in
    nothing_put _ _ _ true _ elim c.then-inside.branch [
      | then-inside-via-then-inside x ↦ adds_inside w old e.name (drop (c.args.i + 1) es) c.args.inside e.what other x.if-inside.true
      | then-inside-via-else-inside+then-group_at x ↦ adds_nothing w old e.name (drop (c.args.i + 1) es) c.args.inside e.what (sym x.group_at.ensures ∙ x.if-group_at.true) other
    ]

pub returns : goal.returns
unfolding field_at
returns c r ws p a =
    let es = entries_of c.args.t.now in
    let e = get_or es c.args.i blank in
    puts_as (c.args.end - c.args.at)
    (sym (adds_cell (update_plan (parts es) r ws) (group_count_at (parts es) r) e.name (drop (c.args.i + 1) es) c.args.inside e.what (sym c.group_at.ensures ∙ c.if-group_at.false) c.if-inside.false))
    (c.put_field.ensures r ws p a)
