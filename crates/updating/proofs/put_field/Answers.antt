-- `updating::put_field` meets its contract: where the highest occurrence named is 0, the field adds the bytes that it had.
use mathlib.Core.Path.{◌≡◌, refl, sym, ◌∙◌}
use mathlib.Core.Logic.{inr}
use mathlib.Core.List.{List}
use Prim.Native.Nat.{◌+◌, ◌-◌}
use native.Mathlib.Omega.{arith}
use lib.ListN.{get_or}
use Rattle.rules.specs.Table.{alone, parts}
use Rattle.rules.specs.Record.{Record}
use Rattle.rules.specs.Update.{Assignment, update_plan}
use Rattle.tables.specs.Entries.{entries_of, blank}
use Rattle.tables.specs.Groups.{field_at}
use Rattle.records.specs.Places.{IsRecord}
use Rattle.updating.specs.Laid.{cell_laid}
use Rattle.updating.specs.New.{Assigns, Between}
use Rattle.updating.proofs.Turns.{adds_member}
use Rattle.updating.proofs.Laying.{puts_as}
use Rattle.updating.proofs.Membering.{member_alone}
use Rattle.updating.proofs.Unchanged.{field_kept, alone_fields}
use Rattle.updating.proofs.put_field.Goals as goal
use Rattle.updating.proofs.put_field.Goals.{After-highest_occurrence}

-- Those are its old bytes, which stand from its part up to the next.
old : (c : After-highest_occurrence) → c.highest_occurrence.result ≡ 0 → (r : Record) (ws : List Assignment) → IsRecord (entries_of c.args.t.now) c.args.b.now c.args.places.now r
    → Assigns (entries_of c.args.t.now) c.args.kept.now c.args.list.now c.args.stage.now ws
    → Between (entries_of c.args.t.now) c.args.b.now c.args.i (c.args.i + 1) (cell_laid (update_plan (parts (entries_of c.args.t.now)) r ws) 1 (field_at (entries_of c.args.t.now) c.args.i))
old c z r ws p a =
    let es = entries_of c.args.t.now in
    field_kept c.args.t.now c.requires.0 p a c.args.i c.requires.1 c.requires.2 c.requires.3
    (sym (c.highest_occurrence.ensures.0 es a.format a.count c.args.stage.now ws a.indexed (alone (field_at es c.args.i))
    (alone_fields es c.args.i c.requires.1 c.requires.2) (omega (arith, c.requires.1))) ∙ z)

pub highest_occurrence-requires : goal.highest_occurrence-requires
highest_occurrence-requires c =
    let (ws, a) = c.requires.4.1 in
    (omega arith, (entries_of c.args.t.now, a.format, a.count, c.args.stage.now, ws, a.indexed, omega (arith, c.requires.1)))

pub put_kept-requires : goal.put_kept-requires
put_kept-requires c =
    let (r, p) = c.requires.4.0 in
    let (ws, a) = c.requires.4.1 in
    (c.requires.0, omega arith, omega (arith, c.requires.1), (r, p), (_, old (goal.at.put_kept-requires c).After-highest_occurrence c.if-highest_occurrence-eq0.true r ws p a), c.requires.5)

pub returns-then-highest_occurrence-eq0 : goal.returns-then-highest_occurrence-eq0
returns-then-highest_occurrence-eq0 c r ws p a = c.put_kept.ensures _ (old (goal.at.returns-then-highest_occurrence-eq0 c).After-highest_occurrence c.if-highest_occurrence-eq0.true r ws p a)

pub put_members-requires : goal.put_members-requires
put_members-requires c = (c.requires.0, omega (arith, c.requires.1), omega arith, omega arith, c.requires.4, (λ r held less. inr (refl, c.outside_cell-had.ensures r held)), c.requires.5)

pub returns : goal.returns
unfolding field_at
returns c r ws p a =
    let es = entries_of c.args.t.now in
    let e = get_or es c.args.i blank in
    let w = update_plan (parts es) r ws in
    puts_as (c.args.end - c.args.at) (member_alone w 1 es c.args.i ∙ adds_member w 1 e.name e.what c.requires.2) (c.put_members.ensures r ws p a)
