-- `updating::put_group` meets its contract: where the highest occurrence named is 0, the group adds the bytes that it had.
use mathlib.Core.Path.{◌≡◌, sym, ◌∙◌, subst}
use mathlib.Core.List.{List}
use Prim.Native.Nat.{ℕ, ◌+◌, ◌≤◌}
use native.Mathlib.Omega.{arith}
use lib.ListN.{length, drop, get_or}
use Rattle.rules.specs.Table.{parts}
use Rattle.rules.specs.Record.{Record}
use Rattle.rules.specs.Update.{Assignment, update_plan}
use Rattle.tables.specs.Entries.{entries_of, blank}
use Rattle.records.specs.Places.{IsRecord}
use Rattle.records.proofs.Ends.{group_within}
use Rattle.updating.specs.Laid.{group_part, group_added}
use Rattle.updating.specs.New.{Assigns, Between}
use Rattle.updating.proofs.Grouping.{group_members}
use Rattle.updating.proofs.Unchanged.{group_kept}
use Rattle.updating.proofs.put_group.Goals as goal
use Rattle.updating.proofs.put_group.Goals.{After-highest_occurrence}

ends : (c : After-highest_occurrence) → (c.args.g ≤ c.group_end-last.result) × (c.group_end-last.result ≤ length (entries_of c.args.t.now))
ends c =
    let w = group_within (entries_of c.args.t.now) c.args.g c.requires.1 in
    (omega (arith, w.0, c.group_end-last.ensures), omega (arith, w.1, c.group_end-last.ensures))

-- Those are its old bytes, which stand from its part up to the next.
old : (c : After-highest_occurrence) → c.highest_occurrence.result ≡ 0 → (r : Record) (ws : List Assignment) → IsRecord (entries_of c.args.t.now) c.args.b.now c.args.places.now r
    → Assigns (entries_of c.args.t.now) c.args.kept.now c.args.list.now c.args.stage.now ws
    → Between (entries_of c.args.t.now) c.args.b.now c.args.g c.group_end-last.result (group_added (entries_of c.args.t.now) c.args.g (update_plan (parts (entries_of c.args.t.now)) r ws) r)
old c z r ws p a =
    let es = entries_of c.args.t.now in
    let name = (get_or es c.args.g blank).name in
    subst (λ (n : ℕ). Between es c.args.b.now c.args.g n (group_added es c.args.g (update_plan (parts es) r ws) r)) (sym c.group_end-last.ensures)
    (group_kept c.args.t.now c.requires.0 p a c.args.g c.requires.1 c.requires.2
    (sym (c.highest_occurrence.ensures.0 es a.format a.count c.args.stage.now ws a.indexed (group_part name (drop (c.args.g + 1) es))
    (group_members c.args.t.now c.requires.0 c.args.g c.requires.1 c.requires.2 _ c.group_end-last.ensures) (ends c).1) ∙ z))

pub highest_occurrence-requires : goal.highest_occurrence-requires
highest_occurrence-requires c =
    let es = entries_of c.args.t.now in
    let (ws, a) = c.requires.3.1 in
    (omega (arith, c.group_end-last.ensures, (group_within es c.args.g c.requires.1).0), (es, a.format, a.count, c.args.stage.now, ws, a.indexed, omega (arith, c.group_end-last.ensures, (group_within es c.args.g c.requires.1).1)))

pub put_kept-requires : goal.put_kept-requires
put_kept-requires c =
    let d = (goal.at.put_kept-requires c).After-highest_occurrence in
    let (r, p) = c.requires.3.0 in
    let (ws, a) = c.requires.3.1 in
    (c.requires.0, (ends d).0, (ends d).1, (r, p), (_, old d c.if-highest_occurrence-eq0.true r ws p a), c.requires.4)

pub returns-then-highest_occurrence-eq0 : goal.returns-then-highest_occurrence-eq0
returns-then-highest_occurrence-eq0 c r ws p a = c.put_kept.ensures _ (old (goal.at.returns-then-highest_occurrence-eq0 c).After-highest_occurrence c.if-highest_occurrence-eq0.true r ws p a)
