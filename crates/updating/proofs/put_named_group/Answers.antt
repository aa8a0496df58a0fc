-- `updating::put_named_group` meets its contract: the count that it puts is the new one, and then the occurrences are as many.
use Rattle.std.proofs.lemmas.Result.{err_from_is_err_and}
use mathlib.Core.Path.{◌≡◌, ap}
use mathlib.Core.List.{List}
use Prim.Native.Nat.{◌+◌, ◌-◌, ◌≤◌}
use native.Mathlib.Omega.{arith}
use lib.ListN.{drop, get_or}
use Rattle.rules.specs.Limits.{highest_index, greatest_count}
use Rattle.rules.specs.Table.{parts}
use Rattle.rules.specs.Record.{Record, count_bytes}
use Rattle.rules.specs.Update.{Assignment, update_plan}
use Rattle.tables.specs.Entries.{entries_of, blank}
use Rattle.tables.proofs.Tables.{valid_names}
use Rattle.records.specs.Places.{IsRecord}
use Rattle.records.proofs.Ends.{group_within}
use Rattle.records.proofs.Placed.{count_most}
use Rattle.updating.specs.Laid.{group_part, occurrences_laid, group_added}
use Rattle.updating.specs.New.{Assigns}
use Rattle.updating.proofs.Laying.{Laying, puts_as, lay_start, lay_on, lay_off, lay_last}
use Rattle.updating.proofs.Left.{new_count, count_added, occurrences_added, group_first}
use Rattle.updating.proofs.Grouping.{group_members, group_new}
use Rattle.updating.proofs.put_named_group.Goals as goal
use Rattle.updating.proofs.put_named_group.Goals.{After-max-n, Start}

count : (c : After-max-n) (r : Record) (ws : List Assignment) → IsRecord (entries_of c.args.t.now) c.args.b.now c.args.places.now r
    → Assigns (entries_of c.args.t.now) c.args.kept.now c.args.list.now c.args.stage.now ws → c.max-n.result ≡ new_count (entries_of c.args.t.now) c.args.g (update_plan (parts (entries_of c.args.t.now)) r ws) r
count c r ws p a =
    let t = c.args.t.now in
    let es = entries_of t in
    let g = c.args.g in
    let name = (get_or es g blank).name in
    let end = c.group_end-last in
    group_new (parts es) r ws name (drop (g + 1) es) _ _ _ (c.group_count-old.ensures.1 r p)
    (c.highest_occurrence-highest.ensures.0 es a.format a.count c.args.stage.now ws a.indexed (group_part name (drop (g + 1) es)) (group_members t c.requires.0 g c.requires.1 c.requires.2 end.result end.ensures) (omega (arith, end.ensures, (group_within es g c.requires.1).1)))
    c.max-n.ensures

-- It is within the limits of counts and of indexes.
most : (c : After-max-n) → (c.max-n.result ≤ greatest_count) × (c.max-n.result ≤ highest_index)
most c =
    let o = c.group_count-old.ensures.1 c.requires.3.0.0 c.requires.3.0.1 in
    let m = count_most c.requires.3.0.1 (valid_names c.args.t.now c.requires.0) c.args.g c.requires.1 c.requires.2 in
    (omega (arith, o, m, c.highest_occurrence-highest.ensures.1, c.max-n.ensures), omega (arith, o, m, c.highest_occurrence-highest.ensures.1, c.max-n.ensures))

begun : (c : Start) → Laying (entries_of c.args.t.now) c.args.b.now c.args.places.now c.args.kept.now c.args.list.now c.args.stage.now (group_added (entries_of c.args.t.now) c.args.g) (group_added (entries_of c.args.t.now) c.args.g) c.args.at c.args.at c.args.end c.args.out.now c.args.out.now
begun c = lay_start (group_added (entries_of c.args.t.now) c.args.g) c.requires.3 c.requires.4.0 c.requires.4.1

pub highest_occurrence-highest-requires : goal.highest_occurrence-highest-requires
highest_occurrence-highest-requires c =
    let es = entries_of c.args.t.now in
    let (ws, a) = c.requires.3.1 in
    (omega (arith, c.group_end-last.ensures, (group_within es c.args.g c.requires.1).0), (es, a.format, a.count, c.args.stage.now, ws, a.indexed, omega (arith, c.group_end-last.ensures, (group_within es c.args.g c.requires.1).1)))

pub put_count-requires : goal.put_count-requires
put_count-requires c = ((most (goal.at.put_count-requires c).After-max-n).0, c.requires.4)

pub put_occurrences-requires : goal.put_occurrences-requires
put_occurrences-requires c =
    let es = entries_of c.args.t.now in
    let g = c.args.g in
    let d = goal.at.put_occurrences-requires c in
    let l = lay_on (begun d.Start) (count_added es g) (occurrences_added es g) (group_first es g) (λ r ws p a. puts_as (c.args.end - c.args.at) (ap count_bytes (count d.After-max-n r ws p a)) c.put_count.ensures) _ c.in_ok-p.was in
    (c.requires.0, c.requires.1, c.requires.2, c.group_end-last.ensures, (most d.After-max-n).1, c.requires.3, (l.fits, l.room))

pub returns-in_err-p : goal.returns-in_err-p
returns-in_err-p c =
    let es = entries_of c.args.t.now in
    let g = c.args.g in
    let d = goal.at.returns-in_err-p c in
    let p = err_from_is_err_and c.from_residual.result c.from_residual.ensures.1 in
    rw (p.1, p.2) (lay_off (begun d.Start) (count_added es g) (occurrences_added es g) (group_first es g) (λ r ws p a. puts_as (c.args.end - c.args.at) (ap count_bytes (count d.After-max-n r ws p a)) c.put_count.ensures) _ c.in_err-p.was)

pub returns : goal.returns
returns c =
    let es = entries_of c.args.t.now in
    let g = c.args.g in
    let d = goal.at.returns c in
    lay_last (lay_on (begun d.Start) (count_added es g) (occurrences_added es g) (group_first es g) (λ r ws p a. puts_as (c.args.end - c.args.at) (ap count_bytes (count d.After-max-n r ws p a)) c.put_count.ensures) _ c.in_ok-p.was)
    (λ r ws p a. puts_as (c.args.end - c.in_ok-p.p) (ap (occurrences_laid (update_plan (parts es) r ws) (drop (g + 1) es) 1) (count d.After-max-n r ws p a)) (c.put_occurrences.ensures r ws p a))
