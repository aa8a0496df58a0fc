-- `updating::cells::put_plain` meets its contract: the cell is one value, which takes what is assigned to it or stays as it was.
use mathlib.Core.Path.{refl, sym, ◌∙◌, ap}
use mathlib.Core.List.{List}
use mathlib.Core.Option.{Option}
use Prim.Native.Nat.{◌-◌}
use lib.ListN.{get_or}
use Rattle.rules.specs.Lists.{Bytes}
use Rattle.rules.specs.Update.{Assignment}
use Rattle.tables.specs.Entries.{entries_of, blank, field_format}
use Rattle.updating.specs.New.{Assigns, Stands, taken}
use Rattle.updating.proofs.OldValues.{filling_as, stands_there, stands_none}
use Rattle.updating.proofs.Counting.{Numbered, given_to, known_field, takes, had_one, was_one, one_laid}
use Rattle.updating.proofs.cells.put_plain.Goals as goal
use Rattle.updating.proofs.cells.put_plain.Goals.{After-assigned-staged}

entry : (c : After-assigned-staged) → Numbered (entries_of c.args.t.now) c.args.i (field_format (get_or (entries_of c.args.t.now) c.args.i blank).what) c.size_at-size.result
entry c = record { field = c.requires.2; format_is = refl; size_is = c.size_at-size.ensures.0 }

staged : (c : After-assigned-staged) (ws : List Assignment) → Assigns (entries_of c.args.t.now) c.args.kept.now c.args.list.now c.args.stage.now ws
    → Stands c.args.stage.now (field_format (get_or (entries_of c.args.t.now) c.args.i blank).what) c.size_at-size.result (given_to (entries_of c.args.t.now) ws c.args.i c.args.o 1) c.assigned-staged.result
staged c ws a = takes (entry c) a c.args.o 1 c.assigned-staged.result (c.assigned-staged.ensures a.format a.count ws a.indexed)

pub assigned-staged-requires : goal.assigned-staged-requires
assigned-staged-requires c =
    let (ws, a) = c.requires.4.2.1 in
    (c.requires.0, c.requires.1, c.requires.2, c.requires.3, (c.requires.4.0, c.requires.4.1, (a.format, a.count, ws, a.indexed)))

pub put_stored-requires : goal.put_stored-requires
put_stored-requires c =
    let d = (goal.at.put_stored-requires c).After-assigned-staged in
    let (ws, a) = c.requires.4.2.1 in
    let (v, e, w) = stands_there _ _ _ _ _ (staged d ws a) c.if-staged-gt0.true in
    ((_, v, w), c.requires.4.3)

pub returns-then-staged-gt0 : goal.returns-then-staged-gt0
returns-then-staged-gt0 c r ws x a =
    let d = (goal.at.returns-then-staged-gt0 c).After-assigned-staged in
    let k = entry d in
    let (v, q, w) = stands_there _ _ _ _ _ (staged d ws a) c.if-staged-gt0.true in
    filling_as (c.args.end - c.args.at) (c.put_stored.ensures _ v w)
    (sym (one_laid k c.requires.3 c.args.b.now c.args.o r ws ∙ ap (λ (z : Option Bytes). taken z (had_one k c.requires.3 c.args.b.now c.args.o r)) q))

pub put_old-requires : goal.put_old-requires
put_old-requires c =
    let k = entry (goal.at.put_old-requires c).After-assigned-staged in
    let e = known_field k c.args.t.now c.requires.0 refl c.requires.1 in
    let (r, x) = c.requires.4.2.0 in
    rw c.field_format.ensures (e, (_, was_one k c.requires.3 c.args.b.now c.args.o r c.args.cell x), c.requires.4.3)

pub returns : goal.returns
returns c r ws x a =
    let d = (goal.at.returns c).After-assigned-staged in
    let k = entry d in
    let old = rw c.field_format.ensures at c.put_old.ensures in
    filling_as (c.args.end - c.args.at) (old _ (was_one k c.requires.3 c.args.b.now c.args.o r c.args.cell x))
    (sym (one_laid k c.requires.3 c.args.b.now c.args.o r ws ∙ ap (λ (z : Option Bytes). taken z (had_one k c.requires.3 c.args.b.now c.args.o r)) (stands_none _ _ _ _ _ (staged d ws a) c.if-staged-gt0.false)))
