-- `updating::cells::put_counted` meets its contract: the new count, and as many values, each by its note or as it was.
use Rattle.std.proofs.lemmas.Result.{err_from_is_err_and}
use mathlib.Core.Path.{◌≡◌, refl, sym, ◌∙◌}
use mathlib.Core.Bool.{true, false, cond}
use mathlib.Core.List.{List, []}
use Prim.Native.Nat.{max, ◌+◌, ◌-◌}
use native.Mathlib.Omega.{arith}
use Rattle.rules.specs.Limits.{highest_index}
use Rattle.rules.specs.Record.{Record, count_bytes}
use Rattle.rules.specs.Update.{Assignment}
use Rattle.rules.proofs.Steps.{by_test}
use Rattle.value_formats.specs.Formats.{format_at}
use Rattle.tables.specs.Entries.{entries_of}
use Rattle.records.specs.Places.{CellOf}
use Rattle.records.proofs.Placed.{multiple_field}
use Rattle.updating.specs.New.{Assigns}
use Rattle.updating.proofs.OldValues.{filling_as}
use Rattle.updating.proofs.InRoom.{both_within, both_on, both_off}
use Rattle.updating.proofs.NewCells.{counts_and_indexes, no_notes}
use Rattle.updating.proofs.Counting.{Counted, Numbered, known_field, able, counted, had}
use Rattle.updating.proofs.cells.put_counted.Goals as goal
use Rattle.updating.proofs.cells.put_counted.Goals.{After-size_at-size, Joined-named, else-named, then-named}

entry : (c : After-size_at-size) → Numbered (entries_of c.args.t.now) c.args.i (format_at c.field_format-format.result) c.size_at-size.result
entry c = record { field = multiple_field _ c.requires.2; format_is = c.field_format-format.ensures; size_is = c.size_at-size.ensures.0 }

count : (c : Joined-named) → c.if-named.n ≡ cond c.named-named.result.bare c.named-named.result.highest (max c.old_values-old.result.count c.named-named.result.highest)
count c = elim c.if-named.branch [
  | then-named w ↦ let t : c.named-named.result.bare ≡ true = by_test c.named-named.result.bare (λ t. t) (λ t. let z = rw t at w.if-named.true in cc) in rw t w.n-is
  | else-named w ↦ let t : c.named-named.result.bare ≡ false = by_test c.named-named.result.bare (λ t. let z = rw t at w.if-named.false in cc) (λ t. t) in rw t (w.n-is ∙ w.max-n.ensures)
]

known : (c : Joined-named) (r : Record) (ws : List Assignment) → CellOf (entries_of c.args.t.now) c.args.b.now c.args.i c.args.o r c.args.cell → Assigns (entries_of c.args.t.now) c.args.kept.now c.args.list.now c.args.stage.now ws
    → Counted (entries_of c.args.t.now) c.args.b.now c.args.stage.now c.args.i c.args.o r ws (format_at c.field_format-format.result) c.size_at-size.result c.named-named.new.by c.old_values-old.result c.if-named.n
known c r ws x a =
    let k : Numbered (entries_of c.args.t.now) c.args.i (format_at c.field_format-format.result) c.size_at-size.result = record { field = multiple_field _ c.requires.2; format_is = c.field_format-format.ensures; size_is = c.size_at-size.ensures.0 } in
    counted k c.requires.2 a r (c.named-named.ensures _ a.format a.count ws (able k c.requires.2 a c.requires.1)) (c.old_values-old.ensures _ _ _ (had k c.requires.2 c.args.b.now c.args.o r c.args.cell x)) c.if-named.n (count c)

pub old_values-old-requires : goal.old_values-old-requires
old_values-old-requires c =
    let (r, x) = c.requires.3.2.0 in
    (_, _, _, had (entry c) c.requires.2 c.args.b.now c.args.o r c.args.cell x)

pub named-named-requires : goal.named-named-requires
named-named-requires c =
    let (ws, a) = c.requires.3.2.1 in
    let k = entry (goal.at.named-named-requires c).After-size_at-size in
    (omega (arith, c.requires.1, a.indexed.listed.entries), c.requires.3.0, c.requires.3.1, refl, no_notes (highest_index + 1), (entries_of c.args.t.now, a.format, a.count, ws, able k c.requires.2 a c.requires.1))

pub put_count-requires : goal.put_count-requires
put_count-requires c =
    let (r, x) = c.requires.3.2.0 in
    let (ws, a) = c.requires.3.2.1 in
    (omega (arith, (known (goal.at.put_count-requires c).Joined-named r ws x a).few, counts_and_indexes.1), c.requires.3.3)

pub put_values-requires : goal.put_values-requires
put_values-requires c =
    let d = goal.at.put_values-requires c in
    let (r, x) = c.requires.3.2.0 in
    let (ws, a) = c.requires.3.2.1 in
    let k = entry d.After-size_at-size in
    let g = known d.Joined-named r ws x a in
    let e = known_field k c.args.t.now c.requires.0 refl c.requires.1 in
    (e, g.few, (_, g.notes), (_, g.olds), (both_within c.args.end (count_bytes c.if-named.n) [] c.put_count.ensures c.requires.3.3.0 c.requires.3.3.1 _ c.in_ok-p.was, omega (arith, c.put_count.ensures.same, c.requires.3.3.1)))

pub returns-in_err-p : goal.returns-in_err-p
returns-in_err-p c r ws x a =
    let p = err_from_is_err_and c.from_residual.result c.from_residual.ensures.1 in
    rw (p.1, p.2) (filling_as (c.args.end - c.args.at) (both_off c.args.end _ _ c.put_count.ensures c.requires.3.3.0 c.requires.3.3.1 _ c.in_err-p.was) (sym (known (goal.at.returns-in_err-p c).Joined-named r ws x a).laid))

pub returns : goal.returns
returns c r ws x a =
    let g = known (goal.at.returns c).Joined-named r ws x a in
    filling_as (c.args.end - c.args.at) (both_on c.args.end _ _ c.put_count.ensures c.requires.3.3.0 c.requires.3.3.1 _ c.in_ok-p.was (c.put_values.ensures _ _ g.notes g.olds)) (sym g.laid)
