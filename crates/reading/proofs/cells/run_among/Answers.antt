-- `reading::cells::run_among` meets its contract: the values meant stand after those before them, as far as the cell has them.
use Rattle.std.specs.Prelude.{Some}
use mathlib.Core.Path.{◌≡◌, ◌∙◌}
use mathlib.Core.Bool.{true}
use mathlib.Core.List.{List}
use Prim.Native.Nat.{◌+◌, ◌-◌, ◌≤◌}
use native.Mathlib.Omega.{arith}
use lib.ListN.{length, drop}
use Rattle.rules.specs.Limits.{count_size}
use Rattle.rules.specs.Lists.{Bytes}
use Rattle.rules.specs.Record.{times, stored_value}
use Rattle.value_formats.specs.Formats.{format_at}
use Rattle.format_buffer.specs.Elements.{range}
use Rattle.records.specs.Walk.{rest_of, Ends}
use Rattle.reading.specs.Cells.{CellHolds, values_meant}
use Rattle.reading.proofs.Existing.{Lies, meant_by, within, cell_many, before_first, exist_there}
use Rattle.reading.proofs.cells.run_among.Goals as goal
use Rattle.reading.proofs.cells.run_among.Goals.{After-resolved_upto-last}

-- They are as many as the count says; by that count the code knows which are meant, and where those lie.
module _ (c : After-resolved_upto-last) {vs : List Bytes} (x : (CellHolds c.args.b.now (format_at c.args.w.own) c.args.w.standard true vs (Some c.args.cell))) where
  count : c.count_at-n.result ≡ length vs
  count = let a = c.args in c.count_at-n.ensures.0 ∙ (cell_many a.w a.b.now vs a.cell x).1

  meant : range c.resolved_from-first.result c.resolved_upto-last.result ≡ values_meant c.args.w (length vs)
  meant = meant_by c.args.w count c.resolved_from-first.ensures c.resolved_upto-last.ensures

  lies : Lies (range c.resolved_from-first.result c.resolved_upto-last.result)
  lies = let a = c.args in within a.w a.b.now vs meant c.requires.0 (cell_many a.w a.b.now vs a.cell x).2

  -- Those before the first of them, if that is there.
  ahead : c.resolved_from-first.result ≤ c.count_at-n.result → Ends ((let a = c.args in rest_of (times (c.resolved_from-first.result - 1) (stored_value (format_at a.w.own) a.w.standard) (drop (a.cell + count_size) a.b.now))))
  ahead there = let a = c.args in before_first a.w a.b.now vs a.cell x meant lies.first (omega (arith, count))

pub count_at-n-requires : goal.count_at-n-requires
count_at-n-requires c = let a = c.args in (cell_many a.w a.b.now c.requires.1.0 a.cell c.requires.1.1).0

pub none_from-requires : goal.none_from-requires
none_from-requires c = let x = lies (goal.at.none_from-requires c).After-resolved_upto-last c.requires.1.1 in (x.ordered, x.last)

pub returns-then-n-first : goal.returns-then-n-first
returns-then-n-first c vs x =
    let a = c.args in
    let s = (goal.at.returns-then-n-first c).After-resolved_upto-last in
    c.none_from.ensures a.w a.b.now vs (meant s x) (omega (arith, count s x, c.if-n-first.true))

pub values_end-requires : goal.values_end-requires
values_end-requires c =
    let a = c.args in
    let s = (goal.at.values_end-requires c).After-resolved_upto-last in
    (omega (arith, (cell_many a.w a.b.now c.requires.1.0 a.cell c.requires.1.1).0, c.after_count-from.ensures), (format_at a.w.own, rw c.after_count-from.ensures (ahead s c.requires.1.1 c.if-n-first.false)))

pub returns : goal.returns
returns c vs x =
    let a = c.args in
    let s = (goal.at.returns c).After-resolved_upto-last in
    let n = count s x in
    exist_there a.w a.b.now vs a.cell x (meant s x) (lies s x).first (omega (arith, n, c.if-n-first.false)) c.values_end.result (rw c.after_count-from.ensures at c.values_end.ensures (format_at a.w.own) (ahead s x c.if-n-first.false)) _ _
    (omega (arith, n, c.min-there.ensures)) (omega (arith, n, c.min-there.ensures))
