use Rattle.std.specs.Prelude.{Ok}
use mathlib.Core.Path.{◌≡◌, sym, subst}
use mathlib.Core.Bool.{false}
use Prim.Native.Nat.{ℕ, ◌+◌, ◌<◌}
use native.Mathlib.Omega.{arith}
use lib.ListN.{length, get_or}
use Rattle.tables.specs.Entries.{entries_of, blank, is_group}
use Rattle.tables.specs.Places.{inside_at}
use Rattle.reading.specs.Spans.{FillsBy, scoped_items}
use Rattle.reading.proofs.Running.{Running, run_on, run_off, run_end}
use Rattle.reading.proofs.Passing.{handed_on}
use Rattle.reading.proofs.Columns.{scoped_row, no_scoped, first_scoped, column_wants, column_holds, column_fills}
use Rattle.reading.proofs.SpanItems.{bounds}
use Rattle.reading.proofs.spans.put_column.Goals as goal
use Rattle.reading.proofs.spans.put_column.Goals.{After-put_cell}

pub cell_by-cell-requires : goal.cell_by-cell-requires
cell_by-cell-requires c =
    let a = c.args in
    let e = sym c.path_to-path.ensures.0 in
    let u = bounds a.s.from a.s.upto c.requires.1.occurrences in (
      c.requires.0,
      subst (λ (j : ℕ). j < length (entries_of a.t.now)) e (omega (arith, c.requires.1.ordered, c.requires.1.upto)),
      subst (λ (j : ℕ). is_group (get_or (entries_of a.t.now) j blank).what ≡ false) e (c.requires.1.alone c.requires.2).field,
      omega (arith, u.0, c.loop-o.auto.o),
      subst (λ (j : ℕ). inside_at (entries_of a.t.now) j ≡ false → c.loop-o.o ≡ 1) e
          (λ out. (let x = c.requires.1.only a.s.first (omega arith) c.requires.1.ordered out in omega (arith, u.0, c.loop-o.auto.o, c.loop-o-test.true))),
      c.path_to-path.ensures.1,
      c.requires.4,
    )

pub put_cell-requires : goal.put_cell-requires
put_cell-requires c =
    let a = c.args in (
      column_wants a.t.now c.requires.0 c.requires.1 c.requires.2 c.requires.3 c.loop-o.o c.wanted_of-w.ensures,
      column_holds a.t.now c.requires.0 c.requires.1 c.requires.2 c.requires.3 c.loop-o.o c.wanted_of-w.ensures c.path_to-path.ensures.0 c.cell_by-cell.result c.cell_by-cell.ensures c.requires.4.0 c.requires.4.1,
      (c.loop-o.invariant.fits, c.loop-o.invariant.room),
    )

-- What is put in an occurrence are its items.
put : (c : After-put_cell) → let a = c.args in let es = entries_of a.t.now in
    FillsBy es a.b.now a.places.now (scoped_row es a.s a.scope c.loop-o.o) c.loop-o.p a.end a.write c.loop-o.out c.put_cell.new.out c.put_cell.result
put c =
    let a = c.args in
    column_fills a.t.now c.requires.0 c.requires.1 c.requires.2 c.requires.3 c.loop-o.o c.wanted_of-w.ensures c.path_to-path.ensures.0 c.cell_by-cell.result c.cell_by-cell.ensures a.end c.put_cell.ensures

-- One occurrence more is put.
turned : (c : After-put_cell) (p : ℕ) → c.put_cell.result ≡ Ok p → let a = c.args in let es = entries_of a.t.now in
    Running es a.b.now a.places.now a.end (λ r. scoped_items es r a.s a.scope a.s.from) (λ r. scoped_items es r a.s a.scope (c.loop-o.o + 1)) a.at p a.write a.out.now c.put_cell.new.out
turned c =
    let a = c.args in
    let es = entries_of a.t.now in
    run_on c.loop-o.invariant (scoped_row es a.s a.scope c.loop-o.o) (λ r. scoped_items es r a.s a.scope (c.loop-o.o + 1)) (first_scoped es a.s a.scope c.loop-o.o c.loop-o-test.true) (put c)

pub returns-in_err-p : goal.returns-in_err-p
returns-in_err-p c =
    let a = c.args in
    let es = entries_of a.t.now in
    rw (handed_on c.from_residual.result c.from_residual.ensures.1)
    (run_off c.loop-o.invariant (scoped_row es a.s a.scope c.loop-o.o) (λ r. scoped_items es r a.s a.scope (c.loop-o.o + 1)) (first_scoped es a.s a.scope c.loop-o.o c.loop-o-test.true) (put (goal.at.returns-in_err-p c).After-put_cell) _ c.in_err-p.was)

pub loop-o-preserved : goal.loop-o-preserved
loop-o-preserved c = turned (goal.at.loop-o-preserved c).After-put_cell _ c.in_ok-p.was

pub returns : goal.returns
returns c = run_end c.loop-o.invariant (no_scoped (entries_of c.args.t.now) c.args.s c.args.scope c.loop-o.o c.loop-o-test.false)

pub returns-in_ok-p : goal.returns-in_ok-p
returns-in_ok-p c = run_end (turned (goal.at.returns-in_ok-p c).After-put_cell _ c.in_ok-p.was) (no_scoped (entries_of c.args.t.now) c.args.s c.args.scope (c.loop-o.o + 1) (omega arith))
