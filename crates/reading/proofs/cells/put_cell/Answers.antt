-- `reading::cells::put_cell` meets its contract: the run of the values that exist, and then nulls, are all that is wanted.
use mathlib.Core.List.{List}
use Prim.Native.Nat.{◌≤◌}
use lib.ListN.{length}
use native.Mathlib.Omega.{arith}
use Rattle.rules.specs.Limits.{greatest_count}
use Rattle.rules.specs.Lists.{Bytes}
use Rattle.value_formats.specs.Formats.{format_at}
use Rattle.reading.specs.Cells.{CellHolds, existing}
use Rattle.reading.proofs.Existing.{held_few}
use Rattle.reading.proofs.CellRuns.{missing_few, cell_off, cell_within, cell_on}
use Rattle.reading.proofs.Passing.{handed_on}
use Rattle.reading.proofs.cells.put_cell.Goals as goal
use Rattle.reading.proofs.cells.put_cell.Goals.{Start}

few : (s : Start) (vs : List Bytes) → CellHolds s.args.b.now (format_at s.args.w.own) s.args.w.standard s.args.w.multiple vs s.args.cell → length vs ≤ greatest_count
few s vs x = let a = s.args in held_few a.b.now (format_at a.w.own) a.w.standard a.w.multiple vs a.cell x

pub put_run-requires : goal.put_run-requires
put_run-requires c =
    let x = c.run_of-run.ensures c.requires.1.0 c.requires.1.1 in
    (c.requires.0, x.place, (existing c.args.w c.requires.1.0, x.stand), c.requires.2)

pub put_nulls-requires : goal.put_nulls-requires
put_nulls-requires c =
    let x = c.run_of-run.ensures c.requires.1.0 c.requires.1.1 in
    let f = c.put_run.ensures (existing c.args.w c.requires.1.0) x.stand in
    let n = few (goal.at.put_nulls-requires c).Start c.requires.1.0 c.requires.1.1 in
    (missing_few c.requires.0 n x, c.requires.0.size, (cell_within c.requires.0 n x c.requires.2.0 c.requires.2.1 f _ c.in_ok-p.was, omega (arith, f.same, c.requires.2.1)))

pub returns-in_err-p : goal.returns-in_err-p
returns-in_err-p c vs h =
    let x = c.run_of-run.ensures vs h in
    rw (handed_on c.from_residual.result c.from_residual.ensures.1)
    (cell_off c.requires.0 (few (goal.at.returns-in_err-p c).Start vs h) x c.requires.2.0 c.requires.2.1 (c.put_run.ensures (existing c.args.w vs) x.stand) _ c.in_err-p.was)

pub returns : goal.returns
returns c vs h =
    let x = c.run_of-run.ensures vs h in
    cell_on c.requires.0 (few (goal.at.returns c).Start vs h) x c.requires.2.0 c.requires.2.1 (c.put_run.ensures (existing c.args.w vs) x.stand) _ c.in_ok-p.was c.put_nulls.ensures
