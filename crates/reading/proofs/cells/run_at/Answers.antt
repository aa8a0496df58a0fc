-- `reading::cells::run_at` meets its contract: an MU field's cell has its values, another's has one.
use Rattle.std.specs.Prelude.{Some}
use mathlib.Core.Path.{subst}
use mathlib.Core.Bool.{Bool}
use lib.ListN.{length}
use native.Mathlib.Omega.{arith}
use Rattle.value_formats.specs.Formats.{format_at}
use Rattle.reading.specs.Cells.{CellHolds}
use Rattle.reading.proofs.Existing.{meant_written, exist_one, one_long}
use Rattle.reading.proofs.cells.run_at.Goals as goal
use Rattle.reading.proofs.cells.run_at.Goals.{Start}

pub returns-then-w : goal.returns-then-w
returns-then-w c vs x = c.run_among.ensures vs (subst (λ (m : Bool). CellHolds c.args.b.now (format_at c.args.w.own) c.args.w.standard m vs (Some c.args.cell)) c.if-w.true x)

pub returns-then-w-gt1 : goal.returns-then-w-gt1
returns-then-w-gt1 c vs x =
    let a = c.args in
    let y = subst (λ (m : Bool). CellHolds c.args.b.now (format_at c.args.w.own) c.args.w.standard m vs (Some c.args.cell)) c.if-w.false x in
    c.none_from.ensures a.w a.b.now vs (meant_written a.w (length vs) c.requires.0 c.if-w.false) (omega (arith, one_long a.w a.b.now vs a.cell y, c.if-w-gt1.true))

pub returns : goal.returns
returns c vs x =
    let a = c.args in
    exist_one a.w a.b.now vs a.cell (subst (λ (m : Bool). CellHolds c.args.b.now (format_at c.args.w.own) c.args.w.standard m vs (Some c.args.cell)) c.if-w.false x) (meant_written a.w (length vs) c.requires.0 c.if-w.false) (omega (arith, c.requires.0.first, c.if-w-gt1.false)) (omega (arith, c.requires.0.first, c.requires.0.ordered))
