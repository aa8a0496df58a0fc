-- `reading::cells::run_of` meets its contract: where there is no cell, there are no values.
use Rattle.std.specs.Prelude.{Option, ℕ}
use mathlib.Core.Path.{subst}
use Rattle.value_formats.specs.Formats.{format_at}
use Rattle.reading.specs.Cells.{CellHolds}
use Rattle.reading.proofs.cells.run_of.Goals as goal
use Rattle.reading.proofs.cells.run_of.Goals.{Start}

pub returns-in-Some : goal.returns-in-Some
returns-in-Some c vs x = c.run_at.ensures vs (subst (λ (cell : Option ℕ). CellHolds c.args.b.now (format_at c.args.w.own) c.args.w.standard c.args.w.multiple vs cell) c.in-Some.is x)
