-- `reading::cells::none_of` meets its contract: of no values none exists.
use mathlib.Core.Path.{◌≡◌, refl}
use mathlib.Core.List.{[]}
use native.Mathlib.Omega.{arith}
use Rattle.format_buffer.specs.Elements.{range}
use Rattle.reading.specs.Cells.{values_meant}
use Rattle.reading.proofs.Existing.{Lies, meant_by, within}
use Rattle.reading.proofs.cells.none_of.Goals as goal
use Rattle.reading.proofs.cells.none_of.Goals.{After-resolved_upto}

-- The values meant, and where they lie.
meant : (c : After-resolved_upto) → range c.resolved_from-first.result c.resolved_upto.result ≡ values_meant c.args.w 0
meant c = meant_by c.args.w refl c.resolved_from-first.ensures c.resolved_upto.ensures

lies : (c : After-resolved_upto) → Lies (range c.resolved_from-first.result c.resolved_upto.result)
lies c = within c.args.w [] [] (meant c) c.requires (omega arith)

pub none_from-requires : goal.none_from-requires
none_from-requires c = let x = lies (goal.at.none_from-requires c).After-resolved_upto in (x.ordered, x.last)

pub returns : goal.returns
returns c b = c.none_from.ensures c.args.w b [] (meant (goal.at.returns c).After-resolved_upto) (lies (goal.at.returns c).After-resolved_upto).first
