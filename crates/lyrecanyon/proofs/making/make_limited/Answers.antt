-- `lyrecanyon::making::make_limited` meets its contract: the record buffer is cut to its limit.
use mathlib.Core.Path.{◌≡◌, sym, ◌∙◌, ap}
use native.Mathlib.Omega.{arith}
use lib.ListN.{take}
use lib.Seq.{length-take-le}
use Rattle.rules.specs.Limits.{longest_items}
use Rattle.tables.specs.Entries.{entries_of}
use Rattle.lyrecanyon.specs.Making.{given}
use Rattle.lyrecanyon.proofs.Makings.{take_least, makes_by}
use Rattle.lyrecanyon.proofs.making.make_limited.Goals as goal
use Rattle.lyrecanyon.proofs.making.make_limited.Goals.{After-min-end}

cut : (c : After-min-end) → take longest_items c.args.buffer.now ≡ take c.min-end.result c.args.buffer.now
cut c = sym (ap (λ n. take n c.args.buffer.now) c.min-end.ensures ∙ take_least c.args.buffer.now longest_items)

pub slice_bounds-make_items-end : goal.slice_bounds-make_items-end
slice_bounds-make_items-end c = sym (length-take-le _ c.args.buffer.now (omega (arith, c.min-end.ensures)))

pub returns : goal.returns
returns c f a r held =
    let es = entries_of c.args.table.now in
    makes_by es r _ c.make_items.result (ap (given es f c.args.kept.now c.args.count) (cut (goal.at.returns c).After-min-end)) (c.make_items.ensures f a r held)
