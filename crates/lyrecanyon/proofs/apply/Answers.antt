-- `lyrecanyon::apply` meets its contract: it is an update of the record that stands in the slice, lent within the same slice.
use mathlib.Core.Path.{sym, ◌∙◌, ap}
use native.Mathlib.Omega.{arith}
use lib.ListN.{length, take}
use lib.Seq.{length-take-le}
use Rattle.rules.specs.Services.{update}
use Rattle.lyrecanyon.proofs.Makings.{take_least}
use Rattle.lyrecanyon.proofs.Updates.{update_lent, settled_as}
use Rattle.lyrecanyon.proofs.apply.Goals as goal

pub slice_bounds-make-end-2 : goal.slice_bounds-make-end-2
slice_bounds-make-end-2 c = sym (length-take-le _ c.args.stored.now (omega (arith, c.min-end.ensures)))

pub returns : goal.returns
returns c =
    let a = c.args in
    let b = a.stored.now in
    settled_as _ _ c.lend.result
    (ap (λ z. update a.table.now z a.format.now a.buffer.now (length b)) (sym (ap (λ n. take n b) c.min-end.ensures ∙ take_least b a.used))
    ∙ update_lent a.table.now (take c.min-end.result b) a.format.now a.buffer.now (length b)) (c.lend.ensures _ c.make-answer.ensures)
