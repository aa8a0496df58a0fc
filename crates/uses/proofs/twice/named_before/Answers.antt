-- `uses::twice::named_before` meets its contract: a span that meets no box is none that was named before.
use mathlib.Core.Path.{◌≡◌, sym, subst, ◌∙◌}
use native.Mathlib.Omega.{arith}
use Rattle.tables.specs.Entries.{entries_of}
use Rattle.tables.proofs.Known.{one_entry}
use Rattle.uses.specs.Meant.{GoodSpanOf}
use Rattle.uses.specs.Kept.{use_at}
use Rattle.uses.specs.declared.Use.TheVariants.{Values}
use Rattle.uses.proofs.Meeting.{met_as}
use Rattle.uses.proofs.Marking.{clear_met}
use Rattle.uses.proofs.twice.named_before.Goals as goal

pub returns-else-meets_box : goal.returns-else-meets_box
returns-else-meets_box c =
    let a = c.args in
    let es = entries_of a.t.now in
    let found : use_at a.kept.now a.n ≡ Values c.in-Values.s = sym c.get.ensures ∙ c.in-Values.is in
    let clear = clear_met es (one_entry a.t.now c.requires.0) a.boxes.now (subst (GoodSpanOf es) found (c.requires.2 a.n (omega arith))) (c.meets_box.ensures c.if-meets_box.false) a.kept.now a.n
    (λ i h. c.requires.2 i (omega arith)) c.requires.4 in
    rw c.if-meets_box.false (met_as es a.kept.now a.n found clear)
