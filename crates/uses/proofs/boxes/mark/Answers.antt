-- `uses::boxes::mark` meets its contract: a span is marked, and what is no span names nothing.
use mathlib.Core.Path.{sym, subst, ◌∙◌}
use native.Mathlib.Omega.{arith}
use Rattle.uses.specs.Meant.{GoodSpan, GoodSpanOf}
use Rattle.uses.proofs.Numbers.{span_small}
use Rattle.uses.proofs.Marking.{span_positive, boxes_same, boxes_span}
use Rattle.uses.proofs.boxes.mark.Goals as goal
use Rattle.uses.proofs.boxes.mark.Goals.{In-Values}

good : (c : In-Values) → GoodSpan c.requires.2.0 c.in-Values.s
good c = subst (GoodSpanOf c.requires.2.0) (sym c.get.ensures ∙ c.in-Values.is) c.requires.2.2

pub mark_span-requires : goal.mark_span-requires
mark_span-requires c =
    let h = good (goal.at.mark_span-requires c).In-Values in
    let p = span_positive h in
    (c.requires.1, omega (arith, h.upto, c.requires.2.1), span_small c.requires.2.0 c.requires.2.1 h, p.0, p.1)

pub returns-in-Values : goal.returns-in-Values
returns-in-Values c = let a = c.args in boxes_span a.kept.now a.n a.boxes.now c.in-Values.s (sym c.get.ensures ∙ c.in-Values.is) c.mark_span.ensures

pub returns-in_default : goal.returns-in_default
returns-in_default c = let a = c.args in boxes_same a.kept.now a.n a.boxes.now c.get.result c.get.ensures c.in_default.not-Values
