-- `uses::boxes::mark_span` meets its contract: the boxes so far hold the span.
use Rattle.uses.specs.Boxes.{Marks}
use Rattle.uses.proofs.boxes.mark_span.Given as goal

abbrev pub invariant-loop-j : goal.invariant-loop-j
invariant-loop-j l = Marks l.initial.boxes l.boxes l.s l.j
