-- `uses::boxes::meets_box` meets its contract: the boxes so far do not meet the span.
use Rattle.uses.specs.Boxes.{Clear}
use Rattle.uses.proofs.boxes.meets_box.Given as goal

abbrev pub invariant-loop-j : goal.invariant-loop-j
invariant-loop-j l = Clear l.boxes l.s l.j
