-- `fixed::number_of` meets its contract: the bytes left, after the number so far, spell what the whole spells.
use Rattle.fixed.proofs.Scans.{Reading}
use Rattle.fixed.proofs.number_of.Given as goal

abbrev pub invariant-loop-b : goal.invariant-loop-b
invariant-loop-b l = Reading l.s l.n l.b-index
