-- `decimals::numbers::magnitude` meets its contract: the digits are read from the left, and what is too great so far stays so.
use denote.Param.{number}
use Rattle.decimals.specs.contracts.numbers.magnitude.{PACKED-type}
use Rattle.decimals.proofs.Reckoning.{Reading}
use Rattle.decimals.proofs.numbers.magnitude.Given as goal

abbrev pub invariant-loop-b : goal.invariant-loop-b
invariant-loop-b g l = Reading (PACKED-type (number g.row.PACKED)) l.s l.b-index l.x
