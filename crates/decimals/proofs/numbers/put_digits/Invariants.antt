-- `decimals::numbers::put_digits` meets its contract: the bytes from i on are written, and the rest has the digits of those before.
use denote.Param.{number}
use Rattle.decimals.specs.contracts.numbers.put_digits.{PACKED-type}
use Rattle.decimals.proofs.Written.{Writing}
use Rattle.decimals.proofs.numbers.put_digits.Given as goal

abbrev pub invariant-loop-i : goal.invariant-loop-i
invariant-loop-i g l = Writing (PACKED-type (number g.row.PACKED)) l.n l.x l.at l.initial.out l.out l.rest l.i
