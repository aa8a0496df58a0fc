-- `decimals::conversion::unpack_digits` meets its contract: the bytes from i on are written, and the first j digits are those of the bytes before.
use mathlib.Core.Bool.{true, false}
use Prim.Native.Nat.{◌-◌, ◌*◌, ◌/◌, ◌<◌}
use lib.ListN.{length}
use Rattle.decimals.specs.Decimals.{magnitude_of}
use Rattle.decimals.specs.Conversion.{first_spelled}
use Rattle.decimals.proofs.Written.{Writing}
use Rattle.decimals.proofs.conversion.unpack_digits.Given as goal

abbrev pub invariant-loop-i : goal.invariant-loop-i
invariant-loop-i l =
    Writing false (l.n - 1) (magnitude_of true l.s / 10) l.at l.initial.out l.out (first_spelled true l.s l.j) l.i × (l.j < 2 * length l.s)
