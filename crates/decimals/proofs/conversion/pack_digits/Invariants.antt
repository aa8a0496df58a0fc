-- `decimals::conversion::pack_digits` meets its contract: the bytes from i on are written, and the first j digits are those of the bytes before.
use mathlib.Core.Bool.{true, false}
use Prim.Native.Nat.{◌-◌, ◌/◌, ◌≤◌}
use lib.ListN.{length}
use Rattle.decimals.specs.Decimals.{magnitude_of}
use Rattle.decimals.specs.Conversion.{first_spelled}
use Rattle.decimals.proofs.Written.{Writing}
use Rattle.decimals.proofs.conversion.pack_digits.Given as goal

abbrev pub invariant-loop-i : goal.invariant-loop-i
invariant-loop-i l =
    Writing true (l.n - 1) (magnitude_of false l.s / 10) l.at l.initial.out l.out (first_spelled false l.s l.j) l.i × (l.j ≤ length l.s)
