-- `hexadecimal::put_digits` meets its contract: each turn stores two of the digits.
use lib.ListN.{length}
use Prim.Native.Nat.{◌*◌}
use Rattle.buffer.proofs.Loops.{Up}
use Rattle.hexadecimal.specs.Text.{parted}
use Rattle.hexadecimal.proofs.put_digits.Given as goal

abbrev pub invariant-loop-i : goal.invariant-loop-i
invariant-loop-i l = Up l.at (2 * length l.src) (parted l.src) l.initial.out l.out (2 * l.i)
