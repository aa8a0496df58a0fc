-- `hexadecimal::put_pairs` meets its contract: the list that it writes is the byte of each pair.
use Prim.Native.Nat.{◌/◌}
use lib.ListN.{length}
use Rattle.buffer.proofs.Loops.{Up}
use Rattle.hexadecimal.specs.Text.{paired}
use Rattle.hexadecimal.proofs.put_pairs.Given as goal

abbrev pub invariant-loop-i : goal.invariant-loop-i
invariant-loop-i l = Up l.at (length l.w / 2) (paired l.w) l.initial.out l.out l.i
