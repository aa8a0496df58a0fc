-- `buffer::put` meets its contract: the list that it writes is src itself.
use lib.ListN.{length}
use Rattle.buffer.proofs.Loops.{Up}
use Rattle.buffer.proofs.put.Given as goal

abbrev pub invariant-loop-i : goal.invariant-loop-i
invariant-loop-i l = Up l.at (length l.src) l.src l.initial.out l.out l.i
