-- `lyre::words::read_full` ends: each turn fills more of the area.
use Prim.Native.Nat.{◌≤◌, ◌-◌}
use lib.ListN.{length}
use Rattle.lyre.proofs.words.read_full.Given as goal

abbrev pub invariant-loop-done : goal.invariant-loop-done
invariant-loop-done g l = l.done ≤ length l.area

abbrev pub decreases-loop-done : goal.decreases-loop-done
decreases-loop-done g l = length l.area - l.done
