-- `lyre::values_shown::first_digit` meets its contract.
use Prim.Native.Nat.{◌≤◌, ◌-◌}
use Rattle.lyre.proofs.values_shown.first_digit.Given as goal

abbrev pub invariant-loop-i : goal.invariant-loop-i
invariant-loop-i l = l.i ≤ l.last

abbrev pub decreases-loop-i : goal.decreases-loop-i
decreases-loop-i l = l.last - l.i
