-- `lyre::refusals::tell_element` is safe and ends: each turn passes a comma.
use Prim.Native.Nat.{◌≤◌, ◌+◌, ◌-◌}
use lib.ListN.{length}
use Rattle.lyre.proofs.refusals.tell_element.Given as goal

abbrev pub invariant-loop-service : goal.invariant-loop-service
invariant-loop-service g l = (l.at ≤ length l.f) × (l.n ≤ l.at + 1)

abbrev pub decreases-loop-service : goal.decreases-loop-service
decreases-loop-service g l = length l.f - l.at
