-- `lyre::hexadecimal::decode` meets its contract: no more bytes are made than characters are passed, and the area keeps its length.
use Prim.Native.Nat.{◌≤◌, ◌-◌}
use Rattle.lyre.proofs.hexadecimal.decode.Given as goal

abbrev pub invariant-loop-at : goal.invariant-loop-at
invariant-loop-at l = (l.made ≤ l.at) × (l.at ≤ l.used)

abbrev pub decreases-loop-at : goal.decreases-loop-at
decreases-loop-at l = l.used - l.at
