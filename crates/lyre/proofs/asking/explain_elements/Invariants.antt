-- `lyre::asking::explain_elements` is safe and ends: each turn passes a comma.
use mathlib.Core.Path.{◌≡◌}
use Prim.Native.Nat.{◌≤◌, ◌-◌}
use lib.ListN.{length}
use Rattle.uses.specs.Meanings.{indexes_kept}
use Rattle.lyre.proofs.asking.explain_elements.Given as goal

abbrev pub invariant-loop-stop : goal.invariant-loop-stop
invariant-loop-stop l = (l.at ≤ length l.f) × (length l.last ≡ indexes_kept)

abbrev pub decreases-loop-stop : goal.decreases-loop-stop
decreases-loop-stop l = length l.f - l.at
