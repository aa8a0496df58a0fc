-- `lyre::explaining::say_elements` is safe and ends: each turn passes a comma.
use mathlib.Core.Path.{◌≡◌}
use Prim.Native.Nat.{◌+◌, ◌≤◌, ◌-◌}
use lib.ListN.{length}
use Rattle.uses.specs.Meanings.{indexes_kept}
use Rattle.lyre.proofs.explaining.say_elements.Given as goal

abbrev pub invariant-loop-u : goal.invariant-loop-u
invariant-loop-u g l = (l.at ≤ length l.f) × (l.n ≤ l.at + 1) × (length l.last ≡ indexes_kept)

abbrev pub decreases-loop-u : goal.decreases-loop-u
decreases-loop-u g l = length l.f - l.at
