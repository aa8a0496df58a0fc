-- `format_buffer::syntax::syntax` meets its contract: the elements from each place on are good just where the whole format is.
use mathlib.Core.Path.{◌≡◌}
use Prim.Native.Nat.{◌≤◌, ◌-◌}
use lib.ListN.{length, drop}
use Rattle.rules.specs.Outcome.{is_done}
use Rattle.rules.specs.Format.{elements}
use Rattle.format_buffer.specs.Syntax.{parsed}
use Rattle.format_buffer.proofs.syntax.syntax.Given as goal

abbrev pub invariant-loop-stop : goal.invariant-loop-stop
invariant-loop-stop l = (l.at ≤ length l.f) × (is_done (parsed (drop l.at l.f)) ≡ is_done (elements l.f))

abbrev pub decreases-loop-stop : goal.decreases-loop-stop
decreases-loop-stop l = length l.f - l.at
