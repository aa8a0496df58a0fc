-- `format_buffer::texts::last_place` meets its contract: what is left is stripped to the same bytes as the whole.
use mathlib.Core.Path.{◌≡◌}
use Prim.Native.Nat.{◌≤◌}
use Rattle.rules.specs.Values.{strip}
use Rattle.format_buffer.specs.Part.{part}
use Rattle.format_buffer.proofs.texts.last_place.Given as goal

abbrev pub invariant-loop-i : goal.invariant-loop-i
invariant-loop-i l = (l.at ≤ l.i) × (strip (part l.f l.at l.i) ≡ strip (part l.f l.at l.upto))
