-- `format_buffer::texts::text_end` meets its contract: at each turn the place and the extent of what is left add up to the same end.
use mathlib.Core.Path.{◌≡◌}
use mathlib.Core.Bool.{false}
use Prim.Native.Nat.{◌+◌}
use lib.ListN.{drop}
use Rattle.format_buffer.specs.Texts.{extent}
use Rattle.format_buffer.proofs.texts.text_end.Given as goal

abbrev pub invariant-loop-i : goal.invariant-loop-i
invariant-loop-i l = l.i + extent l.inside (drop l.i l.f) ≡ l.at + extent false (drop l.at l.f)
