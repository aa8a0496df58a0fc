-- `filling::lengths::first_length` meets its contract: the lengths below n do not hold the value.
use mathlib.Core.Path.{◌≡◌}
use mathlib.Core.Bool.{false}
use Prim.Native.Nat.{ℕ, ◌≤◌, ◌<◌}
use Rattle.rules.specs.Values.{would_hold}
use Rattle.value_formats.specs.Formats.{format_at}
use Rattle.filling.proofs.lengths.first_length.Given as goal

abbrev pub invariant-loop-n : goal.invariant-loop-n
invariant-loop-n l = (j : ℕ) → 1 ≤ j → j < l.n → would_hold (format_at l.own) (format_at l.format) l.s j ≡ false
