-- `format_buffer::texts::first_place` meets its contract: after their spaces, what is left and the whole begin at the same place.
use mathlib.Core.Path.{◌≡◌}
use Rattle.rules.specs.Format.{skip_spaces}
use Rattle.format_buffer.specs.Part.{part}
use Rattle.format_buffer.proofs.texts.first_place.Given as goal

abbrev pub invariant-loop-i : goal.invariant-loop-i
invariant-loop-i l = skip_spaces (part l.f l.i l.upto) ≡ skip_spaces (part l.f l.at l.upto)
