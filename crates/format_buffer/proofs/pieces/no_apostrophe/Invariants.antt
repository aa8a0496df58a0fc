-- `format_buffer::pieces::no_apostrophe` meets its contract: what is left to test answers as the whole does.
use mathlib.Core.Path.{◌≡◌}
use Rattle.format_buffer.specs.Part.{part}
use Rattle.format_buffer.specs.Pieces.{no_apostrophe}
use Rattle.format_buffer.proofs.pieces.no_apostrophe.Given as goal

abbrev pub invariant-loop-i : goal.invariant-loop-i
invariant-loop-i l = no_apostrophe (part l.f l.i l.upto) ≡ no_apostrophe (part l.f l.at l.upto)
