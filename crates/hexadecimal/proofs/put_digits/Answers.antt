use mathlib.Core.Path.{refl, sym, ◌∙◌}
use native.Mathlib.Omega.{arith}
use Rattle.buffer.proofs.Loops.{up_start, up_turn, up_end}
use Rattle.hexadecimal.proofs.Pairs.{length_parted, parted_high, parted_low, twice_next}
use Rattle.hexadecimal.proofs.put_digits.Goals as goal

pub loop-i-init : goal.loop-i-init
loop-i-init c = up_start (length_parted c.args.src.now) c.requires

pub loop-i-preserved : goal.loop-i-preserved
loop-i-preserved c =
    let high = c.glyph_of.ensures ∙ sym (parted_high c.args.src.now c.loop-i.i (omega arith)) in
    let low = c.glyph_of-in-loop-i.ensures ∙ sym (parted_low c.args.src.now c.loop-i.i (omega arith)) in
    rw (twice_next c.loop-i.i) (up_turn (up_turn c.loop-i.invariant (omega arith) refl high) (omega arith) (omega arith) low)

pub returns : goal.returns
returns c = (omega arith, up_end c.loop-i.invariant (omega arith))
