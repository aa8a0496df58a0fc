use mathlib.Core.Path.{refl, sym, ◌∙◌}
use native.Mathlib.Omega.{arith}
use Rattle.buffer.proofs.Loops.{down_start, down_turn, down_end}
use Rattle.hexadecimal.specs.Text.{decimal_places}
use Rattle.hexadecimal.proofs.Numbers.{left_start, left_turn, left_digit, length_decimal}
use Rattle.hexadecimal.proofs.put_number.Goals as goal

pub loop-i-init : goal.loop-i-init
loop-i-init c =
    let count = c.places-k.ensures.count in
    record { left = rw count (left_start c.args.n); written = down_start (length_decimal c.args.n ∙ sym count) (omega (arith, c.places-k.ensures.most)) }

pub loop-i-preserved : goal.loop-i-preserved
loop-i-preserved c =
    let i = c.loop-i.invariant in
    let h = c.loop-i-test.true in
    record {
      left = left_turn c.args.n (decimal_places c.args.n) c.loop-i.i c.loop-i.rest h i.left;
      written = down_turn i.written h refl (c.glyph_of.ensures ∙ left_digit c.args.n c.loop-i.i c.loop-i.rest h i.left);
    }

pub returns : goal.returns
returns c = (omega (arith, c.places-k.ensures.count, length_decimal c.args.n), down_end c.loop-i.invariant.written c.loop-i-test.false)
