use Prim.Native.Nat.{◌+◌, ◌*◌}
use mathlib.Core.Path.{refl, sym, ◌∙◌}
use native.Mathlib.Omega.{arith}
use Rattle.buffer.proofs.Loops.{up_start, up_turn, up_end}
use Rattle.hexadecimal.proofs.Scanning.{digit_at}
use Rattle.hexadecimal.proofs.Pairs.{length_paired, paired_at, paired_digits}
use Rattle.hexadecimal.proofs.put_pairs.Goals as goal

pub loop-i-init : goal.loop-i-init
loop-i-init c = up_start (length_paired c.args.w.now) (omega arith)

pub pair-requires : goal.pair-requires
pair-requires c =
    let d = paired_digits c.args.w.now c.requires.0 in
    (digit_at 16 (2 * c.loop-i.i) c.args.w.now d (omega arith), digit_at 16 (2 * c.loop-i.i + 1) c.args.w.now d (omega arith))

pub loop-i-preserved : goal.loop-i-preserved
loop-i-preserved c = up_turn c.loop-i.invariant c.loop-i-test.true refl (c.pair.ensures ∙ sym (paired_at c.args.w.now c.loop-i.i c.loop-i-test.true))

pub returns : goal.returns
returns c = (omega (arith, length_paired c.args.w.now), up_end c.loop-i.invariant c.loop-i-test.false)
