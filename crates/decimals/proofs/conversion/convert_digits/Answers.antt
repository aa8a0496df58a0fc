-- `decimals::conversion::convert_digits` meets its contract, by the two formats.
use mathlib.Core.Path.{◌≡◌, ap, ◌∙◌}
use mathlib.Core.Bool.{Bool, true, false, not, beq}
use Rattle.rules.proofs.Bools.{beq_false}
use Rattle.decimals.proofs.Sound.{sound, readable}
use Rattle.decimals.proofs.conversion.convert_digits.Goals as goal

-- Of two formats that differ, one is what the other is not.
other : (p q b : Bool) → beq p q ≡ false → q ≡ b → p ≡ not b
other p q b d e = beq_false p q d ∙ ap not e

pub pack_digits-requires : goal.pack_digits-requires
pack_digits-requires c =
    let v = readable (sound c.args.packed c.args.s.now c.requires.0) c.requires.1 in
    (rw (other c.args.packed c.args.target true c.if-packed-target.false c.if-target.true) at v, c.requires.2, c.requires.3)

pub unpack_digits-requires : goal.unpack_digits-requires
unpack_digits-requires c =
    let v = readable (sound c.args.packed c.args.s.now c.requires.0) c.requires.1 in
    (rw (other c.args.packed c.args.target false c.if-packed-target.false c.if-target.false) at v, c.requires.2, c.requires.3)
