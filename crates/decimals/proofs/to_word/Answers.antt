-- `decimals::to_word` meets its contract: the magnitude, where it is in the conversion range, and whether it is below zero.
use native.Mathlib.Omega.{arith}
use Rattle.decimals.proofs.Sound.{sound, readable}
use Rattle.decimals.proofs.Reckoning.{word_outside, word_number}
use Rattle.decimals.proofs.to_word.Goals as goal

pub reckoned-magnitude-requires : goal.reckoned-magnitude-requires
reckoned-magnitude-requires c = readable (sound c.args.packed c.args.s.now c.requires.0) c.requires.1

pub returns-then-from-magnitude : goal.returns-then-from-magnitude
returns-then-from-magnitude c = word_outside (sound c.args.packed c.args.s.now c.requires.0) c.reckoned-magnitude.ensures (omega arith)

pub sign-requires : goal.sign-requires
sign-requires c = (sound c.args.packed c.args.s.now c.requires.0).some

pub returns : goal.returns
returns c =
    word_number (sound c.args.packed c.args.s.now c.requires.0) _ _ c.reckoned-magnitude.ensures (omega arith)
    (rw (← c.sign.ensures) c.below_zero.ensures)
