use mathlib.Core.Path.{refl}
use native.Mathlib.Omega.{arith}
use Rattle.decimals.specs.Decimals.{places, byte_base}
use Rattle.decimals.proofs.FirstDigits.{unpacked_but_one, first_two_less}
use Rattle.decimals.proofs.Written.{writing_start, writing_turn, writing_end}
use Rattle.decimals.proofs.conversion.pack_digits.Goals as goal

pub overflow_sub-j : goal.overflow_sub-j
overflow_sub-j c = c.requires.0.some

pub loop-i-init : goal.loop-i-init
loop-i-init c = (rw (unpacked_but_one c.requires.0) (writing_start (omega arith)), omega arith)

pub loop-i-preserved : goal.loop-i-preserved
unfolding places byte_base
loop-i-preserved c = (writing_turn c.loop-i.invariant.0 c.loop-i-test.true refl c.last_pair.ensures (rw c.saturating_sub-j.ensures (first_two_less c.requires.0 c.loop-i.j c.loop-i.invariant.1)), omega arith)

pub returns : goal.returns
returns c = writing_end c.loop-i.invariant.0 c.loop-i-test.false
