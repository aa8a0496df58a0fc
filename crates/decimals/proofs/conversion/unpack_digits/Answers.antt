use mathlib.Core.Path.{refl, ap}
use Prim.Native.Nat.{◌+◌}
use native.Mathlib.Omega.{arith}
use Rattle.decimals.specs.Decimals.{places, byte_base, inner_written}
use Rattle.decimals.proofs.FirstDigits.{packed_but_one, first_less}
use Rattle.decimals.proofs.Written.{writing_start, writing_turn, writing_end}
use Rattle.decimals.proofs.conversion.unpack_digits.Goals as goal

pub overflow_sub-j : goal.overflow_sub-j
overflow_sub-j c = omega arith

pub loop-i-init : goal.loop-i-init
loop-i-init c = (rw (packed_but_one c.requires.0) (writing_start (omega arith)), omega arith)

pub loop-i-preserved : goal.loop-i-preserved
unfolding places byte_base inner_written
loop-i-preserved c = (writing_turn c.loop-i.invariant.0 c.loop-i-test.true refl (ap (λ d. 0xF0 + d) c.last_half.ensures) (rw c.saturating_sub-j.ensures (first_less c.requires.0 c.loop-i.j (omega arith))), omega arith)

pub returns : goal.returns
returns c = writing_end c.loop-i.invariant.0 c.loop-i-test.false
