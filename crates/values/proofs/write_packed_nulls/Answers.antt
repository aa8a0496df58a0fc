use native.Mathlib.Omega.{arith}
use Rattle.values.proofs.Nulls.{copy_room, copy_on, packed_long}
use Rattle.values.proofs.write_packed_nulls.Goals as goal

pub write_packed_null-requires : goal.write_packed_null-requires
write_packed_null-requires c = (c.requires.0, omega (arith, copy_room c.loop-i.invariant c.loop-i-test.true, packed_long c.args.size c.requires.0))

pub loop-i-preserved : goal.loop-i-preserved
loop-i-preserved c = copy_on c.loop-i.invariant _ c.loop-i-test.true c.write_packed_null.ensures (omega (arith, packed_long c.args.size c.requires.0))
