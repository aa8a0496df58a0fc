use mathlib.Core.Path.{refl}
use Rattle.decimals.specs.Decimals.{byte_base, inner_written}
use Rattle.decimals.proofs.Flags.{is_packed, is_unpacked}
use Rattle.decimals.proofs.Written.{writing_start, writing_turn, writing_end}
use Rattle.decimals.proofs.numbers.put_digits.Goals as goal

pub loop-i-init : goal.loop-i-init
loop-i-init g c = writing_start c.requires

pub loop-i-preserved-then-this-ne0 : goal.loop-i-preserved-then-this-ne0
unfolding byte_base inner_written
loop-i-preserved-then-this-ne0 g c =
    let e = is_packed g.row.PACKED c.if-this-ne0.true in
    writing_turn c.loop-i.invariant c.loop-i-test.true refl (rw e refl) (rw e refl)

pub loop-i-preserved : goal.loop-i-preserved
unfolding byte_base inner_written
loop-i-preserved g c =
    let e = is_unpacked g.row.PACKED c.if-this-ne0.false in
    writing_turn c.loop-i.invariant c.loop-i-test.true refl (rw e refl) (rw e refl)

pub returns : goal.returns
returns g c = writing_end c.loop-i.invariant c.loop-i-test.false
