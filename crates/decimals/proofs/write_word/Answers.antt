-- `decimals::write_word` meets its contract: the last byte is written, and the digits before it to the bytes before it.
use mathlib.Core.Path.{refl}
use Rattle.decimals.proofs.Normal.{normal_bytes}
use Rattle.decimals.proofs.Written.{written_last_first}
use Rattle.decimals.proofs.write_word.Goals as goal

pub returns-then-packed : goal.returns-then-packed
returns-then-packed c =
    rw (normal_bytes c.args.packed c.args.n c.args.v.negative c.args.v.magnitude c.requires.0)
    (written_last_first c.args.packed c.args.n c.args.v.negative c.args.v.magnitude c.args.at c.args.out.now _ _ _ c.requires.1 c.requires.3 refl c.last_written.ensures (rw c.if-packed.true c.put_digits.ensures))

pub returns-else-packed : goal.returns-else-packed
returns-else-packed c =
    rw (normal_bytes c.args.packed c.args.n c.args.v.negative c.args.v.magnitude c.requires.0)
    (written_last_first c.args.packed c.args.n c.args.v.negative c.args.v.magnitude c.args.at c.args.out.now _ _ _ c.requires.1 c.requires.3 refl c.last_written.ensures (rw c.if-packed.false c.put_digits-else-packed.ensures))
