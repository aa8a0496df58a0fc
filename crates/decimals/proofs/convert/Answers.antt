-- `decimals::convert` meets its contract: the last byte is written, and the digits before it to the bytes before it.
use mathlib.Core.Path.{refl}
use lib.ListN.{length-set}
use Rattle.decimals.specs.Decimals.{magnitude_of, is_negative}
use Rattle.decimals.proofs.Normal.{converted_value, converted_readable, bytes_converted}
use Rattle.decimals.proofs.Written.{written_last_first}
use Rattle.decimals.proofs.convert.Goals as goal

pub last_digit-requires : goal.last_digit-requires
last_digit-requires c = converted_readable c.args.packed c.args.target c.args.n c.args.s.now c.requires.0 c.requires.1

pub negative-requires : goal.negative-requires
negative-requires c = (converted_value _ _ c.args.n c.args.s.now c.requires.0, c.requires.1)

pub convert_digits-requires : goal.convert_digits-requires
convert_digits-requires c = (converted_value _ _ c.args.n c.args.s.now c.requires.0, c.requires.1, c.requires.2, simp length-set c.requires.4)

pub returns : goal.returns
returns c =
    let e = rw (c.last_digit.ensures, c.negative.ensures) at c.last_written.ensures in
    rw (bytes_converted c.args.packed c.args.target c.args.n c.args.s.now c.requires.0)
    (written_last_first c.args.target c.args.n (is_negative c.args.packed c.args.s.now) (magnitude_of c.args.packed c.args.s.now) c.args.at c.args.out.now _ _ _ c.requires.2 c.requires.4 refl e c.convert_digits.ensures)
