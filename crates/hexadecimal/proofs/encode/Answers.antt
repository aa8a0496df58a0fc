-- `hexadecimal::encode` meets its contract: one hyphen, or what `put_digits` writes.
use mathlib.Core.Path.{refl}
use native.Mathlib.Omega.{arith}
use borrow.Author.Rules.{rules}
use Rattle.buffer.proofs.Laws.{set_splice}
use Rattle.hexadecimal.proofs.Pairs.{length_parted}
use Rattle.hexadecimal.proofs.Ways.{spelling_none, spelling_some}
use Rattle.hexadecimal.proofs.encode.Goals as goal

pub returns-then-is_empty : goal.returns-then-is_empty
returns-then-is_empty c = rw (spelling_none c.args.src.now (search rules)) (refl, set_splice c.args.out.now c.args.at 45 (omega arith))

pub returns : goal.returns
returns c =
    let l = length_parted c.args.src.now in
    rw (spelling_some c.args.src.now (search rules)) (omega (arith, c.put_digits.ensures.0), c.put_digits.ensures.1)
