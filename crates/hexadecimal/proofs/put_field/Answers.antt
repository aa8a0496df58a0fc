-- `hexadecimal::put_field` meets its contract: a number has at most six digits, and the character stands after them.
use mathlib.Core.List.{[], ◌∷◌}
use native.Mathlib.Omega.{arith}
use lib.ListN.{length-append}
use Rattle.hexadecimal.specs.Text.{decimal_word}
use Rattle.hexadecimal.proofs.Numbers.{decimal_short}
use Rattle.hexadecimal.proofs.Ways.{push}
use Rattle.hexadecimal.proofs.put_field.Goals as goal

pub returns : goal.returns
returns c =
    let n = decimal_word c.args.n in
    let d = decimal_short c.args.n in
    let l = length-append n (c.args.last ∷ []) in
    let e = c.put_number-end.ensures in
    (omega arith, push c.args.at n c.args.out.now _ _ c.args.last e.1 e.0 (omega arith), omega arith)
