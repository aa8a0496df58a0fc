-- `format_buffer::following::begins_longer` meets its contract, by its tests of the two bytes.
use mathlib.Core.Bool.{false≢true}
use native.Mathlib.Omega.{arith}
use borrow.Author.Tests.{leb-true}
use Rattle.format_buffer.proofs.Longer.{longer_first}
use Rattle.format_buffer.proofs.following.begins_longer.Goals as goal

pub returns-then-f-at-lt2 : goal.returns-then-f-at-lt2
returns-then-f-at-lt2 c e = absurd (false≢true e)

pub returns-then-first-lt-FIRST_LETTER : goal.returns-then-first-lt-FIRST_LETTER
returns-then-first-lt-FIRST_LETTER c e = absurd (false≢true e)

pub returns-then-first-gt-LAST_LETTER : goal.returns-then-first-gt-LAST_LETTER
returns-then-first-gt-LAST_LETTER c e = absurd (false≢true e)

pub returns : goal.returns
returns c e =
    let a = c.args in
    longer_first a.f.now a.at (omega arith) (omega arith) (omega arith) (leb-true _ _ e)
