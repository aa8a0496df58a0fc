-- `decimals::fits_word` meets its contract: every number has at most ten digits, and one of fewer is below a power of ten.
use mathlib.Core.Path.{sym, ◌∙◌}
use Prim.Native.Nat.{◌^◌, ◌≤◌}
use native.Mathlib.Nat.{pow-le-pow_right, lt_of_lt_of_le}
use native.Mathlib.Omega.{arith}
use lib.Dec.{lit<}
use borrow.Author.Tests.{lt-ltb, le-leb}
use Rattle.decimals.specs.Decimals.{places}
use Rattle.decimals.proofs.Halves.{places_some}
use Rattle.decimals.proofs.Normal.{normal_fits}
use Rattle.decimals.proofs.fits_word.Goals as goal

pub returns-then-m-ge10 : goal.returns-then-m-ge10
returns-then-m-ge10 c =
    let a = c.args in
    let p = places a.packed a.n in
    let h : 10 ≤ p = omega arith in
    let g : 10 ^ 10 ≤ 10 ^ p = pow-le-pow_right (lit< tt) h in
    le-leb _ _ c.if-m-ge10.true ∙ sym (normal_fits a.packed a.n a.v.negative a.v.magnitude ∙ lt-ltb a.v.magnitude (10 ^ p) (lt_of_lt_of_le (omega arith) g))

pub power_of_ten-requires : goal.power_of_ten-requires
power_of_ten-requires c = (rw c.digit_count-m.ensures (places_some c.args.packed c.args.n c.requires.0), omega arith)

pub returns-else-m-ge10 : goal.returns-else-m-ge10
returns-else-m-ge10 c =
    let a = c.args in
    rw (c.power_of_ten.ensures, c.digit_count-m.ensures) (sym (normal_fits a.packed a.n a.v.negative a.v.magnitude))
