-- `binaries::binary_fits` meets its contract: the number fits where the bytes before the last n are zeros.
use Rattle.std.proofs.Common.{rules, tests, ◌≡◌, length, take, ◌-◌}
use mathlib.Core.Path.{sym, ◌∙◌}
use borrow.Author.Tests.{le-leb}
use Rattle.std.proofs.lemmas.Iterator.{YieldsList-from_slice, cases_from_all}
use Rattle.binaries.proofs.Binary.{fits_by_zeros, fits_short}
use Rattle.binaries.proofs.binary_fits.Goals as goal

pub returns-then-s-n : goal.returns-then-s-n
returns-then-s-n c = le-leb _ _ c.if-s-n.true ∙ sym (fits_short c.args.s.now c.args.n (λ i. (c.type_inv.s i).fits) c.if-s-n.true)

pub returns-else-s-n : goal.returns-else-s-n
returns-else-s-n c =
    let s = c.args.s.now in
    fits_by_zeros s c.args.n (λ i. (c.type_inv.s i).fits) c.all.result
    (cases_from_all _ _ _ (λ x. x ≡ 0) (λ x. x ≡ 0 → ⊥) c.all.ensures.ran (YieldsList-from_slice (take (length s - c.args.n) s) cc) (λ x q k. search (rules, tests)) (λ x q k. search (rules, tests)))
