-- `decimals::tests::all_inner` meets its contract: each closure tests a byte as `inner_byte` does.
use Rattle.std.proofs.Common.{rules, tests, true, false, ◌∙◌}
use Rattle.std.proofs.lemmas.Iterator.{YieldsList-from_slice}
use Rattle.std.proofs.lemmas.Iterator.Search.{all_from_yields_List}
use Rattle.decimals.specs.Tests.{inner_byte}
use Rattle.decimals.proofs.Meanings.{inner_packed, inner_unpacked, all_tested}
use Rattle.decimals.proofs.tests.all_inner.Goals as goal

pub returns-then-packed : goal.returns-then-packed
returns-then-packed c =
    rw c.if-packed.true
    (all_from_yields_List (inner_byte true) _ _ _ c.all.ensures.ran (YieldsList-from_slice c.args.s.now cc) (λ x b q k. rw inner_packed (search (rules, tests)))
    ∙ all_tested (inner_byte true) c.args.s.now)

pub returns-else-packed : goal.returns-else-packed
returns-else-packed c =
    rw c.if-packed.false
    (all_from_yields_List (inner_byte false) _ _ _ c.all-else-packed.ensures.ran (YieldsList-from_slice c.args.s.now cc) (λ x b q k. rw inner_unpacked (search (rules, tests)))
    ∙ all_tested (inner_byte false) c.args.s.now)
