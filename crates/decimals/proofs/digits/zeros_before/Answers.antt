-- `decimals::digits::zeros_before` meets its contract: from the right all bytes answer as from the left.
use Rattle.std.proofs.Common.{rules, tests, ◌∙◌, eqb, take}
use Rattle.std.proofs.lemmas.Iterator.Adapters.{YieldsList-from_rev_slice}
use Rattle.std.proofs.lemmas.Iterator.Search.{all_from_yields_List}
use Rattle.decimals.proofs.Meanings.{all_reversed}
use Rattle.decimals.proofs.digits.zeros_before.Goals as goal

pub returns : goal.returns
returns c =
    let front = take c.args.n c.args.s.now in
    let zeros = c.zero_byte-zeros in
    rw (← zeros.ensures)
    (all_from_yields_List (λ b. eqb b zeros.result) _ _ _ c.all.ensures.ran (YieldsList-from_rev_slice front cc) (λ x b q k. search (rules, tests))
    ∙ all_reversed (λ b. eqb b zeros.result) front)
