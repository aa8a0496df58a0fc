use mathlib.Core.Path.{◌≡◌, refl, sym}
use mathlib.Core.Bool.{true, false}
use native.Mathlib.Omega.{arith}
use Rattle.assignments.specs.Answers.{chains_for}
use Rattle.assignments.proofs.Tallying.{naming, counting_start, counting_on, counting_end, bare_none, bare_some}
use Rattle.assignments.proofs.finding.named.Goals as goal
use Rattle.assignments.proofs.finding.named.Goals.{After-loop-chain}

pub returns-in_default : goal.returns-in_default
returns-in_default c =
    let a = c.args in
    counting_end a.kept.now a.list.now a.stage.now a.i a.o a.size a.by.now (naming 0 true) 0 (counting_start a.kept.now a.list.now a.stage.now a.i a.o a.size a.by.now c.requires.3 c.requires.4)
    (sym c.in_default.ensures) (naming 0 false) refl refl

pub loop-chain-init : goal.loop-chain-init
loop-chain-init c =
    let a = c.args in
    counting_start a.kept.now a.list.now a.stage.now a.i a.o a.size a.by.now c.requires.3 c.requires.4

pub named_in-all-requires : goal.named_in-all-requires
named_in-all-requires c =
    ((c.in-Some.ensures.1 c.loop-chain.chain-index (omega arith)).1, (c.loop-chain.invariant c.requires.5.0 c.requires.5.1 c.requires.5.2 c.requires.5.3 c.requires.5.4).long, c.requires.5)

pub loop-chain-preserved : goal.loop-chain-preserved
loop-chain-preserved c =
    let a = c.args in
    counting_on a.kept.now a.list.now a.stage.now a.i a.o a.size c.loop-chain.by c.loop-chain.all c.loop-chain.chain-index _ c.loop-chain.invariant (c.in-Some.ensures.1 c.loop-chain.chain-index (omega arith)).0 _ c.named_in-all.result c.named_in-all.ensures

-- The chains that were gone over are those of the cell.
over : (c : After-loop-chain) → c.loop-chain.chain-index ≡ chains_for c.args.list.now c.args.i c.args.o
over c = omega (arith, c.loop-chain-test.false, c.in-Some.ensures.0)

pub returns-then-all-ne0 : goal.returns-then-all-ne0
returns-then-all-ne0 c =
    let a = c.args in
    counting_end a.kept.now a.list.now a.stage.now a.i a.o a.size c.loop-chain.by c.loop-chain.all c.loop-chain.chain-index c.loop-chain.invariant (over (goal.at.returns-then-all-ne0 c).After-loop-chain) _ refl (bare_some c.loop-chain.all.highest c.loop-chain.all.bare c.if-all-ne0.true)

pub returns-else-all-ne0 : goal.returns-else-all-ne0
returns-else-all-ne0 c =
    let a = c.args in
    counting_end a.kept.now a.list.now a.stage.now a.i a.o a.size c.loop-chain.by c.loop-chain.all c.loop-chain.chain-index c.loop-chain.invariant (over (goal.at.returns-else-all-ne0 c).After-loop-chain) _ refl (bare_none c.loop-chain.all.highest c.loop-chain.all.bare c.if-all-ne0.false)
