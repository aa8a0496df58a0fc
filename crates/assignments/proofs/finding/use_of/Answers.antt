use native.Mathlib.Omega.{arith}
use Rattle.assignments.proofs.Searching.{searched_start, searched_on, searched_end}
use Rattle.assignments.proofs.finding.use_of.Goals as goal

pub returns-in_err-chain-items : goal.returns-in_err-chain-items
returns-in_err-chain-items c =
    let a = c.args in
    rw c.from_residual.ensures
    (searched_end a.kept.now a.list.now a.i a.o c.requires.0.5 c.requires.0.6 c.requires.0.7 0 (omega (arith, c.in_err-chain-items.ensures)) (searched_start a.kept.now a.list.now a.i a.o))

pub loop-chain-preserved : goal.loop-chain-preserved
loop-chain-preserved c =
    let a = c.args in
    searched_on a.kept.now a.list.now a.i a.o c.loop-chain.chain-index _ (c.in_ok-chain-items.ensures.1 c.loop-chain.chain-index (omega arith)).0 c.in_default.ensures c.loop-chain.invariant

pub returns : goal.returns
returns c =
    let a = c.args in
    searched_end a.kept.now a.list.now a.i a.o c.requires.0.5 c.requires.0.6 c.requires.0.7 c.loop-chain.chain-index (omega (arith, c.in_ok-chain-items.ensures.0)) c.loop-chain.invariant
