use native.Mathlib.Omega.{arith}
use lib.ListN.{take}
use Rattle.journals.proofs.Replaying.{Going, goes_on, going_start, going_turn, going_end}
use borrow.Author.Rules.{rules}
use Rattle.journals.proofs.apply_entries.Goals as goal
use Rattle.journals.proofs.apply_entries.Goals.{After-apply_entry-used}

turned : (c : After-apply_entry-used) → let a = c.args in
    Going a.table.now a.journal.now (take a.start a.stored.now) c.loop-at.end c.apply_entry-used.result c.apply_entry-used.new.stored
turned c =
    let a = c.args in
    going_turn a.table.now a.journal.now c.loop-at.at c.loop-at.used c.loop-at.end c.loop-at.stored c.apply_entry-used.new.stored c.apply_entry-used.result
    c.loop-at-test.true c.loop-at.invariant.1 c.loop-at.invariant.0 c.apply_entry-used.ensures (search rules)

pub loop-at-init : goal.loop-at-init
loop-at-init c = (going_start c.args.table.now c.args.journal.now c.args.start c.args.stored.now c.requires.1 c.requires.0, c.entry_end-end.ensures)

pub apply_entry-used-requires : goal.apply_entry-used-requires
apply_entry-used-requires c = (goes_on c.args.journal.now c.loop-at.at (omega (arith, c.loop-at-test.true, c.loop-at.invariant.1)), c.loop-at.invariant.0.room, c.loop-at.invariant.0.within)

pub entry_end-end-requires-in-loop-at : goal.entry_end-end-requires-in-loop-at
entry_end-end-requires-in-loop-at c = omega (arith, (turned (goal.at.entry_end-end-requires-in-loop-at c).After-apply_entry-used).inside)

pub loop-at-smaller : goal.loop-at-smaller
loop-at-smaller c = omega (arith, (turned (goal.at.loop-at-smaller c).After-apply_entry-used).inside, c.loop-at-test.true)

pub loop-at-preserved : goal.loop-at-preserved
loop-at-preserved c = (turned (goal.at.loop-at-preserved c).After-apply_entry-used, c.entry_end-end-in-loop-at.ensures)

pub returns : goal.returns
returns c =
    let a = c.args in
    going_end a.table.now a.journal.now c.loop-at.at c.loop-at.used c.loop-at.stored (omega (arith, c.loop-at-test.false, c.loop-at.invariant.1)) c.loop-at.invariant.0
