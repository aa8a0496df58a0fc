-- `lyrecanyon::read` meets its contract: table and record are refused as the outcome is, and what passes both tests is left to its items.
use mathlib.Core.Bool.{not}
use mathlib.Core.Path.{sym, ◌∙◌, ap}
use borrow.Author.Tests.{not-true, not-false}
use lib.ListN.{length}
use Rattle.tables.specs.Entries.{Valid}
use Rattle.records.proofs.Placed.{holds}
use Rattle.rules.specs.declared.Refusal.TheVariants.{BadTable, BadRecord}
use Rattle.lyrecanyon.proofs.Settling.{settled_refused}
use Rattle.lyrecanyon.proofs.Readings.{read_no_table, read_no_record}
use borrow.Author.Rules.{rules}
use Rattle.lyrecanyon.proofs.read.Goals as goal
use Rattle.lyrecanyon.proofs.read.Goals.{Else-not-valid}

is_table : (c : Else-not-valid) → Valid c.args.table.now
is_table c = sym c.valid.ensures ∙ not-false c.valid.result (ap not c.if-not-valid.false)

pub returns-then-not-valid : goal.returns-then-not-valid
returns-then-not-valid c =
    let a = c.args in
    settled_refused _ a.buffer.now BadTable
    (read_no_table a.table.now a.stored.now a.format.now (length a.buffer.now) (sym c.valid.ensures ∙ not-true c.valid.result (ap not c.if-not-valid.true)))

pub check-requires : goal.check-requires
check-requires c = (is_table (goal.at.check-requires c).Else-not-valid, search rules)

pub returns-then-not-check : goal.returns-then-not-check
returns-then-not-check c =
    let a = c.args in
    settled_refused _ a.buffer.now BadRecord
    (read_no_record a.table.now a.stored.now a.format.now (length a.buffer.now) (is_table (goal.at.returns-then-not-check c).Else-not-valid)
    (sym c.check.ensures.answer ∙ not-true c.check.result (ap not c.if-not-check.true)))

pub read_items-requires : goal.read_items-requires
read_items-requires c = (is_table (goal.at.read_items-requires c).Else-not-valid, holds _ _ _ c.check.result c.check.ensures (not-false c.check.result (ap not c.if-not-check.false)))
