-- `lyrecanyon::making::make` meets its contract: table and record are refused as the outcome is, and what passes both tests is left to its format.
use mathlib.Core.Bool.{not}
use mathlib.Core.Path.{sym, ◌∙◌, subst, ap}
use borrow.Author.Tests.{not-true, not-false}
use Rattle.rules.specs.Outcome.{Outcome}
use Rattle.rules.specs.Lists.{Bytes}
use Rattle.rules.specs.Limits.{longest_new_record}
use Rattle.tables.specs.Entries.{Valid}
use Rattle.records.specs.Places.{HasRecord}
use Rattle.records.proofs.Placed.{holds}
use Rattle.tables.specs.Entries.{entries_of}
use Rattle.lyrecanyon.specs.Making.{Makes}
use Rattle.lyrecanyon.proofs.Updates.{update_no_table, update_no_record, update_stored}
use borrow.Author.Rules.{rules}
use Rattle.lyrecanyon.proofs.making.make.Goals as goal
use Rattle.lyrecanyon.proofs.making.make.Goals.{Else-not-check, Else-not-valid}

is_table : (c : Else-not-valid) → Valid c.args.table.now
is_table c = sym c.valid.ensures ∙ not-false c.valid.result (ap not c.if-not-valid.false)

pub returns-then-not-valid : goal.returns-then-not-valid
returns-then-not-valid c =
    let a = c.args in
    update_no_table a.table.now a.stored.now a.format.now a.buffer.now longest_new_record (sym c.valid.ensures ∙ not-true c.valid.result (ap not c.if-not-valid.true))

pub check-requires : goal.check-requires
check-requires c = (is_table (goal.at.check-requires c).Else-not-valid, search rules)

pub returns-then-not-check : goal.returns-then-not-check
returns-then-not-check c =
    let a = c.args in
    update_no_record a.table.now a.stored.now a.format.now a.buffer.now longest_new_record (is_table (goal.at.returns-then-not-check c).Else-not-valid) (sym c.check.ensures.answer ∙ not-true c.check.result (ap not c.if-not-check.true))

held : (c : Else-not-check) → let a = c.args in HasRecord (entries_of a.table.now) a.stored.now c.check.new.places
held c = holds _ _ _ c.check.result c.check.ensures (not-false c.check.result (ap not c.if-not-check.false))

pub make_assigned-requires : goal.make_assigned-requires
make_assigned-requires c = (is_table (goal.at.make_assigned-requires c).Else-not-valid, held (goal.at.make_assigned-requires c).Else-not-check, c.requires)

pub returns : goal.returns
returns c =
    let a = c.args in
    let h = held (goal.at.returns c).Else-not-check in
    subst (λ (o : Outcome Bytes). Makes o c.make_assigned.new.made c.make_assigned.result)
    (sym (update_stored a.table.now a.stored.now a.format.now a.buffer.now (is_table (goal.at.returns c).Else-not-valid) h.0 h.1.stands)) (c.make_assigned.ensures h.0 h.1)
