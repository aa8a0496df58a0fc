-- `tables::validity::what_right` meets its contract: a letter that has a format is a field's.
use mathlib.Core.Path.{◌≡◌, refl, sym, ◌∙◌}
use mathlib.Core.Bool.{◌&&◌}
use lib.Dec.{leb}
use Rattle.rules.specs.Outcome.{is_done}
use Rattle.rules.specs.Table.{what_of}
use Rattle.tables.proofs.EntryBytes.{what_given}
use Rattle.tables.proofs.validity.what_right.Goals as goal
use Rattle.tables.proofs.validity.what_right.Goals.{After-allowed}

field : (c : After-allowed) → is_done (what_of c.args.level c.args.letter c.args.size c.args.option) ≡ (c.allowed.result && leb c.args.option 1)
field c =
    let a = c.args in
    rw (c.allowed.ensures, c.from.ensures) (what_given a.level a.letter a.size a.option c.format_of.result c.in-Some.format c.in-Some.is c.format_of.ensures)

pub returns-then-allowed : goal.returns-then-allowed
returns-then-allowed c = sym (field (goal.at.returns-then-allowed c).After-allowed ∙ rw c.if-allowed.true refl)

pub returns-else-allowed : goal.returns-else-allowed
returns-else-allowed c = sym (field (goal.at.returns-else-allowed c).After-allowed ∙ rw c.if-allowed.false refl)
