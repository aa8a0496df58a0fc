-- `records::paths::width_at` meets its contract: a group, an MU field, a field of variable length, or a plain one.
use mathlib.Core.Path.{sym, ◌∙◌}
use native.Mathlib.Omega.{arith}
use lib.ListN.{get_or}
use Rattle.tables.specs.Entries.{entries_of, blank}
use Rattle.records.proofs.Widths.{width_group, width_plain}
use Rattle.records.proofs.paths.width_at.Goals as goal

pub returns-then-group_at : goal.returns-then-group_at
returns-then-group_at c =
    let e = get_or (entries_of c.args.t.now) c.args.i blank in
    width_group e.name e.what (sym c.group_at.ensures ∙ c.if-group_at.true)

pub returns : goal.returns
returns c =
    let e = get_or (entries_of c.args.t.now) c.args.i blank in
    rw c.size_at-size.ensures.0
    (width_plain e.name e.what (sym c.group_at.ensures ∙ c.if-group_at.false) (sym c.multiple_at.ensures ∙ c.if-multiple_at.false) (omega arith) (omega arith))
