-- `records::skip::member_end` meets its contract: a group has no bytes, and a field has its cell.
use mathlib.Core.Path.{sym, ◌∙◌}
use lib.ListN.{get_or, drop}
use Rattle.tables.specs.Entries.{entries_of, blank, field_format}
use Rattle.records.proofs.Walks.{walked_as}
use Rattle.records.proofs.Ends.{cell_of_field, cell_of_group}
use Rattle.records.proofs.skip.member_end.Goals as goal

pub returns-then-group_at : goal.returns-then-group_at
returns-then-group_at c d =
    let a = c.args in
    let e = get_or (entries_of a.t.now) a.i blank in
    record { answer = sym (cell_of_group e.name (drop a.at a.b.now) e.what (sym c.group_at.ensures ∙ c.if-group_at.true)); place = c.requires.2 }

pub cell_end-requires : goal.cell_end-requires
cell_end-requires c =
    let a = c.args in
    let e = get_or (entries_of a.t.now) a.i blank in (
      c.requires.2,
      (
        field_format e.what,
        (
          c.requires.3.0,
          rw (c.multiple_at.ensures, c.size_at.ensures.0)
              (sym (cell_of_field e.name (drop a.at a.b.now) e.what (sym c.group_at.ensures ∙ c.if-group_at.false)) ∙ c.requires.3.1),
        ),
      ),
    )

pub returns : goal.returns
returns c d =
    let a = c.args in
    let e = get_or (entries_of a.t.now) a.i blank in
    let k = cell_of_field e.name (drop a.at a.b.now) e.what (sym c.group_at.ensures ∙ c.if-group_at.false) in
    let w = rw (c.multiple_at.ensures, c.size_at.ensures.0) at (c.cell_end.ensures (field_format e.what)) in
    walked_as k (w (d.0, sym k ∙ d.1))
