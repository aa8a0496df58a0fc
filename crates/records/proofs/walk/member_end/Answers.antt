-- `records::walk::member_end` meets its contract: a group has no bytes, and a field has its cell.
use Rattle.std.specs.Prelude.{Some}
use mathlib.Core.Path.{◌≡◌, sym, ap, ◌∙◌}
use lib.ListN.{get_or, drop}
use Rattle.tables.specs.Entries.{entries_of, blank, format_coded}
use Rattle.tables.proofs.Tables.{valid_sound}
use Rattle.tables.proofs.EntryFields.{group_coded}
use Rattle.records.proofs.Walks.{walked_as}
use Rattle.records.proofs.Ends.{cell_of_group, cell_coded, coded_allowed}
use Rattle.records.proofs.walk.member_end.Goals as goal
use Rattle.records.proofs.walk.member_end.Goals.{In-Some}

-- The format that the entry has.
format : (c : In-Some) → format_coded (get_or (entries_of c.args.t.now) c.args.i blank).what ≡ Some c.in-Some.format
format c = ap (λ r. r.format) (sym c.entry_at-e.ensures) ∙ c.in-Some.is

pub cell_end-requires : goal.cell_end-requires
cell_end-requires c =
    let a = c.args in
    let e = get_or (entries_of a.t.now) a.i blank in
    rw (c.from.ensures, c.entry_at-e.ensures) (c.requires.2, coded_allowed e.level e.what _ (valid_sound a.t.now c.requires.0 a.i c.requires.1) (format (goal.at.cell_end-requires c).In-Some))

pub returns-in-None : goal.returns-in-None
returns-in-None c =
    let a = c.args in
    let e = get_or (entries_of a.t.now) a.i blank in
    record { answer = sym (cell_of_group e.name (drop a.at a.b.now) e.what (group_coded e.what (ap (λ r. r.format) (sym c.entry_at-e.ensures) ∙ c.in-None.is))); place = c.requires.2 }

pub returns-in-Some : goal.returns-in-Some
returns-in-Some c =
    let a = c.args in
    let e = get_or (entries_of a.t.now) a.i blank in
    walked_as (cell_coded e.name (drop a.at a.b.now) e.what _ (format (goal.at.returns-in-Some c).In-Some)) (rw (c.from.ensures, c.entry_at-e.ensures) at c.cell_end.ensures)
