-- `tables::entries::field_format` meets its contract: the letter of a field has its format.
use mathlib.Core.Path.{ap, ◌∙◌}
use Rattle.rules.specs.Table.{format_of}
use Rattle.tables.specs.Entries.{entries_of, what_at}
use Rattle.tables.proofs.EntryFields.{given_field}
use Rattle.tables.proofs.Tables.{valid_format}
use Rattle.tables.proofs.entries.field_format.Goals as goal

pub returns : goal.returns
returns c =
    let a = c.args in
    rw c.unwrap_or.ensures
    (given_field c.format_of.result _ (what_at (entries_of a.t.now) a.i) (c.format_of.ensures ∙ ap format_of c.entry_byte.ensures) (valid_format a.t.now c.requires.0 a.i c.requires.1) c.requires.2)
