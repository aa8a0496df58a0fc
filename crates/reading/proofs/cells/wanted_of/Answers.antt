-- `reading::cells::wanted_of` meets its contract: the format that the code has of a field is its entry's.
use mathlib.Core.Path.{◌≡◌, refl, sym, ◌∙◌, ap}
use Rattle.tables.specs.Entries.{coded}
use Rattle.tables.proofs.EntryFields.{coded_at}
use Rattle.reading.proofs.cells.wanted_of.Goals as goal

pub returns : goal.returns
returns c = rw (sym (coded_at c.field_format.result) ∙ ap coded c.field_format.ensures, c.size_at.ensures.0, c.multiple_at.ensures) refl
