-- `tables::entries::decode` meets its contract: each part of the entry is read from its bytes.
use mathlib.Core.Path.{refl}
use Rattle.tables.specs.Entries.{entry_of_bytes}
use Rattle.tables.proofs.EntryFields.{given_coded}
use Rattle.tables.proofs.entries.decode.Goals as goal

pub returns : goal.returns
unfolding entry_of_bytes
returns c =
    rw (given_coded c.format_of.result _ c.format_of.ensures, c.name_at.ensures, c.entry_byte.ensures, c.entry_byte-2.ensures, c.entry_byte-3.ensures, c.entry_byte-option.ensures) refl
