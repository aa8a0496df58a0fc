-- The body of the empty record, entry by entry: what each entry of the table adds to it.
use Rattle.std.specs.Prelude.{Bool, true, false, ◌||◌, cond, List, [], ◌∷◌, ◌++◌, None, Option}
use Rattle.rules.specs.Lists.{Bytes}
use Rattle.rules.specs.Values.{null}
use Rattle.rules.specs.Record.{count_bytes}
use Rattle.rules.specs.Table.{What, field, group, Entry, is_inside}
use Rattle.value_formats.specs.declared.Format.{Format}
use Rattle.tables.specs.declared.Entry.{Entry as Decoded}

-- An entry that is or lies in a periodic group, or not: a count 0, null, or nothing.
unfoldable pub empty_entry : Bool → What → Bytes
empty_entry inside (group true) = count_bytes 0
empty_entry inside (group false) = []
empty_entry true (field f n mu) = []
empty_entry false (field f n true) = count_bytes 0
empty_entry false (field f n false) = null f n

unfoldable pub empty_from : Bool → List Entry → Bytes
empty_from before [] = []
empty_from before (e ∷ es) = empty_entry (is_inside before e) e.what ++ empty_from (is_inside before e) es

-- The format of the null that an entry adds, by what the code has of it: a plain field outside periodic groups does.
unfoldable pub null_of : Bool → Decoded → Option Format
null_of inside r = cond (inside || r.multiple) None r.format
