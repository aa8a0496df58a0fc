-- The entries of a table, and what the code's entries mean, in the words of `rules`.
use Rattle.std.specs.Prelude.{◌≡◌, Bool, true, false, List, [], ℕ, ◌+◌, ◌*◌, ◌≤◌, eqb, length, get_or, drop, None, Some, Option as Optional}
use Rattle.std.proofs.Math.Option.{Option, none, some}
use Rattle.rules.specs.Outcome.{Outcome, done, refused, is_done}
use Rattle.rules.specs.Limits.{table_head_size, entry_size}
use Rattle.rules.specs.Lists.{Bytes}
use Rattle.rules.specs.Characters.{space}
use Rattle.rules.specs.Table.{What, field, group, Entry, format_of, name_of, table}
unfoldable pub use Rattle.value_formats.specs.Formats.{format_at}
pub use Rattle.value_formats.specs.Formats.{format_given}
use Rattle.value_formats.specs.declared.Format.{Format}
use Rattle.value_formats.specs.declared.Format.TheVariants.{Alpha, Binary, Fixed, Packed, Unpacked}
use Rattle.rules.specs.Values as Rules
use Rattle.rules.specs.Values.{alpha, binary, fixed, packed, unpacked}
use Rattle.tables.specs.declared.Entry.{Entry as Decoded}

-- The entries of an outcome: none where it was refused.
abbrev pub listed : Outcome (List Entry) → List Entry
listed (done es) = es
listed (refused n) = []

-- The slice is a table, and its entries.
abbrev pub Valid : Bytes → Type 0
Valid t = is_done (table t) ≡ true

unfoldable pub entries_of : Bytes → List Entry
entries_of t = listed (table t)

-- What stands past the last entry.
unfoldable pub blank : Entry
blank = record { name = 0; level = 0; what = group false }

-- What entry i is.
abbrev pub what_at : List Entry → ℕ → What
what_at es i = (get_or es i blank).what

abbrev pub is_group : What → Bool
is_group (field f n m) = false
is_group (group p) = true

abbrev pub is_multiple : What → Bool
is_multiple (field f n m) = m
is_multiple (group p) = false

abbrev pub is_periodic : What → Bool
is_periodic (field f n m) = false
is_periodic (group p) = p

abbrev pub size_of : What → ℕ
size_of (field f n m) = n
size_of (group p) = 0

-- The format of a field; that of a group means nothing.
abbrev pub field_format : What → Rules.Format
field_format (field f n m) = f
field_format (group p) = alpha

-- A format as the code has it; that of an entry, which a group does not have.
abbrev pub coded : Rules.Format → Format
coded alpha = Alpha
coded binary = Binary
coded fixed = Fixed
coded packed = Packed
coded unpacked = Unpacked

abbrev pub format_coded : What → Optional Format
format_coded (field f n m) = Some (coded f)
format_coded (group p) = None

-- An entry as the code has it.
abbrev pub decoded : Entry → Decoded
decoded e = record {
  name = e.name;
  level = e.level;
  format = format_coded e.what;
  size = size_of e.what;
  multiple = is_multiple e.what;
  periodic = is_periodic e.what;
}

abbrev pub letter_coded : Option Rules.Format → Optional Format
letter_coded (some f) = Some (coded f)
letter_coded none = None

-- The first six bytes as an entry, whether or not they are right; and whether the letter among them is a group's.
unfoldable pub entry_of_bytes : Bytes → Decoded
entry_of_bytes bs = record {
  name = name_of (get_or bs 0 0) (get_or bs 1 0);
  level = get_or bs 2 0;
  format = letter_coded (format_of (get_or bs 3 0));
  size = get_or bs 4 0;
  multiple = eqb (get_or bs 5 0) 1;
  periodic = eqb (get_or bs 5 0) 2;
}

unfoldable pub group_letter : Bytes → Bool
group_letter bs = eqb (get_or bs 3 0) space

-- The place of entry i in a table, the bytes from there on, and whether a slice is long enough for the entry.
abbrev pub entry_place : ℕ → ℕ
entry_place i = i * entry_size + table_head_size

abbrev pub bytes_at : Bytes → ℕ → Bytes
bytes_at t i = drop (entry_place i) t

abbrev pub HasEntry : Bytes → ℕ → Type 0
HasEntry t i = entry_place (i + 1) ≤ length t
