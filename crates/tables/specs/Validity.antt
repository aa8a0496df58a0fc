-- The tests of a table: its head, its entries one at a time, their levels and their names.
use Rattle.std.specs.Prelude.{◌≡◌, Bool, true, false, not, ◌&&◌, List, ℕ, suc, ◌+◌, ◌*◌, ◌/◌, ◌%◌, ◌<◌, eqb, leb, length, get_or, take, drop}
use Rattle.rules.specs.Outcome.{is_done}
use Rattle.rules.specs.Limits.{most_entries, deepest_level, table_head_size}
use Rattle.rules.specs.Lists.{Bytes, same, all}
use Rattle.rules.specs.Table.{Entry, is_name, what_of, entries, names, table_head}
use Rattle.tables.specs.Entries.{listed, entry_of_bytes, entry_place, bytes_at}

-- The head, the number of entries, and the length of the whole slice.
unfoldable pub headed : Bytes → Bool
headed t =
    leb table_head_size (length t) && same (take 5 t) table_head && (leb 1 (get_or t 5 0) && leb (get_or t 5 0) most_entries) && eqb (length t) (entry_place (get_or t 5 0))

-- Whether the first six bytes are an entry by themselves.
unfoldable pub right_of : Bytes → Bool
right_of bs = is_name (get_or bs 0 0) (get_or bs 1 0) && is_done (what_of (get_or bs 2 0) (get_or bs 3 0) (get_or bs 4 0) (get_or bs 5 0))

-- The first n entries are right by themselves.
abbrev pub Right : ℕ → Bytes → Type 0
Right n t = is_done (entries n (drop table_head_size t)) ≡ true

-- The first n entries, their levels and names not tested yet.
unfoldable pub read_entries : ℕ → Bytes → List Entry
read_entries n t = listed (entries n (drop table_head_size t))

-- Whether a level may follow that of a group, or of a field.
unfoldable pub follows : Bool → ℕ → ℕ → Bool
follows true before level = eqb level (suc before) && leb level deepest_level
follows false before level = leb 1 level && leb level before

-- Whether no entry has a name.
unfoldable pub unused : ℕ → List Entry → Bool
unused n es = all (λ m. not (eqb m n)) (names es)

-- The mark of a name, by its two bytes.
unfoldable pub mark_of : ℕ → ℕ
mark_of n = (n / 256 * 11 + n % 256) % 256

-- An answer to whether one of the entries before entry i has a name.
abbrev pub NamedBefore : Bytes → ℕ → ℕ → Bool → Type 0
NamedBefore t i n true = (j : ℕ) × (j < i) × ((entry_of_bytes (bytes_at t j)).name ≡ n)
NamedBefore t i n false = (j : ℕ) → j < i → (entry_of_bytes (bytes_at t j)).name ≡ n → ⊥
