-- A record laid out by a plan, as bytes: entry by entry, occurrence by occurrence, member by member and value by value, as loops write it.
use Rattle.std.specs.Prelude.{Bool, true, false, List, [], ◌∷◌, ◌++◌, ℕ, zero, suc, ◌+◌, ltb, drop, get_or}
use Rattle.rules.specs.Lists.{Bytes}
use Rattle.rules.specs.Table.{Field, What, field, group, Entry, Part, is_inside, fields_below, parts}
use Rattle.rules.specs.Record.{Plan, count_bytes, Record, group_count_at, record_head}
use Rattle.tables.specs.Entries.{blank, what_at}
use Rattle.tables.specs.Groups.{field_by}

-- The part of a periodic group, from the entries after it.
abbrev pub group_part : ℕ → List Entry → Part
group_part name es = record { name = name; periodic = true; members = fields_below 1 es }

-- A count byte, where there is one.
unfoldable pub count_byte : Bool → ℕ → Bytes
count_byte true n = count_bytes n
count_byte false n = []

-- n values of a field in occurrence i, from value k on.
unfoldable pub values_laid : Plan → Field → ℕ → ℕ → ℕ → Bytes
values_laid w f i k zero = []
values_laid w f i k (suc n) = w.value f i k ++ values_laid w f i (suc k) n

unfoldable pub cell_laid : Plan → ℕ → Field → Bytes
cell_laid w i f = count_byte f.multiple (w.values f i) ++ values_laid w f i 1 (w.values f i)

-- Occurrence i of a periodic group, from the entries after it: those before the next of level 1.
unfoldable pub member_laid : Plan → ℕ → ℕ → What → Bytes
member_laid w i name (field f s mu) = cell_laid w i (field_by name (field f s mu))
member_laid w i name (group p) = []

unfoldable pub occurrence_laid : Plan → ℕ → List Entry → Bytes
occurrence_laid w i [] = []
occurrence_laid w i (e ∷ es) = elim (ltb 1 e.level) [ true ↦ member_laid w i e.name e.what ++ occurrence_laid w i es | false ↦ [] ]

-- n occurrences from occurrence i on.
unfoldable pub occurrences_laid : Plan → List Entry → ℕ → ℕ → Bytes
occurrences_laid w es i zero = []
occurrences_laid w es i (suc n) = occurrence_laid w i es ++ occurrences_laid w es (suc i) n

-- An entry before those after it, by the old counts of periodic groups.
unfoldable pub entry_laid : Plan → (ℕ → ℕ) → Bool → ℕ → What → List Entry → Bytes
entry_laid w old inside name (group true) es =
    count_bytes (w.occurrences (group_part name es) (old name)) ++ occurrences_laid w es 1 (w.occurrences (group_part name es) (old name))
entry_laid w old inside name (group false) es = []
entry_laid w old true name (field f s mu) es = []
entry_laid w old false name (field f s mu) es = cell_laid w 1 (field_by name (field f s mu))

-- The body, from some entry on: whether the entry before it is or lies in a periodic group.
unfoldable pub laid_from : Plan → (ℕ → ℕ) → Bool → List Entry → Bytes
laid_from w old before [] = []
laid_from w old before (e ∷ es) = entry_laid w old (is_inside before e) e.name e.what es ++ laid_from w old (is_inside before e) es

-- What entry i adds to the new record, by a plan beside the old record; what the periodic group that entry g is does; and the whole.
abbrev pub entry_added : List Entry → Bool → ℕ → Plan → Record → Bytes
entry_added es inside i w r = entry_laid w (group_count_at (parts es) r) inside (get_or es i blank).name (what_at es i) (drop (i + 1) es)

abbrev pub group_added : List Entry → ℕ → Plan → Record → Bytes
group_added es g w r = entry_laid w (group_count_at (parts es) r) true (get_or es g blank).name (group true) (drop (g + 1) es)

abbrev pub record_added : List Entry → Plan → Record → Bytes
record_added es w r = record_head ++ laid_from w (group_count_at (parts es) r) false es
