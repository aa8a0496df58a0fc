-- What the look-ups answer, in the words of `rules`.
use Rattle.std.specs.Prelude.{◌≡◌, Bool, true, false, cond, not, ◌&&◌, ◌||◌, ◌⊎◌, List, ◌++◌, map, ℕ, zero, suc, ◌+◌, ◌-◌, ◌*◌, ◌≤◌, ◌<◌, max, T, eqb, leb, ltb, length, get_or, set, Option, None, Some}
use Rattle.std.proofs.Math.Seq.{slice}
use Rattle.rules.specs.Outcome.{done}
use Rattle.rules.specs.Limits.{most_entries, highest_index}
use Rattle.rules.specs.Lists.{Bytes, all, any, maximum, run}
use Rattle.rules.specs.Table.{Entry, Part, differ, names}
use Rattle.rules.specs.Record.{stored_value}
use Rattle.rules.specs.Update.{Assignment, to_field, bare_only, highest_value, highest_occurrence, named_twice}
use Rattle.rules.proofs.Back.{All}
use Rattle.tables.specs.Entries.{blank, is_group, is_multiple, what_at}
use Rattle.tables.specs.Groups.{field_at, fields_in}
use Rattle.uses.specs.Kept.{numbers_kept, span_at, use_at, uses_kept}
use Rattle.uses.specs.declared.Span.{Span}
use Rattle.uses.specs.declared.Use.{Use}
use Rattle.uses.specs.declared.Use.TheVariants as code
use Rattle.assignments.specs.Notes.{note_bound, chains, field_chains, group_chain, highest_from, firsts_from, widths_from, note_place, highest_noted, first_noted, width_noted, next_noted, cell_chain, span_chain, use_names, names_cell, chained, place_at, bytes_given, StandsIn, TakesAt, OnStage, Listed, Chained, Indexed, width_before}
use Rattle.assignments.specs.declared.Naming.{Naming}

-- Value 1 of entry i in occurrence 1 is noted to stand at a place, unless one is noted already.
unfoldable pub first_put : List ℕ → ℕ → ℕ → List ℕ
first_put list i at = cond (eqb (first_noted list i) 0) (set list (firsts_from + i) (at + 1)) list

-- An occurrence is among those of entry i, where it is a field.
unfoldable pub entry_marked : List Entry → List ℕ → ℕ → ℕ → List ℕ
entry_marked es list i upto =
    cond (is_group (what_at es i)) list (set list (highest_from + i) (max (get_or list (highest_from + i) 0) upto))

-- A span's last occurrence is among those of its fields.
pub record Marked (es : List Entry) (s : Span) (list list' : List ℕ) : Type 0 where
  pub same : length list' ≡ length list
  pub inside : (i : ℕ) → s.first ≤ i → i < s.end → is_group (what_at es i) ≡ false
      → get_or list' (highest_from + i) 0 ≡ max (get_or list (highest_from + i) 0) s.upto
  pub outside : (j : ℕ) → ((i : ℕ) → s.first ≤ i → i < s.end → is_group (what_at es i) ≡ false → j ≡ highest_from + i → ⊥) → get_or list' j 0 ≡ get_or list j 0

-- A span with the number n is put before those of its chain, and marked. A use of another kind changes nothing.
abbrev pub linked : ℕ → Span → List ℕ → List ℕ
linked n s list = set (set list (note_place n + 1) (get_or list (span_chain s) 0)) (span_chain s) (n + 1)

abbrev pub Links : List Entry → ℕ → Use → List ℕ → List ℕ → Type 0
Links es n (code.Values s) list list' = Marked es s (linked n s list) list'
Links es n (code.Blanks m) list list' = list' ≡ list
Links es n (code.Text from upto) list list' = list' ≡ list
Links es n (code.GroupCount i) list list' = list' ≡ list
Links es n (code.ValueCount i k) list list' = list' ≡ list

-- What a span needs to be put into a chain.
pub record CanLink (es : List Entry) (n : ℕ) (s : Span) (list : List ℕ) : Type 0 where
  pub room : note_place (n + 1) ≤ length list
  pub few : n + 1 < note_bound
  pub most : length es ≤ most_entries
  pub entries : (s.first < s.end) × (s.end ≤ length es)
  pub occurrences : (s.from ≤ s.upto) × (s.upto ≤ highest_index)

-- The widths of the entries are noted.
pub record Widened (es : List Entry) (list list' : List ℕ) : Type 0 where
  pub same : length list' ≡ length list
  pub widths : (i : ℕ) → i ≤ length es → width_noted list' i ≡ width_before es i
  pub others : (j : ℕ) → j < widths_from → get_or list' j 0 ≡ get_or list j 0
  pub notes : (n : ℕ) → get_or list' (note_place n) 0 ≡ get_or list (note_place n) 0
  pub nexts : (n : ℕ) → next_noted list' n ≡ next_noted list n

-- The uses are in their chains, and what was listed still is; and no occurrence is named twice.
pub record LinkedAll (es : List Entry) (f : Bytes) (kept : List ℕ) (count : ℕ) (list : List ℕ) (stage : Bytes) (ws : List Assignment) : Type 0 where
  pub listed : Listed es f kept count list stage ws
  pub chains : Chained es kept count 0 list

pub record NamedOnce (f : Bytes) (es : List Entry) (kept : List ℕ) (count : ℕ) : Type 0 where
  pub apart : T (differ (names es))
  pub once : named_twice (uses_kept es f kept count) ≡ false

-- A list of uses becomes one that can be searched.
abbrev pub IndexesAll : List Entry → List ℕ → ℕ → List ℕ → List ℕ → Type 0
IndexesAll es kept count before after =
    (f : Bytes) (stage : Bytes) (ws : List Assignment) → Listed es f kept count before stage ws → NamedOnce f es kept count → Indexed es f kept count after stage ws

-- It can be searched for what occurrence o takes.
abbrev pub CanFind : List Entry → List ℕ → List ℕ → Bytes → ℕ → Type 0
CanFind es kept list stage o = (1 ≤ o) × (o ≤ highest_index) × ((f : Bytes) × (count : ℕ) × (ws : List Assignment) × Indexed es f kept count list stage ws)

-- A statement on all that a list which can be searched may hold; and there is something that it holds.
abbrev pub OfEach : List ℕ → List ℕ → (List Entry → Bytes → ℕ → Bytes → List Assignment → Type 0) → Type 0
OfEach kept list P = (es : List Entry) (f : Bytes) (count : ℕ) (stage : Bytes) (ws : List Assignment) → Indexed es f kept count list stage ws → P es f count stage ws

abbrev pub HasIndex : List ℕ → List ℕ → Type 0
HasIndex kept list = (es : List Entry) × (f : Bytes) × (count : ℕ) × (stage : Bytes) × (ws : List Assignment) × Indexed es f kept count list stage ws

-- The same, and there are at least `end` entries.
abbrev pub HasEntries : List ℕ → List ℕ → ℕ → Type 0
HasEntries kept list end = (es : List Entry) × (f : Bytes) × (count : ℕ) × (stage : Bytes) × (ws : List Assignment) × Indexed es f kept count list stage ws × (end ≤ length es)

-- The number of a use, among some, that names entry i in occurrence o: None where none does.
abbrev pub FoundIn : List ℕ → ℕ → (ℕ → Bool) → ℕ → ℕ → Option ℕ → Type 0
FoundIn kept count among i o None = (n : ℕ) → n < count → among n ≡ true → use_names (use_at kept n) i o ≡ false
FoundIn kept count among i o (Some n) = (n < count) × (use_names (use_at kept n) i o ≡ true)

-- The chains in which a use that names entry i in occurrence o may be.
unfoldable pub chain_at : ℕ → ℕ → ℕ → ℕ
chain_at x i o = cond (eqb x 0) (cell_chain i o) (cond (eqb x 1) (field_chains + i) group_chain)

-- How many of them have to be searched.
unfoldable pub chains_for : List ℕ → ℕ → ℕ → ℕ
chains_for list i o = cond (ltb (highest_noted list i) o) 0 3

-- These are the chains to be searched: None where there are none.
abbrev pub HasChains : List ℕ → ℕ → ℕ → Option (List ℕ) → Type 0
HasChains list i o None = chains_for list i o ≡ 0
HasChains list i o (Some xs) = (chains_for list i o ≡ 3) × ((x : ℕ) → x < 3 → (get_or xs x 0 ≡ chain_at x i o) × (get_or xs x 0 < chains))

-- A value in normal form: it is read back from the front of whatever begins with it.
abbrev pub ReadsBack : Assignment → Type 0
ReadsBack a = (rest : Bytes) → stored_value a.place.field.format a.place.field.size (a.bytes ++ rest) ≡ done (a.bytes, rest)

-- What a span gives to entry i in occurrence o stands among the assignments after p bytes, value by value.
pub record Block (es : List Entry) (ws : List Assignment) (i o : ℕ) (s : Span) (p : ℕ) : Type 0 where
  pub before : List Assignment
  pub block : List Assignment
  pub after : List Assignment
  pub is : ws ≡ before ++ (block ++ after)
  pub bytes : p ≡ length (bytes_given before)
  pub places : map (λ a. a.place) block ≡ run (place_at es i o) s.value_from (suc s.value_upto - s.value_from)
  pub reads : All ReadsBack block

-- Use n names entry i, a field of a standard length, in occurrence o.
pub record NamedBy (es : List Entry) (f : Bytes) (kept : List ℕ) (count : ℕ) (list : List ℕ) (stage : Bytes) (ws : List Assignment) (n i o size : ℕ) : Type 0 where
  pub indexed : Indexed es f kept count list stage ws
  pub known : n < count
  pub names : use_names (use_at kept n) i o ≡ true
  pub entry : i < length es
  pub field : is_group (what_at es i) ≡ false
  pub size_is : size ≡ (field_at es i).size
  -- A use of several fields that names such a cell lies in a periodic group, so that its fields are of fixed length.
  pub inside : (2 ≤ o) ⊎ (is_multiple (what_at es i) ≡ true)

abbrev pub HasBlock : List ℕ → List ℕ → Bytes → ℕ → ℕ → ℕ → ℕ → Type 0
HasBlock kept list stage n i o size = (es : List Entry) × (f : Bytes) × (count : ℕ) × (ws : List Assignment) × NamedBy es f kept count list stage ws n i o size

abbrev pub BeginsAt : List ℕ → List ℕ → Bytes → ℕ → ℕ → ℕ → ℕ → ℕ → Type 0
BeginsAt kept list stage n i o size r =
    (es : List Entry) (f : Bytes) (count : ℕ) (ws : List Assignment) → NamedBy es f kept count list stage ws n i o size → Block es ws i o (span_at kept (numbers_kept * n)) r

-- A value of entry i in occurrence o stands among the assignments at a place that is noted: one above it, and not 0.
abbrev pub NotedAt : List Entry → List Assignment → ℕ → ℕ → ℕ → ℕ → Type 0
NotedAt es ws i o k zero = ⊥
NotedAt es ws i o k (suc p) = (a : Assignment) × StandsIn ws p a × (a.place ≡ place_at es i o k)

-- What `fill` needs, and what it does: the places of the values of a block are noted.
pub record CanFill (es : List Entry) (ws : List Assignment) (stage : Bytes) (i o : ℕ) (s : Span) (at size : ℕ) : Type 0 where
  pub stands : OnStage stage ws
  pub block : Block es ws i o s at
  pub size_is : size ≡ (field_at es i).size
  pub values : (1 ≤ s.value_from) × (s.value_upto ≤ highest_index)

pub record Filled (es : List Entry) (ws : List Assignment) (i o : ℕ) (s : Span) (by by' : List ℕ) : Type 0 where
  pub same : length by' ≡ length by
  pub inside : (k : ℕ) → s.value_from ≤ k → k ≤ s.value_upto → NotedAt es ws i o k (get_or by' k 0)
  pub below : (k : ℕ) → k < s.value_from → get_or by' k 0 ≡ get_or by k 0
  pub above : (k : ℕ) → s.value_upto < k → get_or by' k 0 ≡ get_or by k 0

-- What a use says of entry i in occurrence o: the highest value, 0 where it does not name the cell; whether it is bare, or does not name it;
-- and whether it names value k.
unfoldable pub highest_by : Use → ℕ → ℕ → ℕ
highest_by (code.Values s) i o = cond (names_cell s i o) s.value_upto 0
highest_by (code.Blanks n) i o = 0
highest_by (code.Text from upto) i o = 0
highest_by (code.GroupCount j) i o = 0
highest_by (code.ValueCount j k) i o = 0

unfoldable pub bare_by : Use → ℕ → ℕ → Bool
bare_by (code.Values s) i o = not (names_cell s i o) || s.bare
bare_by (code.Blanks n) i o = true
bare_by (code.Text from upto) i o = true
bare_by (code.GroupCount j) i o = true
bare_by (code.ValueCount j k) i o = true

unfoldable pub value_by : Use → ℕ → ℕ → ℕ → Bool
value_by (code.Values s) i o k = names_cell s i o && leb s.value_from k && leb k s.value_upto
value_by (code.Blanks n) i o k = false
value_by (code.Text from upto) i o k = false
value_by (code.GroupCount j) i o k = false
value_by (code.ValueCount j l) i o k = false

-- The note of value k, by the uses that were gone over: none of them names it, or it stands there.
abbrev pub NotedBy : List ℕ → List Entry → List Assignment → ℕ → ℕ → List ℕ → ℕ → ℕ → Type 0
NotedBy kept es ws i o ns k zero = any (λ n. value_by (use_at kept n) i o k) ns ≡ false
NotedBy kept es ws i o ns k (suc p) = NotedAt es ws i o k (suc p)

-- What the uses with the numbers ns say of entry i in occurrence o.
pub record Tally (kept : List ℕ) (es : List Entry) (ws : List Assignment) (i o : ℕ) (ns by : List ℕ) (r : Naming) : Type 0 where
  pub highest : r.highest ≡ maximum (map (λ n. highest_by (use_at kept n) i o) ns)
  pub bare : r.bare ≡ all (λ n. bare_by (use_at kept n) i o) ns
  pub long : length by ≡ highest_index + 1
  pub noted : (k : ℕ) → k ≤ highest_index → NotedBy kept es ws i o ns k (get_or by k 0)

-- Something can be named of entry i, an MU field of a standard length.
pub record CanName (es : List Entry) (f : Bytes) (kept : List ℕ) (count : ℕ) (list : List ℕ) (stage : Bytes) (ws : List Assignment) (i size : ℕ) : Type 0 where
  pub indexed : Indexed es f kept count list stage ws
  pub entry : i < length es
  pub field : is_group (what_at es i) ≡ false
  pub multiple : is_multiple (what_at es i) ≡ true
  pub size_is : size ≡ (field_at es i).size

-- The same of some table, format and assignments.
abbrev pub Nameable : List ℕ → List ℕ → Bytes → ℕ → ℕ → Type 0
Nameable kept list stage i size = (es : List Entry) × (f : Bytes) × (count : ℕ) × (ws : List Assignment) × CanName es f kept count list stage ws i size

-- The uses of one chain more.
abbrev pub Tallies : List ℕ → List ℕ → Bytes → ℕ → ℕ → ℕ → ℕ → List ℕ → List ℕ → Naming → Naming → Type 0
Tallies kept list stage x i o size by by' r r' =
    (es : List Entry) (f : Bytes) (count : ℕ) (ws : List Assignment) (ns : List ℕ) → CanName es f kept count list stage ws i size
    → Tally kept es ws i o ns by r → Tally kept es ws i o (ns ++ chained list count (get_or list x 0)) by' r'

-- What is named of entry i in occurrence o: the highest value, whether by bare names only, and where what each value takes stands.
pub record Names (es : List Entry) (ws : List Assignment) (i o : ℕ) (by : List ℕ) (r : Naming) : Type 0 where
  pub highest : r.highest ≡ highest_value ws (get_or es i blank).name o
  pub most : r.highest ≤ highest_index
  pub bare : r.bare ≡ bare_only (to_field ws (get_or es i blank).name o)
  pub each : (k : ℕ) → k ≤ highest_index → TakesAt ws (place_at es i o k) (get_or by k 0)

abbrev pub NamesAll : List ℕ → List ℕ → Bytes → ℕ → ℕ → ℕ → List ℕ → Naming → Type 0
NamesAll kept list stage i o size by r =
    (es : List Entry) (f : Bytes) (count : ℕ) (ws : List Assignment) → CanName es f kept count list stage ws i size → Names es ws i o by r

-- The highest occurrence in which a field among the entries from first to end is named.
abbrev pub Highest : List ℕ → List ℕ → ℕ → ℕ → ℕ → Type 0
Highest kept list first end r = OfEach kept list (λ es f count stage ws. (p : Part) → p.members ≡ fields_in (slice first end es) → end ≤ length es → r ≡ highest_occurrence ws p)
