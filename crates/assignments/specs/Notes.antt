-- What is noted of the uses of a format while an update goes by them. The values that they give stand on a stage, one after the other. The list
-- has the heads of chains of uses; of each entry the highest occurrence named, where value 1 of its occurrence 1 stands, and how wide the
-- entries before it are; and then of each use where its values begin and the next use of its chain.
use Rattle.std.specs.Prelude.{◌≡◌, Bool, true, false, cond, ◌&&◌, List, [], ◌∷◌, ◌++◌, map, ℕ, zero, suc, ◌+◌, ◌-◌, ◌*◌, ◌%◌, ◌≤◌, ◌<◌, T, eqb, leb, ltb, length, get_or, take}
use Rattle.std.proofs.Math.Option.{none, some}
use Rattle.rules.specs.Outcome.{Outcome, done, refused}
use Rattle.rules.specs.Limits.{most_entries, longest_new_record}
use Rattle.rules.specs.Lists.{Bytes, filter, join, maximum, run}
use Rattle.rules.specs.Table.{Entry, differ, names}
use Rattle.rules.specs.Use.{Place, items}
use Rattle.rules.specs.Update.{Assignment, assigned, named_twice}
use Rattle.rules.proofs.Ranges.{taking}
use Rattle.rules.proofs.Digits.{Below}
use Rattle.tables.specs.Entries.{Valid, entries_of, is_group, size_of, what_at}
use Rattle.tables.specs.Groups.{field_at}
use Rattle.uses.specs.Kept.{numbers_kept, use_at, uses_kept, GoodUses}
use Rattle.uses.specs.declared.Span.{Span}
use Rattle.uses.specs.declared.Use.{Use}
use Rattle.uses.specs.declared.Use.TheVariants as code

-- The heads of the chains: a use of one field in one occurrence is in a chain by both, one of one field in several occurrences in that of
-- the field, and one of several fields in the last.
abbrev pub cell_chains : ℕ
cell_chains = 256

abbrev pub field_chains : ℕ
field_chains = cell_chains

abbrev pub group_chain : ℕ
group_chain = field_chains + most_entries

abbrev pub chains : ℕ
chains = group_chain + 1

-- Where the numbers of the entries begin, and those of the uses.
abbrev pub highest_from : ℕ
highest_from = chains

abbrev pub firsts_from : ℕ
firsts_from = highest_from + most_entries

abbrev pub widths_from : ℕ
widths_from = firsts_from + most_entries

abbrev pub uses_from : ℕ
uses_from = widths_from + (most_entries + 1)

-- How many numbers are noted of a use: where its values begin on the stage, and one above the number of the next use of its chain.
abbrev pub numbers_noted : ℕ
numbers_noted = 2

abbrev pub note_place : ℕ → ℕ
note_place n = uses_from + numbers_noted * n

-- A number of the list is below this.
abbrev pub note_bound : ℕ
note_bound = 65536

abbrev pub highest_noted : List ℕ → ℕ → ℕ
highest_noted list i = get_or list (highest_from + i) 0

abbrev pub first_noted : List ℕ → ℕ → ℕ
first_noted list i = get_or list (firsts_from + i) 0

abbrev pub width_noted : List ℕ → ℕ → ℕ
width_noted list i = get_or list (widths_from + i) 0

abbrev pub start_noted : List ℕ → ℕ → ℕ
start_noted list n = get_or list (note_place n) 0

abbrev pub next_noted : List ℕ → ℕ → ℕ
next_noted list n = get_or list (note_place n + 1) 0

-- Value k of entry i, a field, in occurrence o.
abbrev pub place_at : List Entry → ℕ → ℕ → ℕ → Place
place_at es i o k = record { field = field_at es i; occurrence = o; value = k }

-- The bytes of assignments, one after the other.
abbrev pub bytes_given : List Assignment → Bytes
bytes_given ws = join (map (λ a. a.bytes) ws)

-- The assignments that the first n uses give by a record buffer: none where one is refused.
abbrev pub assignments_in : Outcome (List Assignment × Bytes) → List Assignment
assignments_in (done r) = r.0
assignments_in (refused n) = []

unfoldable pub given_first : List Entry → Bytes → List ℕ → Bytes → ℕ → List Assignment
given_first es f kept buffer n = assignments_in (taking (items (uses_kept es f kept n)) buffer)

-- An assignment stands among others after p bytes.
pub record StandsIn (ws : List Assignment) (p : ℕ) (a : Assignment) : Type 0 where
  pub before : List Assignment
  pub after : List Assignment
  pub is : ws ≡ before ++ (a ∷ after)
  pub bytes : p ≡ length (bytes_given before)

-- What an occurrence takes, by one above the bytes before it: nothing for 0.
abbrev pub TakesAt : List Assignment → Place → ℕ → Type 0
TakesAt ws q zero = assigned ws q ≡ none
TakesAt ws q (suc p) = (a : Assignment) × StandsIn ws p a × (a.place ≡ q) × (assigned ws q ≡ some a.bytes)

-- Where value 1 of each field in occurrence 1 stands.
abbrev pub Firsts : List Entry → List ℕ → List Assignment → Type 0
Firsts es list ws = (i : ℕ) → i < length es → is_group (what_at es i) ≡ false → TakesAt ws (place_at es i 1 1) (first_noted list i)

-- The bytes of assignments stand on a stage, from its front on.
pub record OnStage (stage : Bytes) (ws : List Assignment) : Type 0 where
  pub staged : ℕ
  pub long : staged ≤ length stage
  pub most : length stage ≤ longest_new_record
  pub bytes : bytes_given ws ≡ take staged stage

-- The assignments ws are what the first `count` uses give, their bytes stand on the stage, and where those of each use begin is noted.
pub record Listed (es : List Entry) (f : Bytes) (kept : List ℕ) (count : ℕ) (list : List ℕ) (stage : Bytes) (ws : List Assignment) : Type 0 where
  pub entries : length es ≤ most_entries
  -- The entries are those of a table.
  pub table : Bytes
  pub valid : Valid table
  pub entries_are : es ≡ entries_of table
  pub uses : GoodUses es f kept count
  pub kept_room : numbers_kept * count ≤ length kept
  pub room : note_place count ≤ length list
  pub few : count < note_bound
  pub buffer : Bytes
  pub rest : Bytes
  pub small : Below 256 buffer
  pub given : taking (items (uses_kept es f kept count)) buffer ≡ done (ws, rest)
  pub starts : (n : ℕ) → n < count → start_noted list n ≡ length (bytes_given (given_first es f kept buffer n))
  pub stands : OnStage stage ws
  pub firsts : Firsts es list ws

-- No chain has a head, no occurrence is the highest of its entry, and no use has a next one.
abbrev pub Unindexed : List ℕ → Type 0
Unindexed list = ((j : ℕ) → j < firsts_from → get_or list j 0 ≡ 0) × ((n : ℕ) → next_noted list n ≡ 0)

-- The chain of entry i in occurrence o; that of a span; and that of a use, which names nothing where it is of another kind.
unfoldable pub cell_chain : ℕ → ℕ → ℕ
cell_chain i o = (i * 67 + o) % cell_chains

unfoldable pub span_chain : Span → ℕ
span_chain s = cond (ltb (s.first + 1) s.end) group_chain (cond (ltb s.from s.upto) (field_chains + s.first) (cell_chain s.first s.from))

unfoldable pub use_chain : Use → ℕ
use_chain (code.Values s) = span_chain s
use_chain (code.Blanks n) = chains
use_chain (code.Text from upto) = chains
use_chain (code.GroupCount i) = chains
use_chain (code.ValueCount i k) = chains

-- Whether a span, and a use, names entry i in occurrence o.
unfoldable pub names_cell : Span → ℕ → ℕ → Bool
names_cell s i o = leb s.from o && leb o s.upto && leb s.first i && ltb i s.end

unfoldable pub use_names : Use → ℕ → ℕ → Bool
use_names (code.Values s) i o = names_cell s i o
use_names (code.Blanks n) i o = false
use_names (code.Text from upto) i o = false
use_names (code.GroupCount j) i o = false
use_names (code.ValueCount j k) i o = false

-- The last occurrence that a use names of entry i: 0 where it does not name it.
unfoldable pub use_reach : Use → ℕ → ℕ
use_reach (code.Values s) i = cond (leb s.first i && ltb i s.end) s.upto 0
use_reach (code.Blanks n) i = 0
use_reach (code.Text from upto) i = 0
use_reach (code.GroupCount j) i = 0
use_reach (code.ValueCount j k) i = 0

-- The numbers of the uses of a chain, from a number as it is kept on: 0 ends it. There are not more than the first number says.
unfoldable pub chained : List ℕ → ℕ → ℕ → List ℕ
chained list zero n = []
chained list (suc most) zero = []
chained list (suc most) (suc m) = m ∷ chained list most (next_noted list m)

-- How wide the first n entries are together, at their standard lengths.
unfoldable pub width_before : List Entry → ℕ → ℕ
width_before es zero = 0
width_before es (suc n) = width_before es n + size_of (what_at es n)

-- The chains, from use m on: each has the uses that belong to it, in their order.
-- Of each field the highest occurrence that they name is noted, and none of a group.
pub record Chained (es : List Entry) (kept : List ℕ) (count m : ℕ) (list : List ℕ) : Type 0 where
  pub heads : (x : ℕ) → x < chains → get_or list x 0 ≤ count
  pub nexts : (n : ℕ) → m ≤ n → n < count → (next_noted list n ≤ count) × (0 < next_noted list n → suc n < next_noted list n)
  pub members : (x : ℕ) → x < chains → chained list count (get_or list x 0) ≡ filter (λ n. eqb (use_chain (use_at kept n)) x) (run (λ n. n) m (count - m))
  pub highest : (i : ℕ) → i < length es → is_group (what_at es i) ≡ false → highest_noted list i ≡ maximum (run (λ n. use_reach (use_at kept n) i) m (count - m))
  pub groups : (i : ℕ) → i < length es → is_group (what_at es i) ≡ true → highest_noted list i ≡ 0

-- The list can be searched.
pub record Indexed (es : List Entry) (f : Bytes) (kept : List ℕ) (count : ℕ) (list : List ℕ) (stage : Bytes) (ws : List Assignment) : Type 0 where
  pub listed : Listed es f kept count list stage ws
  pub chains : Chained es kept count 0 list
  pub widths : 0 < get_or list group_chain 0 → (i : ℕ) → i ≤ length es → width_noted list i ≡ width_before es i
  -- Names differ, and no occurrence is named twice.
  pub apart : T (differ (names es))
  pub once : named_twice (uses_kept es f kept count) ≡ false
