-- What the record buffer gave so far: the assignments whose bytes the stage holds, and the bytes that are left.
use Rattle.std.specs.Prelude.{◌≡◌, Bool, true, false, cond, ◌&&◌, List, [], ◌∷◌, ◌++◌, map, ℕ, ◌+◌, ◌≤◌, ◌<◌, ◌-◌, eqb, length, take, drop, get_or, Err, Ok, Result}
use Rattle.rules.specs.declared.Refusal.{Refusal}
use Rattle.rules.specs.Outcome.{Outcome, done, refused}
use Rattle.rules.specs.Limits.{most_entries, longest_new_record}
use Rattle.rules.specs.Lists.{Bytes}
use Rattle.rules.specs.Numbers.{refusal}
use Rattle.rules.specs.declared.Refusal.TheVariants.{BeyondBuffer}
use Rattle.rules.specs.Values.{allowed, converts, converted_bytes}
use Rattle.rules.specs.Table.{Entry, Field, differ, names}
use Rattle.rules.specs.Use.{Item, Asked, as_stored, just, value_items, items}
use Rattle.rules.specs.Update.{Assignment, assignments}
use Rattle.rules.proofs.Ranges.{from_to, taking}
use Rattle.value_formats.specs.Formats.{format_at}
use Rattle.tables.specs.Entries.{is_group, what_at}
use Rattle.tables.specs.Groups.{field_at}
use Rattle.uses.specs.Meant.{fields_from, asked_of}
use Rattle.uses.specs.declared.Span.{Span}
use Rattle.uses.specs.Kept.{uses_kept}
use Rattle.assignments.specs.Notes.{uses_from, place_at, bytes_given, Firsts, Listed, Unindexed, note_bound, note_place}
use Rattle.assignments.specs.Answers.{first_put}
use Rattle.taking.specs.declared.value.Given.{Given}
use Rattle.taking.specs.declared.Taking.{Taking}

-- The list has room for the numbers of the entries, and the stage for what a new record can hold.
abbrev pub RoomEnough : List ℕ → Bytes → Type 0
RoomEnough list stage = (uses_from ≤ length list) × (length stage ≡ longest_new_record)

-- Where the items stand, with the assignments ws so far: their bytes are on the stage, or they have more bytes than a new record.
pub record Holds (es : List Entry) (buffer : Bytes) (list : List ℕ) (stage : Bytes) (s : Taking) (ws : List Assignment) : Type 0 where
  pub entries : length es ≤ most_entries
  pub apart : differ (names es) ≡ true
  pub place : s.at ≤ length buffer
  pub within : s.staged ≤ length stage
  pub unindexed : Unindexed list
  pub full : s.full ≡ true → longest_new_record < length (bytes_given ws)
  pub staged : s.full ≡ false → s.staged ≡ length (bytes_given ws)
  pub bytes : s.full ≡ false → bytes_given ws ≡ take s.staged stage
  pub firsts : s.full ≡ false → Firsts es list ws

-- Items were taken: those assignments came to what was held, or they are refused.
abbrev pub Moved : List Entry → Bytes → List Item → ℕ → List ℕ → Bytes → List Assignment → Result Taking Refusal → Type 0
Moved es buffer xs at list stage ws (Ok s) =
    (own : List Assignment) × (taking xs (drop at buffer) ≡ done (own, drop s.at buffer)) × Holds es buffer list stage s (ws ++ own)
Moved es buffer xs at list stage ws (Err x) = taking xs (drop at buffer) ≡ refused (refusal x)

pub record Takes (es : List Entry) (buffer : Bytes) (xs : List Item) (s : Taking) (list list' : List ℕ) (stage stage' : Bytes) (r : Result Taking Refusal) : Type 0 where
  pub same_list : length list' ≡ length list
  pub same_stage : length stage' ≡ length stage
  -- What is noted of uses stays.
  pub same_uses : (j : ℕ) → uses_from ≤ j → get_or list' j 0 ≡ get_or list j 0
  pub moved : (ws : List Assignment) → Holds es buffer list stage s ws → Moved es buffer xs s.at list' stage' ws r

-- So many bytes of the buffer were passed over, or it has fewer.
abbrev pub Passed : Bytes → ℕ → Taking → Result Taking Refusal → Type 0
Passed buffer n s (Ok t) =
    (s.at + n ≤ length buffer) × (t ≡ record { at = s.at + n; staged = s.staged; full = s.full })
Passed buffer n s (Err x) = (length buffer < s.at + n) × (x ≡ BeyondBuffer)

-- The same, after a value up to a place for which the stage has no room.
abbrev pub tested_to : ℕ → Taking → Taking
tested_to next s = record { at = next; staged = s.staged; full = true }

-- There is room, and some assignments are held.
abbrev pub Ready : List Entry → Bytes → List ℕ → Bytes → Taking → Type 0
Ready es buffer list stage s = RoomEnough list stage × ((ws : List Assignment) × Holds es buffer list stage s ws)

-- The field whose values are taken, at the format and the length in effect; and what is known of it.
abbrev pub asked_given : List Entry → Given → Asked
asked_given es g = record { field = field_at es g.entry; format = format_at g.format; size = g.size }

pub record Gives (es : List Entry) (g : Given) : Type 0 where
  pub entry : g.entry < length es
  pub field : is_group (what_at es g.entry) ≡ false
  pub own : (field_at es g.entry).format ≡ format_at g.own
  pub standard : (field_at es g.entry).size ≡ g.standard
  pub own_allowed : allowed (format_at g.own) g.standard ≡ true
  pub size : allowed (format_at g.format) g.size ≡ true
  pub converts : converts (format_at g.format) (format_at g.own) ≡ true

-- A field of a span at the format and the length in effect; and the items of the entries from one number up to another in an occurrence.
abbrev pub asked_as : Bool → Span → Field → Asked
asked_as true u f = as_stored f
asked_as false u f = record { field = f; format = format_at u.format; size = u.size }

abbrev pub items_between : List Entry → Span → ℕ → ℕ → ℕ → List Item
items_between es u o i end =
    value_items (map (asked_as u.standard u) (fields_from es i end)) (just o) (from_to u.value_from u.value_upto) u.bare

-- What the content of a value gives at its field's own format and length.
abbrev pub given_bytes : Given → Bytes → Outcome Bytes
given_bytes g = converted_bytes (format_at g.format) (format_at g.own) g.standard

-- One value, which stands in the buffer up to `next`, came to what was held, or it is refused.
abbrev pub StagedValue : List Entry → Bytes → Given → ℕ → ℕ → Bytes → ℕ → List ℕ → Bytes → List Assignment → Result Taking Refusal → Type 0
StagedValue es buffer g o k content next list stage ws (Ok s) =
    (b : Bytes) × (given_bytes g content ≡ done b) × (s.at ≡ next)
    × Holds es buffer list stage s (ws ++ (record { place = place_at es g.entry o k; bare = g.bare; bytes = b } ∷ []))
StagedValue es buffer g o k content next list stage ws (Err x) =
    given_bytes g content ≡ refused (refusal x)

pub record Stages (es : List Entry) (buffer : Bytes) (g : Given) (o k : ℕ) (content : Bytes) (next : ℕ) (s : Taking) (list list' : List ℕ)
    (stage stage' : Bytes) (r : Result Taking Refusal) : Type 0 where
  pub same_list : length list' ≡ length list
  pub same_stage : length stage' ≡ length stage
  pub same_uses : (j : ℕ) → uses_from ≤ j → get_or list' j 0 ≡ get_or list j 0
  pub moved : (ws : List Assignment) → Holds es buffer list stage s ws → StagedValue es buffer g o k content next list' stage' ws r

-- A value is noted, if it is value 1 of occurrence 1.
abbrev pub noted : List ℕ → ℕ → ℕ → ℕ → ℕ → List ℕ
noted list i o k at = cond (eqb o 1 && eqb k 1) (first_put list i at) list

-- What a record buffer gives to the items of uses: assignments that are listed, if the stage has room for them, or a refusal.
abbrev pub Gave : List Entry → Bytes → Bytes → List ℕ → ℕ → List ℕ → Bytes → Result Taking Refusal → Type 0
Gave es f buffer kept count list stage (Ok s) =
    (ws : List Assignment) × (assignments (items (uses_kept es f kept count)) buffer ≡ done ws) × (s.full ≡ true → longest_new_record < length (bytes_given ws))
    × (s.full ≡ false → Listed es f kept count list stage ws) × Unindexed list
Gave es f buffer kept count list stage (Err x) = assignments (items (uses_kept es f kept count)) buffer ≡ refused (refusal x)

-- The items of a span in occurrence o, and in all its occurrences; the items of a field that is given, from value first to value last.
abbrev pub occurrence_taken : List Entry → Span → ℕ → List Item
occurrence_taken es u o = value_items (asked_of es u) (just o) (from_to u.value_from u.value_upto) u.bare

abbrev pub span_taken : List Entry → Span → List Item
span_taken es u = value_items (asked_of es u) (from_to u.from u.upto) (from_to u.value_from u.value_upto) u.bare

abbrev pub values_taken : Given → ℕ → ℕ → ℕ → List Entry → List Item
values_taken g o first last es = value_items (asked_given es g ∷ []) (just o) (from_to first last) g.bare

-- Items of a field that is given are taken, or its value k in occurrence o is staged, by whichever table has such a field.
abbrev pub TakesGiven : Bytes → Given → (List Entry → List Item) → Taking → List ℕ → List ℕ → Bytes → Bytes → Result Taking Refusal → Type 0
TakesGiven buffer g items s list list' stage stage' r =
    (es : List Entry) → Gives es g → RoomEnough list stage → Takes es buffer (items es) s list list' stage stage' r

abbrev pub StagesGiven : Bytes → Given → ℕ → ℕ → ℕ → ℕ → Taking → List ℕ → List ℕ → Bytes → Bytes → Result Taking Refusal → Type 0
StagesGiven buffer g o k from next s list list' stage stage' r =
    (es : List Entry) → Gives es g → RoomEnough list stage → Stages es buffer g o k (take (next - from) (drop from buffer)) next s list list' stage stage' r

-- The uses fit the list, which is empty, and the stage is as long as a new record.
abbrev pub CanTake : ℕ → List ℕ → Bytes → Type 0
CanTake count list stage = (count < note_bound) × (note_place count ≤ length list) × (length stage ≡ longest_new_record) × ((j : ℕ) → get_or list j 0 ≡ 0)
