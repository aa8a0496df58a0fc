-- Demand 3, "Over a history": a sequence of updates, the record that it leaves, and what each occurrence and each count then reads as.
-- What they should read as never looks at a record: it comes from what each accepted update assigns, by the table, its format and its record
-- buffer. Only whether an update was accepted is asked of the service.
use Rattle.std.specs.Prelude.{◌≡◌, Bool, true, false, List, [], ◌∷◌, ℕ, ◌≤◌, ◌<◌, min, length, get_or}
use Rattle.std.proofs.Math.Option.{none, some}
use Rattle.rules.specs.Outcome.{Outcome, done, refused, ◌>>=◌, is_done}
use Rattle.rules.specs.Limits.{longest_items, longest_record}
use Rattle.rules.specs.Lists.{Bytes}
use Rattle.rules.specs.Values.{null}
use Rattle.rules.specs.Table.{Part, Entry, table, parts, part_named}
use Rattle.rules.specs.Record.{Record, stored}
use Rattle.rules.specs.Format.{elements}
use Rattle.rules.specs.Use.{Place, Item, value_item, value_count, group_count, items, uses}
use Rattle.rules.specs.Update.{Assignment, assigned, to_field, bare_only, new_value_count, new_group_count}
use Rattle.rules.specs.Services.{read, assignments_of, update}

-- A call of update: the format, the record buffer, and the room for the new record.
pub record Call : Type 0 where
  pub format : Bytes
  pub buffer : Bytes
  pub room : ℕ

-- "any sequence of updates": the latest first, so that a history goes on by a call that is put before it.
abbrev pub History : Type 0
History = List Call

-- The record buffers of a history hold bytes, as the services' slices do.
abbrev pub ByteBuffers : History → Type 0
ByteBuffers [] = Unit {0}
ByteBuffers (c ∷ earlier) = ((i : ℕ) → get_or c.buffer i 0 < 256) × ByteBuffers earlier

-- ---- The record.

-- What the service answers to a call, on the record b.
unfoldable pub answer : Bytes → Bytes → Call → Outcome Bytes
answer t b c = update t b c.format c.buffer c.room

-- The record of an accepted update takes the place of the old one, and a refused update leaves the old one.
unfoldable pub left_by : Outcome Bytes → Bytes → Bytes
left_by (done new) old = new
left_by (refused n) old = old

-- "Start from that record and send any sequence of updates by that table, refused ones among them."
unfoldable pub record_after : Bytes → Bytes → History → Bytes
record_after t start [] = start
record_after t start (c ∷ earlier) = left_by (answer t (record_after t start earlier) c) (record_after t start earlier)

-- ---- What the history says.

-- What one update writes: each occurrence that it names, with its value in normal form.
abbrev pub Writes : Type 0
Writes = List Assignment

unfoldable pub writes_of : Outcome Writes → Writes
writes_of (done ws) = ws
writes_of (refused n) = []

-- By the table, its format and its record buffer alone.
unfoldable pub writes : Bytes → Call → Writes
writes t c = writes_of (table t >>= λ es. assignments_of es c.format c.buffer)

-- What each accepted update of a history wrote, the latest first. Refused ones wrote nothing.
unfoldable pub accepted : Bytes → Bytes → History → List Writes
accepted t start [] = []
accepted t start (c ∷ earlier) = elim (is_done (answer t (record_after t start earlier) c)) [
  | true ↦ writes t c ∷ accepted t start earlier
  | false ↦ accepted t start earlier
]

-- "as the last accepted update that named it wrote it, in normal form. It reads as null if none did, or if a later accepted one listed
-- that multiple-value field by bare names only and didn't reach it."
unfoldable pub last_written_value : List Writes → Place → Bytes
last_written_value [] p = null p.field.format p.field.size
last_written_value (ws ∷ earlier) p = elim (assigned ws p) [
  | some b ↦ b
  | none ↦ elim (bare_only (to_field ws p.field.name p.occurrence)) [
    | true ↦ null p.field.format p.field.size
    | false ↦ last_written_value earlier p
  ]
]

-- "Every count is the one that document 01 derives from that same history": 0 in the empty record, then by the rule of an update ("its count
-- becomes the number of names. Otherwise .. the larger of the old count and the highest index named"). That of the MU field n in occurrence i.
unfoldable pub value_count_of : List Writes → ℕ → ℕ → ℕ
value_count_of [] n i = 0
value_count_of (ws ∷ earlier) n i = new_value_count ws n i (value_count_of earlier n i)

-- That of a periodic group, which is a part of the record; and of the one that is named n.
unfoldable pub occurrences_of : List Writes → Part → ℕ
occurrences_of [] p = 0
occurrences_of (ws ∷ earlier) p = new_group_count ws p (occurrences_of earlier p)

unfoldable pub group_count_of : List Entry → List Writes → ℕ → ℕ
group_count_of es us n = elim (part_named n (parts es)) [ some p ↦ occurrences_of us p | none ↦ 0 ]

-- ---- The demand.

-- The items that a format stands for.
unfoldable pub items_by : List Entry → Bytes → Outcome (List Item)
items_by es f = do
  xs ← elements f
  us ← uses es [] xs
  done (items us)

-- A read gives these bytes, in any room that holds them.
abbrev pub Reads : Bytes → Bytes → Bytes → Bytes → Type 0
Reads t b f v = (room : ℕ) → length v ≤ min room longest_items → read t b f room ≡ done v

-- Demand 3 of the record b that a service has after the history h. The table t has the entries es, and `start` is its empty record. "After
-- each" update is after any history.
pub record OverAHistory (t : Bytes) (es : List Entry) (start : Bytes) (h : History) (b : Bytes) : Type 0 where
  -- "After each, the record is valid and at most 4,096 bytes."
  pub valid : (r : Record) × (stored (parts es) b ≡ done r)
  pub short : length b ≤ longest_record
  -- "Each occurrence reads, at its standard length and format, as the last accepted update that named it wrote it": by any format that
  -- stands for that occurrence alone.
  pub occurrences : (f : Bytes) (p : Place) (bare : Bool) → items_by es f ≡ done (value_item p p.field.format p.field.size bare ∷ [])
      → Reads t b f (last_written_value (accepted t start h) p)
  -- "Every count is the one that document 01 derives from that same history": by any format that stands for that count alone.
  pub value_counts : (f : Bytes) (n i : ℕ) → items_by es f ≡ done (value_count n i ∷ []) → Reads t b f (value_count_of (accepted t start h) n i ∷ [])
  pub group_counts : (f : Bytes) (n : ℕ) → items_by es f ≡ done (group_count n ∷ []) → Reads t b f (group_count_of es (accepted t start h) n ∷ [])
