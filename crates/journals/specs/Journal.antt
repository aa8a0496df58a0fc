-- A journal keeps the updates of a record, one entry after the other, the first update first. An entry has two lengths of two bytes each, the
-- high byte first, of the update's format and of its record buffer, and then the bytes of both.
use Rattle.std.specs.Prelude.{Bool, true, false, ◌&&◌, [], ◌∷◌, ℕ, zero, suc, ◌+◌, ◌*◌, leb, length, take, drop, get_or}
use Rattle.rules.specs.Outcome.{Outcome, done, ◌>>=◌}
use Rattle.rules.specs.Limits.{longest_new_record}
use Rattle.rules.specs.Lists.{Bytes}
use Rattle.rules.specs.Services.{read, empty}
use Rattle.histories.specs.History.{Call, History, record_after}

-- The length that stands at a place of a journal.
unfoldable pub length_at : Bytes → ℕ → ℕ
length_at j at = get_or j at 0 * 256 + get_or j (at + 1) 0

-- How many bytes the two lengths take.
abbrev pub head_length : ℕ
head_length = 4

-- The length of the entry at a place.
unfoldable pub entry_length : Bytes → ℕ → ℕ
entry_length j at = head_length + length_at j at + length_at j (at + 2)

-- Whether a whole entry stands there. An entry that is cut short ends the journal.
unfoldable pub whole_entry : Bytes → ℕ → Bool
whole_entry j at = leb (at + head_length) (length j) && leb (at + entry_length j at) (length j)

-- The update that it keeps, in room for the longest record.
unfoldable pub entry_call : Bytes → ℕ → Call
entry_call j at = record {
  format = take (length_at j at) (drop (at + head_length) j);
  buffer = take (length_at j (at + 2)) (drop (at + head_length + length_at j at) j);
  room = longest_new_record;
}

-- Where it ends: at its own place, if no whole entry stands there.
unfoldable pub entry_end : Bytes → ℕ → ℕ
entry_end j at = elim (whole_entry j at) [ true ↦ at + entry_length j at | false ↦ at ]

-- The history that goes on by the entries from a place on, at most n of them.
unfoldable pub history_from : ℕ → Bytes → ℕ → History → History
history_from zero j at earlier = earlier
history_from (suc n) j at earlier = elim (whole_entry j at) [
  | true ↦ history_from n j (at + entry_length j at) (entry_call j at ∷ earlier)
  | false ↦ earlier
]

-- The history that a journal keeps: a journal has fewer entries than bytes.
unfoldable pub history_of : Bytes → History
history_of j = history_from (length j) j 0 []

-- The record after that history, beginning with the empty record of the table.
unfoldable pub replayed : Bytes → Bytes → Outcome Bytes
replayed t j = do
  start ← empty t longest_new_record
  done (record_after t start (history_of j))

-- A read of that record.
unfoldable pub read_after : Bytes → Bytes → Bytes → ℕ → Outcome Bytes
read_after t j f room = do
  b ← replayed t j
  read t b f room
