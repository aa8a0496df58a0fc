-- Document 01, "Numbers returned": the three services, with the numbers in their order.
use Rattle.std.specs.Prelude.{not, List, [], ◌∷◌, ◌++◌, ℕ, ◌-◌, min, leb, length, take, replicate}
use Rattle.rules.specs.Outcome.{Outcome, done, ◌>>=◌, need}
use Rattle.rules.specs.Limits.{longest_items, longest_new_record}
use Rattle.rules.specs.Characters.{space}
use Rattle.rules.specs.Lists.{Bytes}
use Rattle.rules.specs.Values.{content, read_value}
use Rattle.rules.specs.Table.{Part, Entry, table, parts}
use Rattle.rules.specs.Record.{Record, stored, record_bytes, value_at, value_count_at, group_count_at, empty_record}
use Rattle.rules.specs.Format.{elements}
use Rattle.rules.specs.Use.{Item, blanks_item, text_item, group_count, value_count, value_item, items, uses}
use Rattle.rules.specs.Last.{counts_in, meanings, items_read}
use Rattle.rules.specs.Update.{Assignment, named_twice, assignments, after_update}

-- "Read: each occurrence in order, in normal form at the length and format in effect; one that doesn't exist reads as null, its count as 0."
unfoldable pub item_bytes : List Part → Record → Item → Outcome Bytes
item_bytes ps r (blanks_item n) = done (replicate n space)
item_bytes ps r (text_item t) = done t
item_bytes ps r (group_count n) = done (group_count_at ps r n ∷ [])
item_bytes ps r (value_count n i) = done (value_count_at ps r n i ∷ [])
item_bytes ps r (value_item p g n bare) =
    read_value p.field.format g n (content p.field.size (value_at ps r p.field p.occurrence p.value))

-- The items one after the other in the room that is left. "Per item, read tests 9 then 7".
unfoldable pub filled : List Part → Record → ℕ → List Item → Outcome Bytes
filled ps r room [] = done []
filled ps r room (x ∷ xs) = do
  b ← item_bytes ps r x
  _ ← need (leb (length b) room) 7
  bs ← filled ps r (room - length b) xs
  done (b ++ bs)

-- Read: 1, 2, 3; then elements left to right, 4 before 5; then items left to right, 9 before 7, within the buffer and 32,767 bytes.
unfoldable pub read : Bytes → Bytes → Bytes → ℕ → Outcome Bytes
read t b f room = do
  es ← table t
  r ← stored (parts es) b
  xs ← elements f
  ms ← meanings es [] [] xs
  filled (parts es) r (min room longest_items) (items_read (parts es) (counts_in (parts es) r) ms)

-- What an update assigns, by its table, format and record buffer alone: 3; 4 before 5; 6; then items left to right.
unfoldable pub assignments_of : List Entry → Bytes → Bytes → Outcome (List Assignment)
assignments_of es f buffer = do
  xs ← elements f
  us ← uses es [] xs
  _ ← need (not (named_twice us)) 6
  assignments (items us) (take longest_items buffer)

-- "new record over 4,096 bytes or over the lent room" is 10.
unfoldable pub fitting : ℕ → Bytes → Outcome Bytes
fitting room b = do
  _ ← need (leb (length b) (min room longest_new_record)) 10
  done b

-- Update: 1, 2, then what it assigns, then 10.
unfoldable pub update : Bytes → Bytes → Bytes → Bytes → ℕ → Outcome Bytes
update t b f buffer room = do
  es ← table t
  r ← stored (parts es) b
  ws ← assignments_of es f buffer
  fitting room (record_bytes (parts es) (after_update (parts es) r ws))

-- "The empty record meets 1 and 10 only."
unfoldable pub empty : Bytes → ℕ → Outcome Bytes
empty t room = do
  es ← table t
  fitting room (record_bytes (parts es) (empty_record (parts es)))
