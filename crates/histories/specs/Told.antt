-- A read told from a history alone: as `read`, but each occurrence and each count comes from what the accepted updates assigned, and
-- there is no record.
use Rattle.std.specs.Prelude.{List, [], ◌∷◌, ◌++◌, ℕ, ◌-◌, min, leb, length, replicate}
use Rattle.rules.specs.Outcome.{Outcome, done, ◌>>=◌, need}
use Rattle.rules.specs.Limits.{longest_items}
use Rattle.rules.specs.Characters.{space}
use Rattle.rules.specs.Lists.{Bytes}
use Rattle.rules.specs.Values.{content, read_value}
use Rattle.rules.specs.Table.{Entry, table, parts}
use Rattle.rules.specs.Format.{elements}
use Rattle.rules.specs.Use.{Item, blanks_item, text_item, group_count, value_count, value_item}
use Rattle.rules.specs.Last.{Counts, meanings, items_read}
use Rattle.histories.specs.History.{Writes, last_written_value, value_count_of, group_count_of}

unfoldable pub told_item : List Entry → List Writes → Item → Outcome Bytes
told_item es us (blanks_item n) = done (replicate n space)
told_item es us (text_item t) = done t
told_item es us (group_count n) = done (group_count_of es us n ∷ [])
told_item es us (value_count n i) = done (value_count_of us n i ∷ [])
told_item es us (value_item p g n bare) = read_value p.field.format g n (content p.field.size (last_written_value us p))

unfoldable pub told_items : List Entry → List Writes → ℕ → List Item → Outcome Bytes
told_items es us room [] = done []
told_items es us room (x ∷ xs) = do
  b ← told_item es us x
  _ ← need (leb (length b) room) 7
  bs ← told_items es us (room - length b) xs
  done (b ++ bs)

-- What N goes by: the counts that the history alone tells.
unfoldable pub counts_told : List Entry → List Writes → Counts
counts_told es us = record { group = group_count_of es us; values = value_count_of us }

unfoldable pub told : Bytes → List Writes → Bytes → ℕ → Outcome Bytes
told t us f room = do
  es ← table t
  xs ← elements f
  ms ← meanings es [] [] xs
  told_items es us (min room longest_items) (items_read (parts es) (counts_told es us) ms)
