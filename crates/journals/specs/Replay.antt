-- What one entry of a journal, and all of them, leave of a record at the front of a slice.
use Rattle.std.specs.Prelude.{◌≡◌, ℕ, ◌≤◌, length, take}
use Rattle.rules.specs.Lists.{Bytes}
use Rattle.histories.specs.History.{answer, left_by, record_after}
use Rattle.journals.specs.Journal.{entry_call, history_of}

-- The fold's step: the record of an accepted update takes the place of the old one, and a refused update leaves the old one.
pub record Steps (t j : Bytes) (at : ℕ) (stored : Bytes) (used : ℕ) (stored' : Bytes) (used' : ℕ) : Type 0 where
  pub after : take used' stored' ≡ left_by (answer t (take used stored) (entry_call j at)) (take used stored)
  pub within : used' ≤ length stored'

-- The whole fold.
pub record Replays (t j start : Bytes) (stored' : Bytes) (used' : ℕ) : Type 0 where
  pub after : take used' stored' ≡ record_after t start (history_of j)
  pub within : used' ≤ length stored'
