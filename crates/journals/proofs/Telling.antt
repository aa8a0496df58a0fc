-- What `read_after` gives is told by the journal alone: every read after a history is the one that the history tells, and a journal of bytes
-- keeps record buffers of bytes.
use mathlib.Core.Path.{◌≡◌, sym, ◌∙◌, subst}
use mathlib.Core.List.{List, [], ◌∷◌}
use Prim.Native.Nat.{ℕ, zero, suc, ◌+◌, ◌<◌}
use native.Mathlib.Omega.{arith}
use lib.ListN.{length, take, drop, get_or}
use lib.Seq.{get_or-drop}
use Rattle.rules.specs.Outcome.{done, ◌>>=◌}
use Rattle.rules.specs.Limits.{longest_new_record}
use Rattle.rules.specs.Lists.{Bytes}
use Rattle.rules.specs.Table.{table}
use Rattle.rules.specs.Services.{empty}
use Rattle.rules.proofs.Steps.{by_outcome, by_test, not_done}
use Rattle.histories.specs.History.{History, ByteBuffers, accepted}
use Rattle.histories.specs.Told.{told}
use Rattle.histories.proofs.Demand.{every_read}
use Rattle.journals.specs.Journal.{head_length, length_at, entry_length, whole_entry, entry_call, history_from, history_of, replayed, read_after}

take_below : (xs : List ℕ) (m : ℕ) → ((i : ℕ) → get_or xs i 0 < 256) → (i : ℕ) → get_or (take m xs) i 0 < 256
take_below [] zero h i = omega arith
take_below [] (suc m) h i = omega arith
take_below (x ∷ xs) zero h i = omega arith
take_below (x ∷ xs) (suc m) h zero = h 0
take_below (x ∷ xs) (suc m) h (suc i) = take_below xs m (λ k. h (suc k)) i

part_below : (j : Bytes) → ((i : ℕ) → get_or j i 0 < 256) → (from m i : ℕ) → get_or (take m (drop from j)) i 0 < 256
part_below j h from m i = take_below (drop from j) m (λ k. subst (λ v. v < 256) (sym (get_or-drop from j k 0)) (h (from + k))) i

module _ (j : Bytes) (h : (i : ℕ) → get_or j i 0 < 256) where
  from_bytes : (n at : ℕ) (earlier : History) → ByteBuffers earlier → ByteBuffers (history_from n j at earlier)
  unfolding history_from entry_call
  from_bytes zero at earlier b = b
  from_bytes (suc n) at earlier b = by_test (whole_entry j at)
      (λ e. rw (e, history_from) (from_bytes n (at + entry_length j at) (entry_call j at ∷ earlier) (part_below j h (at + head_length + length_at j at) (length_at j (at + 2)), b)))
      (λ e. rw (e, history_from) b)

  pub journal_bytes : ByteBuffers (history_of j)
  unfolding history_of
  journal_bytes = from_bytes (length j) 0 [] tt

  module _ (t f : Bytes) (room : ℕ) where
    started : (start : Bytes) → empty t longest_new_record ≡ done start → read_after t j f room ≡ told t (accepted t start (history_of j)) f room
    unfolding read_after replayed empty
    started start e = by_outcome (table t)
        (λ es g. rw e (every_read t es g start e (history_of j) journal_bytes f room))
        (λ n g. absurd (not_done (rw g at e)))

    -- No record stands on the right side: the table, the journal and the format are all that it looks at.
    pub after_told : read_after t j f room ≡ (empty t longest_new_record >>= λ start. told t (accepted t start (history_of j)) f room)
    unfolding read_after replayed
    after_told = by_outcome (empty t longest_new_record)
        (λ start e. started start e ∙ rw e)
        (λ n e. rw e)
