-- The empty record of a valid table is its head and what its entries add; it is refused where it is over 4,096 bytes or over the room.
use mathlib.Core.Path.{◌≡◌, refl, sym, ◌∙◌, ap}
use mathlib.Core.Bool.{false}
use mathlib.Core.List.{◌++◌}
use Prim.Native.Nat.{ℕ, ◌+◌, ◌≤◌, ◌<◌, min}
use native.Mathlib.Omega.{arith}
use borrow.Author.Tests.{le-leb, lt-leb}
use lib.ListN.{length}
use Rattle.rules.specs.Outcome.{done, refused, by, is_done}
use Rattle.rules.specs.Limits.{longest_new_record}
use Rattle.rules.specs.Lists.{Bytes}
use Rattle.rules.specs.Table.{table, parts}
use Rattle.rules.specs.Record.{record_head, record_bytes}
use Rattle.rules.specs.Services.{empty, fitting}
use Rattle.rules.proofs.Refusals.{no_table}
use Rattle.rules.proofs.Steps.{by_outcome, not_both}
use Rattle.tables.specs.Entries.{Valid, entries_of}
use Rattle.records.specs.Empty.{empty_from}
use Rattle.records.proofs.EmptyBody.{empty_body_from}

-- What is put together.
unfoldable pub empty_bytes : Bytes → Bytes
empty_bytes t = record_head ++ empty_from false (entries_of t)

pub empty_size : (t : Bytes) → length (empty_bytes t) ≡ 5 + length (empty_from false (entries_of t))
unfolding empty_bytes record_head
empty_size t = omega arith

pub empty_refused : (t : Bytes) (room : ℕ) → is_done (table t) ≡ false → empty t room ≡ refused (by 1)
unfolding empty
empty_refused t room h = rw (no_table t h) refl

valid_empty : (t : Bytes) (room : ℕ) → Valid t → empty t room ≡ fitting room (empty_bytes t)
unfolding empty entries_of empty_bytes parts record_bytes
valid_empty t room v = by_outcome (table t)
    (λ es e. rw (e, empty_body_from false es) refl)
    (λ n e. absurd (not_both (sym (ap is_done e) ∙ v)))

pub empty_cramped : (t : Bytes) (room : ℕ) → Valid t → min room longest_new_record < length (empty_bytes t) → empty t room ≡ refused (by 10)
unfolding fitting
empty_cramped t room v h = valid_empty t room v ∙ rw (lt-leb (length (empty_bytes t)) (min room longest_new_record) h) refl

pub empty_done : (t : Bytes) (room : ℕ) → Valid t → length (empty_bytes t) ≤ longest_new_record → length (empty_bytes t) ≤ room → empty t room ≡ done (empty_bytes t)
unfolding fitting
empty_done t room v h k = valid_empty t room v ∙ rw (le-leb (length (empty_bytes t)) (min room longest_new_record) (omega arith)) refl
