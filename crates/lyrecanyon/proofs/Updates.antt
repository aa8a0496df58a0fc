-- Update is refused by its table and its record in this order, and else it is the new record by what is assigned: first within its own limit,
-- and then within the room that is lent.
use Rattle.std.specs.Prelude.{Err, Result}
use mathlib.Core.Path.{◌≡◌, refl, ◌∙◌}
use mathlib.Core.Bool.{false}
use Prim.Native.Nat.{ℕ}
use borrow.Author.Tests.{leb-false, le-leb, lt-leb}
use lib.Dec.{leb, leb→le}
use lib.ListN.{length}
use lib.Seq.{length-take-le}
use Rattle.rules.specs.Outcome.{Outcome, done, refused, by, ◌>>=◌, is_done}
use Rattle.rules.specs.Limits.{longest_new_record}
use Rattle.rules.specs.Lists.{Bytes}
use Rattle.rules.specs.Table.{table, parts}
use Rattle.rules.specs.Record.{Record, stored, record_bytes}
use Rattle.rules.specs.Update.{after_update}
use Rattle.rules.specs.Services.{assignments_of, fitting, update}
use Rattle.rules.proofs.Refusals.{no_table, no_record}
use Rattle.rules.proofs.Steps.{by_outcome, by_test, true_T}
use Rattle.tables.specs.Entries.{Valid, entries_of}
use Rattle.updating.proofs.Fitting.{fits, too_long, fitting_twice}
use Rattle.lyrecanyon.specs.Answers.{Settled}
use Rattle.lyrecanyon.specs.Making.{Makes, new_record, in_lent}
use Rattle.rules.specs.declared.Refusal.{Refusal}
use Rattle.lyrecanyon.proofs.Settling.{settled_refused}
use Rattle.lyrecanyon.proofs.Makings.{tabled}

pub update_no_table : (t b f buffer : Bytes) (room : ℕ) → is_done (table t) ≡ false → update t b f buffer room ≡ refused (by 1)
unfolding update
update_no_table t b f buffer room h = rw (no_table t h) refl

pub update_no_record : (t b f buffer : Bytes) (room : ℕ) → Valid t → is_done (stored (parts (entries_of t)) b) ≡ false → update t b f buffer room ≡ refused (by 2)
unfolding update
update_no_record t b f buffer room v h = rw (tabled t v, no_record (parts (entries_of t)) b h)

-- What follows these tests.
pub update_stored : (t b f buffer : Bytes) → Valid t → (r : Record) → stored (parts (entries_of t)) b ≡ done r
    → update t b f buffer longest_new_record ≡ (assignments_of (entries_of t) f buffer >>= new_record (entries_of t) r)
unfolding update
update_stored t b f buffer v r h = rw (tabled t v, h)

-- A record within its own limit, and then within the room.
fitting_lent : (room : ℕ) (b : Bytes) → fitting room b ≡ in_lent room (fitting longest_new_record b)
fitting_lent room b = by_test (leb (length b) longest_new_record)
    (λ t. let l = leb→le (length b) longest_new_record (true_T t) in fitting_twice room b ∙ rw (t, fits longest_new_record b l l))
    (λ t. let l = leb-false (length b) longest_new_record t in rw (too_long room b l, too_long longest_new_record b l))

pub update_lent : (t b f buffer : Bytes) (room : ℕ) → update t b f buffer room ≡ in_lent room (update t b f buffer longest_new_record)
unfolding update
update_lent t b f buffer room = by_outcome (table t)
    (λ es e. by_outcome (stored (parts es) b)
    (λ r h. by_outcome (assignments_of es f buffer)
    (λ ws g. rw (e, h, g) (fitting_lent room (record_bytes (parts es) (after_update (parts es) r ws))))
    (λ n g. rw (e, h, g)))
    (λ n h. rw (e, h)))
    (λ n e. rw e)

-- What was made, in the room that is lent.
module _ {o : Outcome Bytes} (made : Bytes) where
  pub lent_refused : (room : Bytes) (x : Refusal) → Makes o made (Err x) → Settled (in_lent (length room) o) room room (Err x)
  lent_refused room x m = settled_refused _ room x (rw m)

-- What tells whether it finds room.
pub ruleset lending = (length-take-le, lt-leb, le-leb)

-- The same bytes, otherwise said.
pub settled_as : {o p : Outcome Bytes} (entry exit : Bytes) (a : Result ℕ Refusal) → o ≡ p → Settled p entry exit a → Settled o entry exit a
settled_as {p = p} entry exit a e s = rw e s
