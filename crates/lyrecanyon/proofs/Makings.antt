-- A new record is made as the rules say: what is put into the array is the record by entries, a full stage is refusal 10, and what the format
-- names comes before what the record buffer gives.
use Rattle.std.specs.Prelude.{Err, Ok, Result}
use Rattle.std.specs.Result.{IsErrAnd, MatchResult}
use Rattle.std.proofs.lemmas.Result.{err_from_is_err_and}
use mathlib.Core.Path.{◌≡◌, refl, sym, ◌∙◌, ap, subst}
use mathlib.Core.Bool.{true, false, not}
use mathlib.Core.List.{List, [], ◌++◌}
use Prim.Native.Nat.{ℕ, zero, suc, ◌-◌, ◌*◌, ◌≤◌, ◌<◌, min}
use native.Mathlib.Omega.{arith}
use borrow.Author.Tests.{leb-false, lt-leb}
use lib.Dec.{leb, leb→le}
use lib.ListN.{length, take, replicate, get_or}
use lib.Seq.{take_all, take-length}
use Rattle.rules.specs.Outcome.{Outcome, done, refused, by, ◌>>=◌, need, is_done}
use Rattle.rules.specs.Outcome as outcome
use Rattle.rules.specs.Limits.{longest_format, longest_items, longest_new_record}
use Rattle.rules.specs.Lists.{Bytes, bytes_of}
use Rattle.rules.specs.Numbers.{refusal}
use Rattle.rules.specs.declared.Refusal.{Refusal}
use Rattle.rules.specs.declared.Refusal.TheVariants.{NoRoom}
use Rattle.rules.specs.Table.{Entry, table, parts}
use Rattle.rules.specs.Record.{Record, record_head, record_bytes, group_count_at}
use Rattle.rules.specs.Format.{Element, elements}
use Rattle.rules.specs.Use.{Use, uses, items}
use Rattle.rules.specs.Update.{Assignment, named_twice, assignments, after_update}
use Rattle.rules.specs.Services.{assignments_of, fitting}
use Rattle.rules.proofs.Steps.{from_bind, from_need, by_outcome, by_test, done_inj, not_done, not_both}
use Rattle.rules.proofs.Assigned.{bare_numbers}
use Rattle.buffer.specs.Splice.{splice}
use Rattle.buffer.proofs.Laws.{take_splice}
use Rattle.buffer.proofs.Cases.{by_order}
use Rattle.tables.specs.Entries.{Valid, entries_of}
use Rattle.uses.specs.Meant.{uses_of}
use Rattle.uses.specs.Kept.{uses_kept, GoodUses, numbers_kept}
use Rattle.assignments.specs.Notes.{Indexed}
use Rattle.filling.specs.Filling.{in_room, Filling}
use Rattle.filling.proofs.Continues.{put_on, put_off}
use Rattle.records.specs.Places.{IsRecord}
use Rattle.assignments.specs.Notes.{bytes_given}
use Rattle.updating.specs.Laid.{laid_from}
use Rattle.updating.specs.New.{Assigns, Puts}
use Rattle.updating.proofs.Counted.{update_laid}
use Rattle.updating.proofs.Fitting.{fits, too_long}
use Rattle.updating.proofs.Staged.{staged_beyond}
use Rattle.lyrecanyon.specs.Making.{Makes, new_record, Apart, given}

pub tabled : (t : Bytes) → Valid t → table t ≡ done (entries_of t)
unfolding entries_of
tabled t v = by_outcome (table t) (λ es e. rw e) (λ n e. absurd (not_both (sym (ap is_done e) ∙ v)))

-- Bytes in their room.
room_done : (room : ℕ) (bs a : Bytes) → in_room room (done bs) ≡ done a → (bs ≡ a) × (length bs ≤ room)
unfolding in_room
room_done room bs a p = from_need (leb (length bs) room) 7 _ p λ t k. (done_inj k, leb→le (length bs) room t)

room_off : (room : ℕ) (k : outcome.Refusal) (bs : Bytes) → in_room room (done bs) ≡ refused k → room < length bs
unfolding in_room
room_off room k bs p = by_test (leb (length bs) room) (λ t. absurd (not_done (sym (rw t at p)))) (λ t. leb-false (length bs) room t)

-- The record that was put, or did not find room.
module _ (t : Bytes) (valid : Valid t) {b : Bytes} {places kept list : List ℕ} {stage entry exit : Bytes} {n : (Result ℕ Refusal)} (long : length entry ≡ longest_new_record)
    (f : Puts (entries_of t) b places kept list stage (λ w r. record_head ++ laid_from w (group_count_at (parts (entries_of t)) r) false (entries_of t)) 0 longest_new_record entry exit n)
    (r : Record) (ws : List Assignment) (held : IsRecord (entries_of t) b places r) (a : Assigns (entries_of t) kept list stage ws) where
  abbrev new : Bytes
  new = record_bytes (parts (entries_of t)) (after_update (parts (entries_of t)) r ws)

  put : Filling (in_room (longest_new_record - 0) (done new)) 0 true entry exit n
  put = subst (λ (z : Bytes). Filling (in_room (longest_new_record - 0) (done z)) 0 true entry exit n) (sym (update_laid t (entries_of t) r ws (tabled t valid))) (f r ws held a)

  record_made : (k : ℕ) → n ≡ Ok k → Makes (new_record (entries_of t) r ws) exit (Ok k)
  unfolding bytes_of
  record_made k q = put_on put k q λ c h e w.
      let (same, l) = room_done (longest_new_record - 0) new c h in
      let z : k ≡ length c = omega arith in
      let m = ap length same in
      let v : exit ≡ splice 0 c entry = w in
      let d : fitting longest_new_record new ≡ done new = fits longest_new_record new (omega arith) (omega arith) in
      (omega (arith, put.same, m, z), d ∙ ap done (same ∙ sym (ap (take k) v ∙ take_splice c entry k z)))

  record_over : (x : Refusal) → n ≡ Err x → Makes (new_record (entries_of t) r ws) exit (Err NoRoom)
  record_over x q = let l = room_off (longest_new_record - 0) (refusal x) new (put_off put x q) in too_long longest_new_record new (omega arith)

  -- The answer, in which any refusal is one for want of room.
  pub record_answered : (P : Refusal → Refusal → Type 0) → ((x y : Refusal) → P x y → y ≡ NoRoom) → (m : Result ℕ Refusal) → MatchResult n (λ k. m ≡ Ok k) (λ x. IsErrAnd m (P x)) → Makes (new_record (entries_of t) r ws) exit m
  record_answered P only m = answered n refl
    where
      answered : (o : Result ℕ Refusal) → n ≡ o → MatchResult o (λ k. m ≡ Ok k) (λ x. IsErrAnd m (P x)) → Makes (new_record (entries_of t) r ws) exit m
      answered (Ok k) q h = rw h (record_made k q)
      answered (Err x) q h = let p = err_from_is_err_and m h in rw (p.1, only x p.0 p.2) (record_over x q)

-- What uses that are kept stand for.
meant_by : (es : List Entry) (f : Bytes) (us : List Use) → uses_of es f ≡ done us → (xs : List Element) × (uses es [] xs ≡ done us)
unfolding uses_of
meant_by es f us p = from_bind (elements f) _ p λ xs h k. (xs, k)

module _ (t : Bytes) (valid : Valid t) {f : Bytes} {kept : List ℕ} {n : ℕ} (apart : Apart (entries_of t) f kept n) (buffer : Bytes) {ws : List Assignment}
    (gives : given (entries_of t) f kept n buffer ≡ done ws) where
  abbrev us : List Use
  us = uses_kept (entries_of t) f kept n

  -- A stage that is full.
  pub stage_over : longest_new_record < length (bytes_given ws) → (r : Record) → new_record (entries_of t) r ws ≡ refused (by 10)
  stage_over l r =
      let (xs, m) = meant_by (entries_of t) f us apart.meant in
      staged_beyond t (entries_of t) (tabled t valid) r xs us m apart.once buffer ws gives l longest_new_record

  -- Else they can be searched for.
  pub assigns : {list : List ℕ} {stage : Bytes} → Indexed (entries_of t) f kept n list stage ws → Assigns (entries_of t) kept list stage ws
  assigns i =
      let (xs, m) = meant_by (entries_of t) f us apart.meant in
      record { format = f; count = n; indexed = i; bare = bare_numbers t (entries_of t) (tabled t valid) xs us m apart.once buffer ws gives }

-- The record buffer up to its limit.
pub take_least : (b : Bytes) (n : ℕ) → take (min (length b) n) b ≡ take n b
take_least b n = by_order (length b) n
    (λ l. let z : min (length b) n ≡ length b = omega arith in rw z (take-length b ∙ sym (take_all n b (omega arith))))
    (λ l. let z : min (length b) n ≡ n = omega arith in rw z)

-- Zeros.
pub zeros : (n j : ℕ) → ◌≡◌ {A = ℕ} (get_or (replicate n 0) j 0) 0
zeros zero j = refl
zeros (suc n) zero = refl
zeros (suc n) (suc j) = zeros n j

-- What a format assigns: 3, 4 and 5 by its uses, then 6, then its items.
module _ (es : List Entry) (f buffer : Bytes) where
  by_uses : assignments_of es f buffer ≡ (uses_of es f >>= λ us. need (not (named_twice us)) 6 >>= λ _. assignments (items us) (take longest_items buffer))
  unfolding assignments_of uses_of
  by_uses = by_outcome (elements f) (λ xs e. rw e) (λ n e. rw e)

  pub uses_refused : (k : outcome.Refusal) → uses_of es f ≡ refused k → assignments_of es f buffer ≡ refused k
  uses_refused k e = by_uses ∙ rw e

  module _ (us : List Use) (e : uses_of es f ≡ done us) where
    pub named_refused : named_twice us ≡ true → assignments_of es f buffer ≡ refused (by 6)
    named_refused h = by_uses ∙ rw (e, h)

    pub items_given : named_twice us ≡ false → assignments_of es f buffer ≡ assignments (items us) (take longest_items buffer)
    items_given h = by_uses ∙ rw (e, h)

  long_off : longest_format < length f → uses_of es f ≡ refused (by 3)
  unfolding uses_of elements
  long_off l = rw (lt-leb (length f) longest_format l)

  pub format_long : longest_format < length f → assignments_of es f buffer ≡ refused (by 3)
  format_long l = uses_refused (by 3) (long_off l)

-- What is made by an outcome is made by one that is the same.
pub makes_by : (es : List Entry) (r : Record) {o p : Outcome (List Assignment)} (made : Bytes) (n : Result ℕ Refusal) → o ≡ p → Makes (p >>= new_record es r) made n → Makes (o >>= new_record es r) made n
makes_by es r made n e m = subst (λ (z : Outcome (List Assignment)). Makes (z >>= new_record es r) made n) (sym e) m

-- What is known of uses in which no occurrence is named twice.
pub are_apart : (es : List Entry) (f : Bytes) (kept : List ℕ) (n : ℕ) → uses_of es f ≡ done (uses_kept es f kept n) → GoodUses es f kept n → numbers_kept * n ≤ length kept
    → named_twice (uses_kept es f kept n) ≡ false → Apart es f kept n
are_apart es f kept n m g r o = record { meant = m; good = g; room = r; once = o }
