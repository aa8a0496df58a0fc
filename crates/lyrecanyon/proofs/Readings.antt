-- Read is refused by its table and its record in this order, and else it is the items of its format in the buffer, within 32,767 bytes. What is made in less room is made in more, and is refused so too, unless for want of room.
use Rattle.std.specs.Prelude.{Err, Ok, Result}
use mathlib.Core.Path.{◌≡◌, refl, sym, ◌∙◌, ap}
use mathlib.Core.Bool.{Bool, true, false}
use mathlib.Core.List.{List}
use Prim.Native.Nat.{ℕ, ◌≤◌, min}
use native.Mathlib.Omega.{arith}
use lib.ListN.{length, take}
use Rattle.rules.specs.Outcome.{Outcome, done, refused, by, ◌>>=◌, is_done}
use Rattle.rules.specs.Outcome as outcome
use Rattle.rules.specs.Limits.{longest_items}
use Rattle.rules.specs.Lists.{Bytes, bytes_of}
use Rattle.rules.specs.Table.{Entry, table, parts}
use Rattle.rules.specs.Record.{Record, stored}
use Rattle.rules.specs.Format.{elements}
use Rattle.rules.specs.Last.{counts_in, items_read}
use Rattle.rules.specs.Services.{filled, read}
use Rattle.rules.specs.Numbers.{refusal, refusal_number}
use Rattle.rules.specs.declared.Refusal.{Refusal}
use Rattle.rules.proofs.Refusals.{no_table, no_record}
use Rattle.rules.proofs.Steps.{by_outcome, not_both, done_inj, refused_inj, not_done}
use Rattle.buffer.specs.Splice.{splice}
use Rattle.buffer.proofs.Laws.{take_splice}
use Rattle.tables.specs.Entries.{Valid, entries_of}
use Rattle.records.specs.Places.{HasRecord}
use Rattle.uses.specs.Meanings.{meanings_of}
use Rattle.filling.specs.Filling.{ended, placed, Filling}
use Rattle.reading.specs.Scan.{Scans}
use Rattle.reading.proofs.Items.{filled_length}
use Rattle.reading.proofs.Rooms.{more_room, more_room_refused}
use Rattle.lyrecanyon.specs.Answers.{Settled}
use Rattle.lyrecanyon.proofs.Settling.{settled_refused, settled_done}

pub read_no_table : (t b f : Bytes) (room : ℕ) → is_done (table t) ≡ false → read t b f room ≡ refused (by 1)
unfolding read
read_no_table t b f room h = rw (no_table t h) refl

-- The items that a format gives of a record, in room of a length.
abbrev made : List Entry → Bytes → ℕ → Record → Outcome Bytes
made es f room r = meanings_of es f >>= λ ms. filled (parts es) r room (items_read (parts es) (counts_in (parts es) r) ms)

-- What follows the tests of the table and of the record.
read_stored : (t b f : Bytes) (room : ℕ) → Valid t → read t b f room ≡ (stored (parts (entries_of t)) b >>= made (entries_of t) f (min room longest_items))
unfolding read entries_of meanings_of
read_stored t b f room v = by_outcome (table t)
    (λ es e. rw e (by_outcome (stored (parts es) b)
    (λ r h. rw h (by_outcome (elements f) (λ xs k. rw k refl) (λ n k. rw k refl)))
    (λ n h. rw h refl)))
    (λ n e. absurd (not_both (sym (ap is_done e) ∙ v)))

pub read_no_record : (t b f : Bytes) (room : ℕ) → Valid t → is_done (stored (parts (entries_of t)) b) ≡ false → read t b f room ≡ refused (by 2)
read_no_record t b f room v h = read_stored t b f room v ∙ rw (no_record (parts (entries_of t)) b h) refl

module _ (es : List Entry) (f : Bytes) (r : Record) where
  made_length : (room : ℕ) (bs : Bytes) → made es f room r ≡ done bs → length bs ≤ room
  made_length room bs e = by_outcome (meanings_of es f)
      (λ ms u. filled_length (parts es) r room (items_read (parts es) (counts_in (parts es) r) ms) bs (rw u at e))
      (λ n u. absurd (not_done (rw u at e)))

  made_more : (room room' : ℕ) (bs : Bytes) → room ≤ room' → made es f room r ≡ done bs → made es f room' r ≡ done bs
  made_more room room' bs l e = by_outcome (meanings_of es f)
      (λ ms u. rw u (more_room (parts es) r room room' (items_read (parts es) (counts_in (parts es) r) ms) bs l (rw u at e)))
      (λ n u. rw u (rw u at e))

  made_refused : (room room' : ℕ) (n : outcome.Refusal) → room ≤ room' → (n.number ≡ 7 → ⊥) → made es f room r ≡ refused n → made es f room' r ≡ refused n
  made_refused room room' n l z e = by_outcome (meanings_of es f)
      (λ ms u. rw u (more_room_refused (parts es) r room room' (items_read (parts es) (counts_in (parts es) r) ms) n l z (rw u at e)))
      (λ k u. rw u (rw u at e))

-- An outcome by where it ends.
placed_refused : (o : Outcome Bytes) (x : Refusal) → ended (Err x) ≡ placed 0 o → o ≡ refused (refusal x)
placed_refused (done bs) x e = absurd (not_done e)
placed_refused (refused k) x e = ap refused (sym (refused_inj e))

placed_at : (o : Outcome Bytes) (n : ℕ) → ended (Ok n) ≡ placed 0 o → (bs : Bytes) × (o ≡ done bs) × (n ≡ length bs)
placed_at (done bs) n e = (bs, refl, omega (arith, done_inj e))
placed_at (refused k) n e = absurd (not_done (sym e))

-- The items are to be made in room up to the end of the buffer, or to the limit.
pub record Ready (t b : Bytes) (places : List ℕ) (f out : Bytes) (end : ℕ) : Type 0 where
  pub valid : Valid t
  pub holds : HasRecord (entries_of t) b places
  pub room : end ≡ min (length out) longest_items

module _ {t b : Bytes} {places : List ℕ} {f out : Bytes} {end : ℕ} (s : Ready t b places f out end) where
  -- The outcome in room of a length, for the record that there is.
  abbrev given : ℕ → Outcome Bytes
  given room = made (entries_of t) f room s.holds.0

  read_given : read t b f (length out) ≡ given end
  read_given = read_stored t b f (length out) s.valid ∙ rw (s.holds.1.stands, s.room) refl

  -- A pass in room of a length.
  module _ (room : ℕ) {write : Bool} {area area' : Bytes} {m : (Result ℕ Refusal)} (g : Scans (entries_of t) b places f room write area area' m) where
    filling : Filling (given room) 0 write area area' m
    filling = g s.holds.0 s.holds.1

    -- One that is refused.
    module _ {x : Refusal} (e : m ≡ Err x) where
      refused_with : given room ≡ refused (refusal x)
      refused_with = placed_refused _ x (sym (ap ended e) ∙ filling.answer)

      pub all_refused : room ≡ end → Settled (read t b f (length out)) out out (Err x)
      all_refused l = settled_refused _ out x (read_given ∙ ap given (sym l) ∙ refused_with)

      pub less_refused : room ≤ end → (refusal_number x ≡ 7 → ⊥) → Settled (read t b f (length out)) out out (Err x)
      less_refused l z = settled_refused _ out x (read_given ∙ made_refused (entries_of t) f s.holds.0 room end (refusal x) l z refused_with)

    -- One that makes all items.
    module _ {n : ℕ} (e : m ≡ Ok n) where
      bytes_made : (bs : Bytes) × (given room ≡ done bs) × (n ≡ length bs)
      bytes_made = placed_at (given room) n (sym (ap ended e) ∙ filling.answer)

      pub made_within : n ≤ room
      made_within = let o = bytes_made in omega (arith, o.2, made_length (entries_of t) f s.holds.0 room o.0 o.1)

      made_read : room ≤ end → {out' : Bytes} → out' ≡ splice 0 bytes_made.0 out → Settled (read t b f (length out)) out out' (Ok n)
      made_read l w =
          let o = bytes_made in
          settled_done _ o.0 out _ n (read_given ∙ made_more (entries_of t) f s.holds.0 room end o.0 l o.1) o.2 w

  -- A test writes nothing, and else what is done is written.
  unwritten : (room : ℕ) {area area' : Bytes} {m : (Result ℕ Refusal)} → Scans (entries_of t) b places f room false area area' m → area' ≡ area
  unwritten room g = (filling room g).bytes (λ w. absurd (not_both w))

  pub tested_refused : {out' : Bytes} {m : (Result ℕ Refusal)} → Scans (entries_of t) b places f end false out out' m → {x : Refusal} → m ≡ Err x
      → Settled (read t b f (length out)) out out' (Err x)
  tested_refused g e = rw (unwritten end g) (all_refused end g e refl)

  written : (room : ℕ) {area area' : Bytes} {m : (Result ℕ Refusal)} → Scans (entries_of t) b places f room true area area' m → (bs : Bytes) → given room ≡ done bs → area' ≡ splice 0 bs area
  unfolding bytes_of
  written room {area} g bs e = (filling room g).bytes (λ w. ap is_done e) ∙ ap (λ o. splice 0 (bytes_of o) area) e

  -- What was written to the front of an area, put to the front of the buffer.
  pub short_read : (room : ℕ) {area area' : Bytes} {m : (Result ℕ Refusal)} → Scans (entries_of t) b places f room true area area' m → {n : ℕ} → m ≡ Ok n → room ≤ end
      → {out' : Bytes} → out' ≡ splice 0 (take n area') out → Settled (read t b f (length out)) out out' (Ok n)
  short_read room {area} g {n} e l w =
      let o = bytes_made room g e in
      made_read room g e l (w ∙ ap (λ bs. splice 0 bs out) (ap (take n) (written room g o.0 o.1) ∙ take_splice o.0 area n o.2))

  -- A test that is passed, and then the writing, which answers the same.
  pub long_read : {out' out'' : Bytes} {m : (Result ℕ Refusal)} → Scans (entries_of t) b places f end false out out' m → {n : ℕ} → m ≡ Ok n
      → (m' : Result ℕ Refusal) → Scans (entries_of t) b places f end true out' out'' m' → Settled (read t b f (length out)) out out'' m'
  long_read g e (Ok k) s =
      let o = bytes_made end s refl in
      made_read end s refl (omega arith) (written end s o.0 o.1 ∙ ap (splice 0 o.0) (unwritten end g))
  long_read g e (Err x) s = let o = bytes_made end g e in absurd (not_done (sym (refused_with end s refl) ∙ o.1))
