-- A journal is replayed entry by entry: the history so far, and the entries that are left, are the history that the journal keeps.
use Rattle.std.specs.Prelude.{Err, Ok}
use mathlib.Core.Path.{◌≡◌, refl, sym, ◌∙◌, ap, subst}
use mathlib.Core.Bool.{true, false}
use mathlib.Core.List.{[], ◌∷◌}
use Prim.Native.Nat.{ℕ, zero, suc, ◌+◌, ◌≤◌, ◌<◌}
use native.Mathlib.Omega.{arith}
use borrow.Author.Tests.{le-leb, lt-leb}
use lib.Dec.{leb, leb→le}
use lib.ListN.{length, take}
use Rattle.rules.specs.Outcome.{done, refused}
use Rattle.rules.specs.Limits.{longest_new_record}
use Rattle.rules.specs.Lists.{Bytes}
use Rattle.rules.specs.Numbers.{refusal}
use Rattle.rules.specs.Services.{read, empty}
use Rattle.rules.specs.declared.Refusal.{Refusal}
use Rattle.rules.proofs.Numbered.{empty_numbered}
use Rattle.rules.proofs.Steps.{by_test, true_T, and_right}
use Rattle.histories.specs.History.{History, answer, left_by, record_after}
use Rattle.lyrecanyon.specs.Answers.{Settled}
use Rattle.lyrecanyon.specs.Making.{Makes}
use Rattle.lyrecanyon.proofs.Settling.{settled_refused, done_back, refused_back}
use Rattle.journals.specs.Journal.{head_length, length_at, entry_length, whole_entry, entry_call, entry_end, history_from, history_of, replayed, read_after}
use Rattle.journals.specs.Replay.{Steps, Replays}

-- ---- an entry

module _ (j : Bytes) (at : ℕ) where
  pub whole_end : whole_entry j at ≡ true → entry_end j at ≡ at + entry_length j at
  unfolding entry_end
  whole_end e = rw (e, entry_end)

  pub cut_end : whole_entry j at ≡ false → entry_end j at ≡ at
  unfolding entry_end
  cut_end e = rw (e, entry_end)

  head_within : head_length ≤ entry_length j at
  unfolding entry_length
  head_within = omega arith

  -- A whole entry lies in the journal.
  pub whole_within : whole_entry j at ≡ true → at + entry_length j at ≤ length j
  unfolding whole_entry
  whole_within e = leb→le (at + entry_length j at) (length j) (and_right (leb (at + head_length) (length j)) (leb (at + entry_length j at) (length j)) (true_T e))

  pub whole_parts : whole_entry j at ≡ true → at + head_length + length_at j at + length_at j (at + 2) ≤ length j
  unfolding entry_length
  whole_parts e = let h = whole_within e in omega arith

  -- Its two lengths, and then its bytes, may be cut short.
  pub short_head : length j < at + head_length → whole_entry j at ≡ false
  unfolding whole_entry
  short_head l = rw (lt-leb (at + head_length) (length j) l) refl

  pub short_entry : length j < at + (head_length + length_at j at + length_at j (at + 2)) → whole_entry j at ≡ false
  unfolding whole_entry entry_length
  short_entry l = by_test (leb (at + head_length) (length j))
      (λ e. rw (e, lt-leb (at + entry_length j at) (length j) l) refl)
      (λ e. rw e refl)

  pub is_whole : at + (head_length + length_at j at + length_at j (at + 2)) ≤ length j → whole_entry j at ≡ true
  unfolding whole_entry entry_length
  is_whole l = rw (le-leb (at + head_length) (length j) (omega arith), le-leb (at + entry_length j at) (length j) l) refl

  pub end_at : whole_entry j at ≡ true → entry_end j at ≡ at + (head_length + length_at j at + length_at j (at + 2))
  unfolding entry_length
  end_at e = whole_end e

  -- Where an entry ends after its place a whole one stands, and else none does.
  pub goes_on : at < entry_end j at → whole_entry j at ≡ true
  goes_on l = by_test (whole_entry j at) (λ e. e) (λ e. absurd (omega (arith, cut_end e)))

  pub ends_here : entry_end j at ≤ at → whole_entry j at ≡ false
  ends_here l = by_test (whole_entry j at) (λ e. absurd (let h = head_within in omega (arith, whole_end e))) (λ e. e)

  from_whole : (n : ℕ) (earlier : History) → whole_entry j at ≡ true → history_from (suc n) j at earlier ≡ history_from n j (at + entry_length j at) (entry_call j at ∷ earlier)
  unfolding history_from
  from_whole n earlier e = rw (e, history_from)

  from_cut : (n : ℕ) (earlier : History) → whole_entry j at ≡ false → history_from n j at earlier ≡ earlier
  unfolding history_from
  from_cut zero earlier e = refl
  from_cut (suc n) earlier e = rw (e, history_from)

-- ---- the loop

pub record Going (t j start : Bytes) (at used : ℕ) (stored : Bytes) : Type 0 where
  pub left : ℕ
  pub earlier : History
  pub whole : history_of j ≡ history_from left j at earlier
  pub enough : length j ≤ at + left
  pub inside : at ≤ length j
  pub after : take used stored ≡ record_after t start earlier
  pub within : used ≤ length stored
  pub room : length stored ≡ longest_new_record

module _ (t j : Bytes) where
  pub going_start : (used : ℕ) (stored : Bytes) → used ≤ length stored → length stored ≡ longest_new_record → Going t j (take used stored) 0 used stored
  unfolding history_of record_after
  going_start used stored l r = record {
    left = length j;
    earlier = [];
    whole = refl;
    enough = omega arith;
    inside = omega arith;
    after = refl;
    within = l;
    room = r;
  }

  module _ {start : Bytes} where
    -- One entry more.
    turn : (left at used : ℕ) (earlier : History) (stored stored' : Bytes) (used' : ℕ) → whole_entry j at ≡ true → history_of j ≡ history_from left j at earlier → length j ≤ at + left
        → take used stored ≡ record_after t start earlier → length stored ≡ longest_new_record → Steps t j at stored used stored' used' → length stored' ≡ length stored
        → Going t j start (at + entry_length j at) used' stored'
    unfolding record_after
    turn zero at used earlier stored stored' used' e h n a r s l = absurd (let w = whole_within j at e in let m = head_within j at in omega arith)
    turn (suc left) at used earlier stored stored' used' e h n a r s l = record {
      left = left;
      earlier = entry_call j at ∷ earlier;
      whole = h ∙ from_whole j at left earlier e;
      enough = let m = head_within j at in omega arith;
      inside = whole_within j at e;
      after = s.after ∙ ap (λ b. left_by (answer t b (entry_call j at)) b) a;
      within = s.within;
      room = l ∙ r;
    }

    pub going_turn : (at used end : ℕ) (stored stored' : Bytes) (used' : ℕ) → at < end → end ≡ entry_end j at → Going t j start at used stored
        → Steps t j at stored used stored' used' → length stored' ≡ length stored → Going t j start end used' stored'
    going_turn at used end stored stored' used' l e g s n =
        let w = goes_on j at (omega arith) in
        subst (λ k. Going t j start k used' stored') (sym (e ∙ whole_end j at w)) (turn g.left at used g.earlier stored stored' used' w g.whole g.enough g.after g.room s n)

    pub going_end : (at used : ℕ) (stored : Bytes) → entry_end j at ≤ at → Going t j start at used stored → Replays t j start stored used
    going_end at used stored l g = record {
      after = g.after ∙ ap (record_after t start) (sym (g.whole ∙ from_cut j at g.left g.earlier (ends_here j at l)));
      within = g.within;
    }

-- ---- the record, and a read of it

module _ (t j stored stored' : Bytes) (room : length stored ≡ longest_new_record) where
  pub replay_refused : (x : Refusal) → Settled (empty t (length stored)) stored stored' (Err x) → replayed t j ≡ refused (refusal x)
  unfolding replayed
  replay_refused x s = rw (ap (empty t) (sym room) ∙ (refused_back (empty t (length stored)) stored stored' x s).0)

  pub replay_start : (n : ℕ) → Settled (empty t (length stored)) stored stored' (Ok n) → n ≤ length stored'
  replay_start n s = (done_back (empty t (length stored)) (empty_numbered t (length stored)) stored stored' n s).1

  pub replay_done : (n used : ℕ) (made : Bytes) → Settled (empty t (length stored)) stored stored' (Ok n) → Replays t j (take n stored') made used → Makes (replayed t j) made (Ok used)
  unfolding replayed
  replay_done n used made s r =
      (r.within, rw (ap (empty t) (sym room) ∙ (done_back (empty t (length stored)) (empty_numbered t (length stored)) stored stored' n s).0) (ap done (sym r.after)))

module _ (t j f made : Bytes) (buffer : Bytes) where
  pub after_refused : (x : Refusal) → Makes (replayed t j) made (Err x) → Settled (read_after t j f (length buffer)) buffer buffer (Err x)
  unfolding read_after
  after_refused x m = settled_refused _ buffer x (rw m)

  pub after_done : (used : ℕ) → Makes (replayed t j) made (Ok used) → read_after t j f (length buffer) ≡ read t (take used made) f (length buffer)
  unfolding read_after
  after_done used m = rw m.1
