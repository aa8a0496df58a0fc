-- A value comes to the stage where it has room there; else it is only tested, for the new record is too long.
use Rattle.std.specs.Prelude.{Err, Ok, Result}
use mathlib.Core.Path.{◌≡◌, refl, sym, ◌∙◌, ap, subst}
use mathlib.Core.Bool.{true, false, not, true≢false}
use mathlib.Core.Logic.{◌⊎◌, inl, inr, ⊎_elim}
use mathlib.Core.List.{List, [], ◌∷◌, ◌++◌, append-nil, append_assoc}
use Prim.Native.Nat.{ℕ, zero, suc, ◌+◌, ◌-◌, ◌≤◌, ◌<◌}
use native.Mathlib.Omega.{arith}
use lib.Dec.{leb, leb→le}
use lib.ListN.{length, take, drop, get_or, length-append}
use lib.Seq.{take_at, length-take-le}
use borrow.Author.Tests.{leb-false}
use Rattle.rules.specs.Outcome.{Outcome, done, refused, by, is_done}
use Rattle.rules.specs.Outcome as outcome
use Rattle.rules.specs.Limits.{most_entries, longest_new_record}
use Rattle.rules.specs.Lists.{Bytes, bytes_of, join}
use Rattle.rules.specs.Numbers.{refusal, refusal_number}
use Rattle.rules.specs.Values.{meaning}
use Rattle.rules.specs.Table.{Entry}
use Rattle.rules.specs.Update.{Assignment}
use Rattle.rules.specs.declared.Refusal.{Refusal}
use Rattle.rules.specs.declared.Refusal.TheVariants.{BeyondBuffer}
use Rattle.rules.proofs.Steps.{by_test, not_done, done_inj, refused_inj, from_bind, from_need}
use Rattle.buffer.specs.Splice.{splice}
use Rattle.value_formats.specs.Formats.{format_at}
use Rattle.values.specs.Fits.{converted_length}
use Rattle.values.proofs.Converted.{no_fit, carried_size_is}
use Rattle.filling.specs.Filling.{in_room, Filling}
use Rattle.filling.proofs.Continues.{put_on, put_off}
use Rattle.assignments.specs.Notes.{place_at, bytes_given}
use Rattle.taking.specs.Taking.{RoomEnough, Holds, given_bytes, Gives, Stages, tested_to, noted}
use Rattle.taking.proofs.Firsts.{noted_length, noted_uses, noted_unindexed, firsts_more}
use Rattle.taking.specs.declared.value.Given.{Given}
use Rattle.taking.specs.declared.Taking.{Taking}
use Rattle.taking.proofs.Finding.{value_bad}

-- What is refused in limited room is refused itself, or longer than the room; what is done there is done.
room_refused : (room : ℕ) (o : Outcome Bytes) (n : outcome.Refusal) → in_room room o ≡ refused n → (o ≡ refused n) ⊎ ((b : Bytes) × (o ≡ done b) × (room < length b) × (n.number ≡ 7))
unfolding in_room
room_refused room (done b) n e =
    by_test (leb (length b) room)
    (λ t. absurd (not_done (sym (rw t at e))))
    (λ t. inr (b, refl, leb-false (length b) room t, ap (λ (y : outcome.Refusal). y.number) (sym (refused_inj (rw t at e)))))
room_refused room (refused m) n e = inl e

room_done : (room : ℕ) (o : Outcome Bytes) (b : Bytes) → in_room room o ≡ done b → (o ≡ done b) × (length b ≤ room)
unfolding in_room
room_done room o b e =
    from_bind o _ e λ a p k.
    from_need (leb (length a) room) 7 _ k λ t z.
    (p ∙ z, subst (λ x. length x ≤ room) (done_inj z) (leb→le (length a) room t))

given_more : (ws : List Assignment) (a : Assignment) → length (bytes_given (ws ++ (a ∷ []))) ≡ length (bytes_given ws) + length a.bytes
unfolding join
given_more [] a = omega (arith, ap length (append-nil a.bytes))
given_more (w ∷ ws) a =
    length-append w.bytes (bytes_given (ws ++ (a ∷ []))) ∙ omega (arith, given_more ws a, length-append w.bytes (bytes_given ws))

given_bytes_more : (ws : List Assignment) (a : Assignment) → bytes_given (ws ++ (a ∷ [])) ≡ bytes_given ws ++ a.bytes
unfolding join
given_bytes_more [] a = append-nil a.bytes
given_bytes_more (w ∷ ws) a = ap (λ (bs : Bytes). w.bytes ++ bs) (given_bytes_more ws a) ∙ sym (append_assoc w.bytes (bytes_given ws) a.bytes)

-- What is put after the first n bytes stands there.
take_spliced : (n : ℕ) (b stage : Bytes) → n ≤ length stage → take (n + length b) (splice n b stage) ≡ take n stage ++ b
unfolding splice
take_spliced n b stage h =
    let e : length (take n stage ++ b) ≡ n + length b = length-append (take n stage) b ∙ ap (λ m. m + length b) (length-take-le n stage h) in
    ap (take (n + length b)) (sym (append_assoc (take n stage) b (drop (length b) (drop n stage)))) ∙ take_at (take n stage ++ b) (drop (length b) (drop n stage)) (n + length b) e

-- A converted value has a byte at least.
some_length : (n : ℕ) (s : Bytes) → 1 ≤ converted_length n s
unfolding converted_length
some_length zero s = omega arith
some_length (suc n) s = omega arith

bytes_done : (o : Outcome Bytes) (b : Bytes) → o ≡ done b → bytes_of o ≡ b
unfolding bytes_of
bytes_done o b e = rw e

-- Where a value is put: after what is on the stage, or at its front where the value is only tested.
pub record Begins (s : Taking) (from : ℕ) : Type 0 where
  pub tested : s.full ≡ true → from ≡ 0
  pub staged : s.full ≡ false → from ≡ s.staged

pub begins_at : {s : Taking} {from : ℕ} → ((s.full ≡ true) × (from ≡ 0)) ⊎ ((s.full ≡ false) × (from ≡ s.staged)) → Begins s from
begins_at w = ⊎_elim
    (λ t. record { tested = λ _. t.1; staged = λ e. absurd (true≢false (sym t.0 ∙ e)) })
    (λ t. record { tested = λ e. absurd (true≢false (sym e ∙ t.0)); staged = λ _. t.1 }) w

pub begins_inside : {es : List Entry} {buffer : Bytes} {list : List ℕ} {stage : Bytes} {s : Taking} {ws : List Assignment} {from : ℕ}
    → Holds es buffer list stage s ws → Begins s from → from ≤ length stage
begins_inside {s = s} h g = by_test s.full (λ t. omega (arith, g.tested t)) (λ t. omega (arith, g.staged t, h.within))

-- A value that stands in the buffer up to a place is put to the stage, or tested there, from a place on.
pub record Puts (es : List Entry) (buffer : Bytes) (g : Given) (content : Bytes) (next : ℕ) (s : Taking) (list : List ℕ) (stage : Bytes) (from : ℕ) : Type 0 where
  pub gives : Gives es g
  pub less : s.at < next
  pub within : next ≤ length buffer
  pub room : RoomEnough list stage
  pub begins : Begins s from

module _ {es : List Entry} {buffer : Bytes} {g : Given} {content : Bytes} {next : ℕ} {s : Taking} {list : List ℕ} {stage stage' : Bytes} {from : ℕ} {r : (Result ℕ Refusal)}
    (p : Puts es buffer g content next s list stage from)
    (f : Filling (in_room (length stage - from) (given_bytes g content)) from (not s.full) stage stage' r)
    (o k : ℕ) where
  abbrev there : Outcome Bytes
  there = given_bytes g content

  abbrev assignment : Bytes → Assignment
  assignment b = record { place = place_at es g.entry o k; bare = g.bare; bytes = b }

  some_bytes : (b : Bytes) → there ≡ done b → 1 ≤ length b
  some_bytes b e =
      let q = carried_size_is (format_at g.format) (format_at g.own) g.standard content p.gives.own_allowed (ap is_done e) ∙ ap length (bytes_done there b e) in
      omega (arith, q, some_length g.standard content)

  -- The new record is too long.
  no_more : {ws : List Assignment} → Holds es buffer list stage s ws → (b : Bytes) → longest_new_record < length (bytes_given ws) + length b
      → Holds es buffer list stage' (tested_to next s) (ws ++ (assignment b ∷ []))
  no_more {ws} h b l = record {
    entries = h.entries;
    apart = h.apart;
    place = p.within;
    within = omega (arith, h.within, f.same);
    unindexed = h.unindexed;
    full = λ e. rw (given_more ws (assignment b)) l;
    staged = λ e. absurd (true≢false e);
    bytes = λ e. absurd (true≢false e);
    firsts = λ e. absurd (true≢false e);
  }

  -- Not refused for want of room: what it gives is refused because it means nothing or does not fit.
  not_short : there ≡ refused (by 7) → ⊥
  not_short e =
      by_test (is_done (meaning (format_at g.format) content))
      (λ t. let n : ◌≡◌ {A = ℕ} 9 7 = ap (λ (y : outcome.Refusal). y.number) (refused_inj (sym (no_fit (format_at g.format) (format_at g.own) g.standard content t (ap is_done e)) ∙ e)) in omega arith)
      (λ t. let n : ◌≡◌ {A = ℕ} 8 7 = ap (λ (y : outcome.Refusal). y.number) (refused_inj (sym (value_bad g content t) ∙ e)) in omega arith)

  pub stage_beyond : r ≡ Err BeyondBuffer → Stages es buffer g o k content next s list list stage stage' (Ok (tested_to next s))
  stage_beyond q = record {
    same_list = refl;
    same_stage = f.same;
    same_uses = λ j h. refl;
    moved = λ ws h.
        ⊎_elim (λ e. absurd (not_short e))
        (λ x. (
          x.0,
          x.1,
          refl,
          no_more h x.0 (by_test s.full
              (λ t. omega (arith, h.full t))
              (λ t. omega (arith, x.2, p.begins.staged t, h.staged t, p.room.1))),
        ))
        (room_refused (length stage - from) there (by 7) (put_off f BeyondBuffer q));
  }

  pub stage_refused : (x : Refusal) → (refusal_number x ≡ 7 → ⊥) → r ≡ Err x → Stages es buffer g o k content next s list list stage stage' (Err x)
  stage_refused x n q = record {
    same_list = refl;
    same_stage = f.same;
    same_uses = λ j h. refl;
    moved = λ ws h. ⊎_elim (λ e. e) (λ y. absurd (n y.3)) (room_refused (length stage - from) there (refusal x) (put_off f x q));
  }

  pub stage_tested : (upto : ℕ) → s.full ≡ true → r ≡ Ok upto → Stages es buffer g o k content next s list list stage stage' (Ok (tested_to next s))
  stage_tested upto t q = record {
    same_list = refl;
    same_stage = f.same;
    same_uses = λ j h. refl;
    moved = λ ws h. put_on f upto q λ b e m w. (b, (room_done (length stage - from) there b e).0, refl, no_more h b (omega (arith, h.full t)));
  }

  -- There is room for it.
  module _ (upto : ℕ) (free : s.full ≡ false) (q : r ≡ Ok upto) where
    put_there : {C : Type 0} → ((b : Bytes) → there ≡ done b → upto ≡ s.staged + length b → upto ≤ length stage → stage' ≡ splice s.staged b stage → C) → C
    put_there j = put_on f upto q λ b e m w.
        let x = room_done (length stage - from) there b e in
        let n : from ≡ s.staged = p.begins.staged free in
        let i : 1 ≤ length b = some_bytes b x.0 in
        j b x.0 (omega arith) (omega (arith, x.1)) (w ∙ rw (free, n, bytes_done (done b) b refl))

    pub stage_on : {list' : List ℕ} → list' ≡ noted list g.entry o k from → g.entry < most_entries
        → Stages es buffer g o k content next s list list' stage stage' (Ok (record { at = next; staged = upto; full = false }))
    stage_on {list'} z less = record {
      same_list = ap length z ∙ noted_length list g.entry o k from;
      same_stage = f.same;
      same_uses = λ j h. ap (λ (l : List ℕ). get_or l j 0) z ∙ noted_uses list g.entry o k from less j h;
      moved = λ ws h. put_there λ b e m u w. (
        b,
        e,
        refl,
        record {
          entries = h.entries;
          apart = h.apart;
          place = p.within;
          within = omega (arith, u, f.same);
          unindexed = rw z (noted_unindexed list g.entry o k from less h.unindexed);
          full = λ t. absurd (true≢false (sym t));
          staged = λ _. rw (given_more ws (assignment b)) (omega (arith, m, h.staged free));
          bytes = λ _. given_bytes_more ws (assignment b) ∙ ap (λ (bs : Bytes). bs ++ b) (h.bytes free) ∙ sym (rw (w, m) (take_spliced s.staged b stage h.within));
          firsts = λ _. rw (z, p.begins.staged free, h.staged free) (firsts_more es h.apart list ws (h.firsts free) h.entries p.room.0 g.entry o k p.gives.entry g.bare b);
        },
      );
    }
