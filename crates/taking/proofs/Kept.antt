-- The items of the uses that are kept, a use at a time; and what they give from the start of the record buffer, where nothing is held yet.
use Rattle.std.specs.Prelude.{Err, Ok, Result}
use mathlib.Core.Path.{◌≡◌, refl, sym, ◌∙◌, ap, subst}
use mathlib.Core.Bool.{true, false, true≢false}
use mathlib.Core.List.{List, [], ◌∷◌, ◌++◌, append-nil, append_assoc}
use Prim.Native.Nat.{ℕ, zero, suc, ◌+◌, ◌-◌, ◌*◌, ◌≤◌, ◌<◌}
use native.Mathlib.Omega.{arith}
use native.Mathlib.Numerals.{add-one}
use borrow.Author.Tests.{ltb-true, ltb-false}
use lib.Dec.{ltb}
use lib.ListN.{length, drop, get_or, set, length-set, length-append}
use lib.Seq.{get_or-set_same, get_or-set_other}
use Rattle.rules.specs.Outcome.{done, refused}
use Rattle.rules.specs.Outcome as outcome
use Rattle.rules.specs.Limits.{most_entries, longest_new_record}
use Rattle.rules.specs.Lists.{Bytes, run, join}
use Rattle.rules.specs.Numbers.{refusal}
use Rattle.rules.specs.Table.{Entry, differ, names}
use Rattle.rules.specs.Use.{Place, Item, Use as Meaning, items_of, items}
use Rattle.rules.specs.Update.{Assignment, assigned}
use Rattle.rules.specs.declared.Refusal.{Refusal}
use Rattle.rules.proofs.Steps.{by_test}
use Rattle.rules.proofs.Ranges.{run_first, taking, taking_append, assignments_taking}
use Rattle.rules.proofs.Digits.{Below}
use Rattle.tables.specs.Entries.{Valid, entries_of}
use Rattle.uses.specs.Meant.{use_meant}
use Rattle.uses.specs.Kept.{numbers_kept, use_at, uses_kept, GoodUses}
use Rattle.uses.specs.declared.Use.{Use}
use Rattle.assignments.specs.Notes.{note_bound, note_place, firsts_from, start_noted, place_at, bytes_given, assignments_in, given_first, TakesAt}
use Rattle.taking.specs.Taking.{Holds, Takes, Gave}
use Rattle.taking.specs.declared.Taking.{Taking}

no_items : (g : ℕ → Meaning) (i : ℕ) → items (run g i 0) ≡ []
unfolding items run join
no_items g i = refl

first_items : (g : ℕ → Meaning) (i n : ℕ) → items (run g i (suc n)) ≡ items_of (g i) ++ items (run g (suc i) n)
unfolding items join
first_items g i n = rw (run_first g i n)

-- Uses in two parts.
items_parts : (g : ℕ → Meaning) (i m k j : ℕ) → j ≡ i + m → items (run g i (m + k)) ≡ items (run g i m) ++ items (run g j k)
items_parts g i zero k j e = let x : j ≡ i = omega arith in let z : 0 + k ≡ k = omega arith in rw (no_items g i, x, z)
items_parts g i (suc m) k j e =
    let z : suc m + k ≡ suc (m + k) = omega arith in
    ap (λ (n : ℕ). items (run g i n)) z ∙ first_items g i (m + k) ∙ ap (λ (xs : List Item). items_of (g i) ++ xs) (items_parts g (suc i) m k j (omega arith))
    ∙ sym (append_assoc (items_of (g i)) (items (run g (suc i) m)) (items (run g j k))) ∙ ap (λ (xs : List Item). xs ++ items (run g j k)) (sym (first_items g i m))

-- The items of the uses from number i on.
module _ (es : List Entry) (f : Bytes) (kept : List ℕ) (count : ℕ) where
  abbrev pub left : ℕ → List Item
  left i = items (run (λ j. use_meant es f (use_at kept j)) i (count - i))

  pub left_none : (i : ℕ) → count ≤ i → left i ≡ []
  left_none i h = let e : count - i ≡ 0 = omega arith in rw e (no_items (λ j. use_meant es f (use_at kept j)) i)

  pub left_next : (i : ℕ) (u : Use) → u ≡ use_at kept i → i < count → left i ≡ items_of (use_meant es f u) ++ left (i + 1)
  left_next i u q h =
      let e : count - i ≡ suc (count - (i + 1)) = omega arith in
      rw (q, e, add-one) (first_items (λ j. use_meant es f (use_at kept j)) i (count - suc i))

-- The uses with one more.
pub uses_next : (es : List Entry) (f : Bytes) (kept : List ℕ) (n : ℕ) → items (uses_kept es f kept (n + 1)) ≡ items (uses_kept es f kept n) ++ items_of (use_meant es f (use_at kept n))
unfolding uses_kept
uses_next es f kept n =
    let g : ℕ → Meaning = λ i. use_meant es f (use_at kept i) in
    items_parts g 0 n 1 n (omega arith) ∙ ap (λ (xs : List Item). items (run g 0 n) ++ xs) (first_items g n 0 ∙ ap (λ (xs : List Item). items_of (g n) ++ xs) (no_items g (suc n)) ∙ append-nil (items_of (g n)))

-- All of them, of which one is next.
pub uses_all : (es : List Entry) (f : Bytes) (kept : List ℕ) (count n : ℕ) → n < count
    → items (uses_kept es f kept count) ≡ items (uses_kept es f kept n) ++ (items_of (use_meant es f (use_at kept n)) ++ left es f kept count (n + 1))
unfolding uses_kept
uses_all es f kept count n h =
    let g : ℕ → Meaning = λ i. use_meant es f (use_at kept i) in
    let e : count ≡ n + (count - n) = omega arith in
    ap (λ (m : ℕ). items (run g 0 m)) e ∙ items_parts g 0 n (count - n) n (omega arith) ∙ ap (λ (xs : List Item). items (run g 0 n) ++ xs) (left_next es f kept count n (use_at kept n) refl h)

-- What the first uses gave, and then the next one.
taking_both : (xs ys : List Item) (bs cs ds : Bytes) (own new : List Assignment) → taking xs bs ≡ done (own, cs) → taking ys cs ≡ done (new, ds) → taking (xs ++ ys) bs ≡ done (own ++ new, ds)
taking_both xs ys bs cs ds own new e k = taking_append xs ys bs ∙ rw (e, k)

taking_stops : (xs ys zs : List Item) (bs cs : Bytes) (own : List Assignment) (n : outcome.Refusal) → taking xs bs ≡ done (own, cs) → taking ys cs ≡ refused n → taking (xs ++ (ys ++ zs)) bs ≡ refused n
taking_stops xs ys zs bs cs own n e k = taking_append xs (ys ++ zs) bs ∙ rw (e, taking_append ys zs cs, k)

given_length : (ws vs : List Assignment) → length (bytes_given ws) ≤ length (bytes_given (ws ++ vs))
unfolding join
given_length [] vs = omega arith
given_length (w ∷ ws) vs = omega (arith, given_length ws vs, length-append w.bytes (bytes_given ws), length-append w.bytes (bytes_given (ws ++ vs)))

none_taken : (q : Place) → TakesAt [] q 0
unfolding assigned
none_taken q = refl

first_given : (es : List Entry) (f buffer : Bytes) (kept : List ℕ) (n : ℕ) (ws : List Assignment) (rest : Bytes) → taking (items (uses_kept es f kept n)) buffer ≡ done (ws, rest) → given_first es f kept buffer n ≡ ws
unfolding given_first
first_given es f buffer kept n ws rest e = ap assignments_in e

by_less : {C : Type 0} (k n : ℕ) → k ≤ n → (k < n → C) → (k ≡ n → C) → C
by_less k n h x y = by_test (ltb k n) (λ t. x (ltb-true k n t)) (λ t. y (omega (arith, h, ltb-false k n t)))

-- Where nothing is held yet.
abbrev pub at_first : Taking
at_first = record { at = 0; staged = 0; full = false }

-- The first n uses were gone over: what they gave is held, and where the values of each begin is noted.
pub record Gone (es : List Entry) (f buffer : Bytes) (kept : List ℕ) (n : ℕ) (list₀ list : List ℕ) (stage₀ stage : Bytes) (s : Taking) : Type 0 where
  pub same_list : length list ≡ length list₀
  pub same_stage : length stage ≡ length stage₀
  pub own : List Assignment
  pub given : taking (items (uses_kept es f kept n)) buffer ≡ done (own, drop s.at buffer)
  pub held : Holds es buffer list stage s own
  pub starts : s.full ≡ false → (m : ℕ) → m < n → start_noted list m ≡ length (bytes_given (given_first es f kept buffer m))

module _ {es : List Entry} {f buffer : Bytes} {kept : List ℕ} where
  pub gone_start : {list : List ℕ} {stage : Bytes} → length es ≤ most_entries → differ (names es) ≡ true → ((j : ℕ) → get_or list j 0 ≡ 0)
      → Gone es f buffer kept 0 list list stage stage at_first
  unfolding join run items uses_kept taking
  gone_start {list} {stage} most d z = record {
    same_list = refl;
    same_stage = refl;
    own = [];
    given = refl;
    held = record {
      entries = most;
      apart = d;
      place = omega arith;
      within = omega arith;
      unindexed = ((λ j h. z j), (λ n. z (note_place n + 1)));
      full = λ e. absurd (true≢false (sym e));
      staged = λ _. refl;
      bytes = λ _. refl;
      firsts = λ _ i h g. subst (TakesAt [] (place_at es i 1 1)) (sym (z (firsts_from + i))) (none_taken (place_at es i 1 1));
    };
    starts = λ e m h. absurd (omega (arith, h));
  }

  pub gone_begin : {n : ℕ} {list₀ list : List ℕ} {stage₀ stage : Bytes} {s : Taking} → Gone es f buffer kept n list₀ list stage₀ stage s → note_place (n + 1) ≤ length list
      → {list' : List ℕ} → list' ≡ set list (note_place n) s.staged → Gone es f buffer kept n list₀ list' stage₀ stage s × (s.full ≡ false → start_noted list' n ≡ length (bytes_given (given_first es f kept buffer n)))
  gone_begin {n} {list = list} {stage = stage} {s = s} g h {list'} e =
      let other : (j : ℕ) → (j ≡ note_place n → ⊥) → get_or list' j 0 ≡ get_or list j 0 = λ j d. ap (λ (l : List ℕ). get_or l j 0) e ∙ get_or-set_other list (note_place n) j s.staged 0 d in
      let k = g.held in (
        record {
          same_list = ap length e ∙ length-set list (note_place n) s.staged ∙ g.same_list;
          same_stage = g.same_stage;
          own = g.own;
          given = g.given;
          held = record {
            entries = k.entries;
            apart = k.apart;
            place = k.place;
            within = k.within;
            unindexed = ((λ j l. other j (λ z. omega (arith, z, l)) ∙ k.unindexed.0 j l), (λ m. other (note_place m + 1) (λ z. omega (arith, z)) ∙ k.unindexed.1 m));
            full = k.full;
            staged = k.staged;
            bytes = k.bytes;
            firsts = λ free i l w. subst (TakesAt g.own (place_at es i 1 1)) (sym (other (firsts_from + i) (λ z. omega (arith, z, l, k.entries)))) (k.firsts free i l w);
          };
          starts = λ free m l. other (note_place m) (λ z. omega (arith, z, l)) ∙ g.starts free m l;
        },
        λ free. ap (λ (l : List ℕ). get_or l (note_place n) 0) e ∙ get_or-set_same list (note_place n) s.staged 0 (omega (arith, h)) ∙ k.staged free ∙ ap (λ (ws : List Assignment). length (bytes_given ws)) (sym (first_given es f buffer kept n g.own _ g.given)),
      )

  pub gone_on : {n : ℕ} {list₀ list list' : List ℕ} {stage₀ stage stage' : Bytes} {s s' : Taking} {r : (Result Taking Refusal)} → Gone es f buffer kept n list₀ list stage₀ stage s
      → (s.full ≡ false → start_noted list n ≡ length (bytes_given (given_first es f kept buffer n))) → length stage ≡ longest_new_record
      → Takes es buffer (items_of (use_meant es f (use_at kept n))) s list list' stage stage' r → r ≡ Ok s' → Gone es f buffer kept (n + 1) list₀ list' stage₀ stage' s'
  gone_on {n} {list = list} {list'} {stage = stage} {stage'} {s} {s'} g b l t e =
      let m = rw e at t in
      let y = m.moved g.own g.held in
      let was : s'.full ≡ false → s.full ≡ false = λ free. by_test s.full
      (λ x. absurd (omega (arith, g.held.full x, given_length g.own y.0, y.2.staged free, y.2.within, m.same_stage, l)))
      (λ x. x) in
      record {
        same_list = m.same_list ∙ g.same_list;
        same_stage = m.same_stage ∙ g.same_stage;
        own = g.own ++ y.0;
        given = ap (λ (xs : List Item). taking xs buffer) (uses_next es f kept n) ∙ taking_both _ _ buffer _ _ g.own y.0 g.given y.1;
        held = y.2;
        starts = λ free k h. m.same_uses (note_place k) (omega arith) ∙ by_less k n (omega (arith, h)) (λ x. g.starts (was free) k x) (λ x. rw x (b (was free)));
      }

  pub gone_off : {n count : ℕ} {list₀ list list' : List ℕ} {stage₀ stage stage' : Bytes} {s : Taking} {r : (Result Taking Refusal)} {x : Refusal} → Gone es f buffer kept n list₀ list stage₀ stage s → n < count
      → Takes es buffer (items_of (use_meant es f (use_at kept n))) s list list' stage stage' r → r ≡ Err x → Gave es f buffer kept count list' stage' (Err x)
  gone_off {n} {count} {x = x} g h t e =
      let m = rw e at t in
      assignments_taking (items (uses_kept es f kept count)) buffer
      ∙ rw (uses_all es f kept count n h, taking_stops _ _ (left es f kept count (n + 1)) buffer _ g.own (refusal x) g.given (m.moved g.own g.held))

  pub gone_end : {count : ℕ} {list₀ list : List ℕ} {stage₀ stage : Bytes} {s : Taking} → Gone es f buffer kept count list₀ list stage₀ stage s → GoodUses es f kept count
      → (t : Bytes) → Valid t → es ≡ entries_of t → Below 256 buffer → numbers_kept * count ≤ length kept → note_place count ≤ length list → count < note_bound → length stage ≡ longest_new_record → Gave es f buffer kept count list stage (Ok s)
  gone_end {count} {s = s} g u t v w x k l c m = (
    g.own,
    assignments_taking (items (uses_kept es f kept count)) buffer ∙ rw g.given,
    g.held.full,
    (λ free. record {
      entries = g.held.entries;
      table = t;
      valid = v;
      entries_are = w;
      uses = u;
      kept_room = k;
      room = l;
      few = c;
      buffer = buffer;
      rest = drop s.at buffer;
      small = x;
      given = g.given;
      starts = g.starts free;
      stands = record { staged = s.staged; long = g.held.within; most = omega (arith, m); bytes = g.held.bytes free };
      firsts = g.held.firsts free;
    }),
    g.held.unindexed,
  )
