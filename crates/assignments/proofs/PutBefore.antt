-- One use is put before those of its chain, and the highest occurrence noted of its fields is that of the uses; nothing else is changed.
use mathlib.Core.Path.{◌≡◌, refl, sym, subst, ◌∙◌}
use mathlib.Core.Bool.{true, false}
use mathlib.Core.List.{List}
use Prim.Native.Nat.{ℕ, suc, ◌+◌, ◌<◌, ◌≤◌, max}
use native.Mathlib.Omega.{arith}
use native.Mathlib.Numerals.{add-one}
use lib.Dec.{ltb}
use lib.ListN.{length, get_or, set, length-set}
use lib.Seq.{get_or-set_same, get_or-set_other}
use borrow.Author.Tests.{lt-ltb, le-ltb, ltb-true, ltb-false, le-leb, lt-leb}
use Rattle.rules.specs.Limits.{most_entries}
use Rattle.rules.specs.Table.{Entry}
use Rattle.rules.proofs.Steps.{by_test, not_both}
use Rattle.tables.specs.Entries.{blank, is_group}
use Rattle.uses.specs.declared.Span.{Span}
use Rattle.uses.specs.declared.Use.{Use}
use Rattle.uses.specs.declared.Use.TheVariants as code
use Rattle.assignments.specs.Notes.{cell_chains, field_chains, group_chain, chains, highest_from, firsts_from, note_place, highest_noted, first_noted, start_noted, next_noted, cell_chain, span_chain, use_chain, use_reach}
use Rattle.assignments.specs.Answers.{Marked, linked, Links, CanLink}

-- The chain of a span, by the tests that lead to it.
pub cell_low : (i o : ℕ) → cell_chain i o < cell_chains
unfolding cell_chain
cell_low i o = omega arith

module _ (s : Span) where
  pub chain_several : s.first + 1 < s.end → group_chain ≡ span_chain s
  unfolding span_chain
  chain_several h = rw (lt-ltb (s.first + 1) s.end h)

  pub chain_occurrences : s.end ≤ s.first + 1 → s.from < s.upto → field_chains + s.first ≡ span_chain s
  unfolding span_chain
  chain_occurrences h k = rw (le-ltb (s.first + 1) s.end h, lt-ltb s.from s.upto k)

  pub chain_cell : s.end ≤ s.first + 1 → s.upto ≤ s.from → cell_chain s.first s.from ≡ span_chain s
  unfolding span_chain
  chain_cell h k = rw (le-ltb (s.first + 1) s.end h, le-ltb s.from s.upto k)

  -- It is one of the chains.
  pub chain_low : s.first < s.end → s.end ≤ most_entries → span_chain s < chains
  chain_low a b = by_test (ltb (s.first + 1) s.end)
      (λ t. let e = chain_several (ltb-true (s.first + 1) s.end t) in omega arith)
      (λ f.
      let h = ltb-false (s.first + 1) s.end f in
      by_test (ltb s.from s.upto)
      (λ t. let e = chain_occurrences h (ltb-true s.from s.upto t) in omega arith)
      (λ g. let e = chain_cell h (ltb-false s.from s.upto g) in let l = cell_low s.first s.from in omega arith))

  chain_used : use_chain (code.Values s) ≡ span_chain s
  unfolding use_chain
  chain_used = refl

  reach_in : (i : ℕ) → s.first ≤ i → i < s.end → use_reach (code.Values s) i ≡ s.upto
  unfolding use_reach
  reach_in i a b = rw (le-leb s.first i a, lt-ltb i s.end b)

  reach_below : (i : ℕ) → i < s.first → use_reach (code.Values s) i ≡ 0
  unfolding use_reach
  reach_below i a = rw (lt-leb s.first i a)

  reach_above : (i : ℕ) → s.first ≤ i → s.end ≤ i → use_reach (code.Values s) i ≡ 0
  unfolding use_reach
  reach_above i a b = rw (le-leb s.first i a, le-ltb i s.end b)

-- Use n is before those of its chain, and its last occurrence is among those of its fields; nothing else is changed.
pub record PutBefore (es : List Entry) (n : ℕ) (u : Use) (list after : List ℕ) : Type 0 where
  pub same : length after ≡ length list
  pub starts : (k : ℕ) → start_noted after k ≡ start_noted list k
  pub firsts : (i : ℕ) → i < most_entries → first_noted after i ≡ first_noted list i
  pub nexts : (k : ℕ) → (k ≡ n → ⊥) → next_noted after k ≡ next_noted list k
  pub own : (x : ℕ) → x < chains → use_chain u ≡ x → (get_or after x 0 ≡ suc n) × (next_noted after n ≡ get_or list x 0)
  pub other : (x : ℕ) → x < chains → (use_chain u ≡ x → ⊥) → get_or after x 0 ≡ get_or list x 0
  pub alone : chains ≤ use_chain u → next_noted after n ≡ next_noted list n
  pub reach : (i : ℕ) → i < length es → is_group (get_or es i blank).what ≡ false → highest_noted after i ≡ max (highest_noted list i) (use_reach u i)
  pub groups : (i : ℕ) → i < length es → is_group (get_or es i blank).what ≡ true → highest_noted after i ≡ highest_noted list i

module _ (list : List ℕ) (n : ℕ) (s : Span) where
  pub linked_length : length (linked n s list) ≡ length list
  linked_length = length-set (set list (note_place n + 1) (get_or list (span_chain s) 0)) (span_chain s) (n + 1) ∙ length-set list (note_place n + 1) (get_or list (span_chain s) 0)

  linked_other : (j : ℕ) → (j ≡ span_chain s → ⊥) → (j ≡ note_place n + 1 → ⊥) → get_or (linked n s list) j 0 ≡ get_or list j 0
  linked_other j p q =
      get_or-set_other (set list (note_place n + 1) (get_or list (span_chain s) 0)) (span_chain s) j (n + 1) 0 p
      ∙ get_or-set_other list (note_place n + 1) j (get_or list (span_chain s) 0) 0 q

  linked_head : span_chain s < length list → get_or (linked n s list) (span_chain s) 0 ≡ n + 1
  linked_head h =
      get_or-set_same (set list (note_place n + 1) (get_or list (span_chain s) 0)) (span_chain s) (n + 1) 0
      (rw (length-set list (note_place n + 1) (get_or list (span_chain s) 0)) h)

  linked_next : span_chain s < chains → note_place n + 1 < length list → next_noted (linked n s list) n ≡ get_or list (span_chain s) 0
  linked_next h r =
      get_or-set_other (set list (note_place n + 1) (get_or list (span_chain s) 0)) (span_chain s) (note_place n + 1) (n + 1) 0 (λ e. absurd (omega arith))
      ∙ get_or-set_same list (note_place n + 1) (get_or list (span_chain s) 0) 0 r

module _ {es : List Entry} {n : ℕ} {s : Span} {list after : List ℕ} (c : CanLink es n s list) (m : Marked es s (linked n s list) after) where
  low : span_chain s < chains
  low = let (a, b) = c.entries in chain_low s a (omega (arith, c.most))

  -- What is neither the head, nor the next one, nor the highest occurrence of a field of the span.
  kept_elsewhere : (j : ℕ) → (j ≡ span_chain s → ⊥) → (j ≡ note_place n + 1 → ⊥)
      → ((i : ℕ) → s.first ≤ i → i < s.end → is_group (get_or es i blank).what ≡ false → j ≡ highest_from + i → ⊥) → get_or after j 0 ≡ get_or list j 0
  kept_elsewhere j p q r = m.outside j r ∙ linked_other list n s j p q

  heights_end : (i : ℕ) → i < s.end → i < most_entries
  heights_end i h = let (a, b) = c.entries in omega (arith, c.most)

  high_kept : (i : ℕ) → i < most_entries → (s.first ≤ i → i < s.end → is_group (get_or es i blank).what ≡ false → ⊥) → highest_noted after i ≡ highest_noted list i
  high_kept i h d = kept_elsewhere (highest_from + i) (λ e. absurd (omega (arith, low))) (λ e. absurd (omega arith))
      (λ k a b g e. let q : i ≡ k = omega arith in d (omega arith) (omega arith) (rw q g))

  put_reach : (i : ℕ) → i < length es → is_group (get_or es i blank).what ≡ false → highest_noted after i ≡ max (highest_noted list i) (use_reach (code.Values s) i)
  put_reach i h g =
      let b : i < most_entries = omega (arith, c.most) in
      by_test (ltb i s.first)
      (λ t.
      let l = ltb-true i s.first t in
      high_kept i b (λ p q _. absurd (omega arith)) ∙ omega (arith, reach_below s i l))
      (λ f.
      let l = ltb-false i s.first f in
      by_test (ltb i s.end)
      (λ t.
      let u = ltb-true i s.end t in
      let old = linked_other list n s (highest_from + i) (λ e. absurd (omega (arith, low))) (λ e. absurd (omega arith)) in
      m.inside i l u g ∙ omega (arith, old, reach_in s i l u))
      (λ f₂.
      let u = ltb-false i s.end f₂ in
      high_kept i b (λ p q _. absurd (omega arith)) ∙ omega (arith, reach_above s i l u)))

  pub put_values : PutBefore es n (code.Values s) list after
  put_values = record {
    same = m.same ∙ linked_length list n s;
    starts = λ k. kept_elsewhere (note_place k) (λ e. absurd (omega (arith, low))) (λ e. absurd (omega arith)) (λ i a b g e. absurd (omega (arith, heights_end i b)));
    firsts = λ i h. kept_elsewhere (firsts_from + i) (λ e. absurd (omega (arith, low))) (λ e. absurd (omega arith)) (λ k a b g e. absurd (omega (arith, heights_end k b)));
    nexts = λ k d. kept_elsewhere (note_place k + 1) (λ e. absurd (omega (arith, low))) (λ e. d (omega arith)) (λ i a b g e. absurd (omega (arith, heights_end i b)));
    own = λ x h e.
        let q : span_chain s ≡ x = sym (chain_used s) ∙ e in (
          rw (← q) (m.outside (span_chain s) (λ i a b g r. absurd (omega (arith, low))) ∙ linked_head list n s (omega (arith, low, c.room)) ∙ add-one n),
          rw (← q) (m.outside (note_place n + 1) (λ i a b g r. absurd (omega (arith, heights_end i b))) ∙ linked_next list n s low (omega (arith, c.room))),
        );
    other = λ x h d. kept_elsewhere x (λ e. d (chain_used s ∙ sym e)) (λ e. absurd (omega arith)) (λ i a b g e. absurd (omega arith));
    alone = λ h. absurd (omega (arith, low, chain_used s));
    reach = put_reach;
    groups = λ i h g. high_kept i (omega (arith, c.most)) (λ a b f. not_both (sym f ∙ g));
  }

-- A use of another kind is in no chain.
module _ {es : List Entry} {n : ℕ} {list after : List ℕ} (u : Use) (h : use_chain u ≡ chains) (r : (i : ℕ) → use_reach u i ≡ 0) (e : after ≡ list) where
  put_nothing : PutBefore es n u list after
  put_nothing = rw e record {
    same = refl;
    starts = λ k. refl;
    firsts = λ i b. refl;
    nexts = λ k d. refl;
    own = λ x b q. absurd (omega (arith, h));
    other = λ x b d. refl;
    alone = λ b. refl;
    reach = λ i b g. omega (arith, r i);
    groups = λ i b g. refl;
  }

pub put_linked : {es : List Entry} {n : ℕ} {list after : List ℕ} (u : Use) → ((s : Span) → u ≡ code.Values s → CanLink es n s list) → Links es n u list after → PutBefore es n u list after
unfolding use_chain use_reach
put_linked (code.Values s) c l = put_values (c s refl) l
put_linked (code.Blanks m) c l = put_nothing (code.Blanks m) refl (λ i. refl) l
put_linked (code.Text from upto) c l = put_nothing (code.Text from upto) refl (λ i. refl) l
put_linked (code.GroupCount i) c l = put_nothing (code.GroupCount i) refl (λ i. refl) l
put_linked (code.ValueCount i k) c l = put_nothing (code.ValueCount i k) refl (λ i. refl) l

-- The list as the code puts it, by the chain that it was told; and a use as it was told, which is one of values or not.
pub marked_linked : {es : List Entry} {s : Span} {after : List ℕ} (n : ℕ) (list : List ℕ) (chain : ℕ) → chain ≡ span_chain s
    → Marked es s (set (set list (note_place n + 1) (get_or list chain 0)) chain (n + 1)) after → Marked es s (linked n s list) after
marked_linked {es} {s} {after} n list chain e m = subst (λ (x : ℕ). Marked es s (set (set list (note_place n + 1) (get_or list x 0)) x (n + 1)) after) e m

pub links_as : (es : List Entry) (n : ℕ) (list after : List ℕ) {r u : Use} (v : Use) → r ≡ u → r ≡ v → Links es n v list after → Links es n u list after
links_as es n list after v e h l = subst (λ (w : Use). Links es n w list after) (sym h ∙ e) l

pub links_other : (es : List Entry) (n : ℕ) (list : List ℕ) {r u : Use} → r ≡ u → ((s : Span) → r ≡ code.Values s → ⊥) → Links es n u list list
links_other es n list {u = code.Values s} e d = absurd (d s e)
links_other es n list {u = code.Blanks m} e d = refl
links_other es n list {u = code.Text from upto} e d = refl
links_other es n list {u = code.GroupCount i} e d = refl
links_other es n list {u = code.ValueCount i k} e d = refl
