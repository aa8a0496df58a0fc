-- Boxes that hold what the uses so far name: one that is widened holds what it held, and a span that meets no box of its entries was not named before.
use mathlib.Core.Path.{◌≡◌, refl, sym, ap, subst, ◌∙◌}
use mathlib.Core.Bool.{true, false, true≢false}
use mathlib.Core.List.{List}
use Prim.Native.Nat.{ℕ, ◌+◌, ◌<◌, ◌≤◌}
use native.Mathlib.Omega.{arith}
use borrow.Author.Tests.{le-leb, eqb-true, eqb-false}
use lib.Dec.{eqb, leb, leb→le}
use lib.ListN.{length, get_or, set, length-set}
use lib.Seq.{get_or-set_same, get_or-set_other}
use Rattle.rules.specs.Table.{Entry}
use Rattle.rules.specs.Update.{meet, name_alike}
use Rattle.rules.proofs.Bools.{and_both}
use Rattle.rules.proofs.Steps.{by_test, true_T}
use Rattle.buffer.proofs.Cases.{by_order}
use Rattle.tables.specs.Entries.{blank}
use Rattle.format_buffer.specs.Elements.{range}
use Rattle.uses.specs.Meant.{use_meant, GoodSpan, GoodSpanOf}
use Rattle.uses.specs.Kept.{use_at}
use Rattle.uses.specs.Twice.{GoodSpans, Alike, Met}
use Rattle.uses.specs.Boxes.{empty_box, box_at, Clear, BoxHolds, Widens, Held, Marks, Boxed, BoxesMore}
use Rattle.uses.specs.declared.boxes.EntryBox.{EntryBox}
use Rattle.uses.specs.declared.Span.{Span}
use Rattle.uses.specs.declared.Use.{Use}
use Rattle.uses.specs.declared.Use.TheVariants as code
use Rattle.uses.proofs.Spreading.{ordered_within}
use Rattle.uses.proofs.Sharing.{from_shared, spans_met, one_left}
use Rattle.uses.proofs.Meeting.{none_before}

-- The boxes of a span's entries, one after the other.
module _ (bs : List EntryBox) (s : Span) where
  pub marks_start : Marks bs bs s s.first
  marks_start = record { same = refl; held = λ j a b. absurd (omega arith); wider = λ j x h. h }

  pub marks_more : {bs' : List EntryBox} {b : EntryBox} (j : ℕ) → j < length bs → Marks bs bs' s j → Widens (box_at bs' j) b s → Marks bs (set bs' j b) s (j + 1)
  marks_more {bs'} {b} j h m w =
      let here = sym (get_or-set_same bs' j b empty_box (omega (arith, h, m.same))) in
      let other : (k : ℕ) → (k ≡ j → ⊥) → box_at bs' k ≡ box_at (set bs' j b) k = λ k n. sym (get_or-set_other bs' j k b empty_box n) in
      record {
        same = length-set bs' j b ∙ m.same;
        held = λ k a l. by_order k j
            (λ q. subst (λ x. BoxHolds x s) (other k (λ e. omega arith)) (m.held k a q))
            (λ q. let e : j ≡ k = omega arith in subst (λ i. BoxHolds (box_at (set bs' j b) i) s) e (subst (λ x. BoxHolds x s) here w.holds));
        wider = λ k x g. by_test (eqb j k)
            (λ t. let e = eqb-true j k t in subst (λ i. BoxHolds (box_at (set bs' j b) i) x) e (subst (λ y. BoxHolds y x) here (w.wider x (subst (λ i. BoxHolds (box_at bs' i) x) (sym e) (m.wider k x g)))))
            (λ t. subst (λ y. BoxHolds y x) (other k (λ e. eqb-false j k t (sym e))) (m.wider k x g));
      }

  pub marks_end : {bs' : List EntryBox} (j end : ℕ) → end ≤ j → Marks bs bs' s j → Marks bs bs' s end
  marks_end j end l m = record { same = m.same; held = λ k a b. m.held k a (omega arith); wider = m.wider }

-- The uses that the boxes hold, with one more.
values_inj : {s x : Span} → code.Values s ≡ code.Values x → s ≡ x
values_inj e = cc

module _ (kept : List ℕ) (n : ℕ) (bs : List EntryBox) where
  pub boxes_same : (u : Use) → u ≡ use_at kept n → ((s : Span) → u ≡ code.Values s → ⊥) → BoxesMore kept n bs bs
  boxes_same u v h = record {
    same = refl;
    boxed = λ w i x g e.
        by_order i n
        (λ l. w i x l e)
        (λ l. let q : n ≡ i = omega arith in absurd (h x (v ∙ ap (use_at kept) q ∙ e)));
  }

  pub boxes_span : {bs' : List EntryBox} (s : Span) → use_at kept n ≡ code.Values s → Marks bs bs' s s.end → BoxesMore kept n bs bs'
  boxes_span {bs'} s v m = record {
    same = m.same;
    boxed = λ w i x h e.
        by_order i n
        (λ l j a b. m.wider j x (w i x l e j a b))
        (λ l.
        let q : n ≡ i = omega arith in
        let z : s ≡ x = values_inj (sym v ∙ ap (use_at kept) q ∙ e) in
        subst (λ (y : Span). Held bs' y y.end) z m.held);
  }

pub span_positive : {es : List Entry} {s : Span} → GoodSpan es s → (0 < s.upto) × (0 < s.value_upto)
span_positive {es} {s} h =
    let o = ordered_within (range s.from s.upto) h.occurrences in
    let v = ordered_within (range s.value_from s.value_upto) h.values in
    (omega (arith, o.0, o.1), omega (arith, v.0, v.1))

-- A range that is wider meets what the range meets.
meet_wider : (l from upto h x y : ℕ) → l ≤ from → upto ≤ h → meet (range from upto) (range x y) ≡ true → meet (range l h) (range x y) ≡ true
unfolding meet
meet_wider l from upto h x y p q e =
    let both = and_both (leb from y) (leb x upto) e in
    let a = leb→le from y (true_T both.0) in
    let b = leb→le x upto (true_T both.1) in
    rw (le-leb l y (omega arith), le-leb x h (omega arith))

-- A span that meets no box of its entries names nothing that is held.
module _ (es : List Entry) (one : (j k : ℕ) → j < length es → k < length es → (get_or es j blank).name ≡ (get_or es k blank).name → j ≡ k)
    (bs : List EntryBox) {s : Span} (k : GoodSpan es s) (clear : Clear bs s s.end) where
  clear_alike : {a : Span} → GoodSpan es a → Held bs a a.end → Alike es (code.Values a) (code.Values s) false
  clear_alike {a} h held f =
      by_test (name_alike (use_meant es f (code.Values a)) (use_meant es f (code.Values s)))
      (λ t.
      let x = and_both _ _ (sym (spans_met h k f) ∙ t) in
      let y = and_both _ _ x.0 in
      from_shared es a.first a.end s.first s.end h.upto k.upto one y.0 λ j p q r u g.
      let w = held j p q in
      absurd (true≢false (sym (rw (
        meet_wider _ a.from a.upto _ s.from s.upto w.from w.upto y.1,
        meet_wider _ a.value_from a.value_upto _ s.value_from s.value_upto w.value_from w.value_upto x.1,
      )) ∙ clear j r u)))
      (λ t. sym t)

  module _ (kept : List ℕ) (n : ℕ) (spans : GoodSpans es kept n) (boxed : Boxed kept n bs) where
    each : (i : ℕ) → i < n → (v : Use) → use_at kept i ≡ v → GoodSpanOf es v → Alike es v (code.Values s) false
    each i l (code.Blanks m) e g f = sym (one_left _ _)
    each i l (code.Text from upto) e g f = sym (one_left _ _)
    each i l (code.GroupCount m) e g f = sym (one_left _ _)
    each i l (code.ValueCount m o) e g f = sym (one_left _ _)
    each i l (code.Values a) e g f = clear_alike g (boxed i a l e) f

    pub clear_met : Met es kept n (code.Values s) false
    clear_met = none_before es kept (code.Values s) n (λ i l. each i l (use_at kept i) refl (spans i l))
