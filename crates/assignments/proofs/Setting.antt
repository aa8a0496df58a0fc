-- Numbers that are set in a loop: the last occurrence of a span at each of its fields, and the widths of the entries one after the other.
use mathlib.Core.Path.{◌≡◌, refl, sym, ap, ◌∙◌}
use mathlib.Core.Bool.{true, false}
use mathlib.Core.List.{List}
use Prim.Native.Nat.{ℕ, suc, ◌+◌, ◌*◌, ◌<◌, ◌≤◌, max}
use native.Mathlib.Omega.{arith}
use native.Mathlib.Numerals.{add-one}
use lib.Dec.{eqb}
use lib.ListN.{length, get_or, set, length-set}
use lib.Seq.{get_or-set_same, get_or-set_other}
use borrow.Author.Tests.{eqb-true, eqb-false}
use Rattle.rules.specs.Limits.{most_entries}
use Rattle.rules.specs.Table.{Entry}
use Rattle.rules.proofs.Steps.{by_test}
use Rattle.tables.specs.Entries.{blank, is_group, size_of}
use Rattle.uses.specs.declared.Span.{Span}
use Rattle.assignments.specs.Notes.{highest_from, widths_from, uses_from, note_place, width_noted, width_before}
use Rattle.assignments.specs.Answers.{entry_marked, Marked, Widened}

-- One entry is marked.
module _ (es : List Entry) (list : List ℕ) (i upto : ℕ) where
  marked_group : is_group (get_or es i blank).what ≡ true → list ≡ entry_marked es list i upto
  unfolding entry_marked
  marked_group g = rw g

  marked_field : is_group (get_or es i blank).what ≡ false → entry_marked es list i upto ≡ set list (highest_from + i) (max (get_or list (highest_from + i) 0) upto)
  unfolding entry_marked
  marked_field g = rw g

  marked_length : length (entry_marked es list i upto) ≡ length list
  marked_length = by_test (is_group (get_or es i blank).what)
      (λ g. ap length (sym (marked_group g)))
      (λ g. ap length (marked_field g) ∙ length-set list (highest_from + i) (max (get_or list (highest_from + i) 0) upto))

  marked_at : is_group (get_or es i blank).what ≡ false → highest_from + i < length list
      → get_or (entry_marked es list i upto) (highest_from + i) 0 ≡ max (get_or list (highest_from + i) 0) upto
  marked_at g h =
      ap (λ l. get_or l (highest_from + i) 0) (marked_field g)
      ∙ get_or-set_same list (highest_from + i) (max (get_or list (highest_from + i) 0) upto) 0 h

  marked_elsewhere : (j : ℕ) → (is_group (get_or es i blank).what ≡ false → j ≡ highest_from + i → ⊥) → get_or (entry_marked es list i upto) j 0 ≡ get_or list j 0
  marked_elsewhere j d = by_test (is_group (get_or es i blank).what)
      (λ g. ap (λ l. get_or l j 0) (sym (marked_group g)))
      (λ g. ap (λ l. get_or l j 0) (marked_field g) ∙ get_or-set_other list (highest_from + i) j (max (get_or list (highest_from + i) 0) upto) 0 (d g))

-- The entries of a span before entry i are marked.
pub record Marking (es : List Entry) (s : Span) (list after : List ℕ) (i : ℕ) : Type 0 where
  pub same : length after ≡ length list
  pub from : s.first ≤ i
  pub within : (k : ℕ) → s.first ≤ k → k < i → k < s.end
  pub inside : (k : ℕ) → s.first ≤ k → k < i → is_group (get_or es k blank).what ≡ false
      → get_or after (highest_from + k) 0 ≡ max (get_or list (highest_from + k) 0) s.upto
  pub outside : (j : ℕ) → ((k : ℕ) → s.first ≤ k → k < i → is_group (get_or es k blank).what ≡ false → j ≡ highest_from + k → ⊥) → get_or after j 0 ≡ get_or list j 0

pub marking_start : (es : List Entry) (s : Span) (list : List ℕ) → Marking es s list list s.first
marking_start es s list = record {
  same = refl;
  from = omega arith;
  within = λ k a b. absurd (omega arith);
  inside = λ k a b g. absurd (omega arith);
  outside = λ j d. refl;
}

module _ {es : List Entry} {s : Span} {list mid : List ℕ} {i : ℕ} (m : Marking es s list mid i) where
  pub marking_turn : {after : List ℕ} → i < s.end → highest_from + i < length list → after ≡ entry_marked es mid i s.upto → Marking es s list after (i + 1)
  marking_turn h b e = rw e record {
    same = marked_length es mid i s.upto ∙ m.same;
    from = omega (arith, m.from);
    within = λ k x y. by_test (eqb k i) (λ t. let q = eqb-true k i t in omega arith) (λ t. m.within k x (let q = eqb-false k i t in omega arith));
    inside = λ k x y g. by_test (eqb k i)
        (λ t.
        let q = eqb-true k i t in
        let old : get_or mid (highest_from + k) 0 ≡ get_or list (highest_from + k) 0 = m.outside (highest_from + k) (λ n a c _ r. absurd (omega arith)) in
        rw q (marked_at es mid i s.upto (rw (← q) g) (omega (arith, m.same)) ∙ rw (← q) (ap (λ n. max n s.upto) old)))
        (λ t. let q = eqb-false k i t in marked_elsewhere es mid i s.upto (highest_from + k) (λ _ r. q (omega arith)) ∙ m.inside k x (omega arith) g);
    outside = λ j d. marked_elsewhere es mid i s.upto j (λ g r. d i m.from (omega arith) g r) ∙ m.outside j (λ k x y g r. d k x (omega arith) g r);
  }

  pub marking_end : s.end ≤ i → Marked es s list mid
  marking_end h = record {
    same = m.same;
    inside = λ k x y g. m.inside k x (omega arith) g;
    outside = λ j d. m.outside j (λ k x y g r. d k x (m.within k x y) g r);
  }

-- The widths of the first i entries are noted.
pub record Widening (es : List Entry) (list after : List ℕ) (width i : ℕ) : Type 0 where
  pub upto : i ≤ length es
  pub same : length after ≡ length list
  pub is : width ≡ width_before es i
  pub small : width ≤ 255 * i
  pub widths : (k : ℕ) → k ≤ i → width_noted after k ≡ width_before es k
  pub others : (j : ℕ) → (widths_from ≤ j → j < uses_from → ⊥) → get_or after j 0 ≡ get_or list j 0

pub widening_start : (es : List Entry) (list : List ℕ) → uses_from ≤ length list → Widening es (set list widths_from 0) (set list widths_from 0) 0 0
unfolding width_before
widening_start es list h = record {
  upto = omega arith;
  same = refl;
  is = refl;
  small = omega arith;
  widths = λ k b. let q : k ≡ 0 = omega arith in rw q (get_or-set_same list widths_from 0 0 (omega arith));
  others = λ j d. refl;
}

width_more : (es : List Entry) (i : ℕ) → width_before es (suc i) ≡ width_before es i + size_of (get_or es i blank).what
unfolding width_before
width_more es i = refl

module _ {es : List Entry} {list mid : List ℕ} {width i : ℕ} (w : Widening es list mid width i) where
  pub widening_turn : (r : ℕ) → i < length es → length es ≤ most_entries → uses_from ≤ length list → r ≡ size_of (get_or es i blank).what → r < 256
      → Widening es list (set mid (widths_from + (i + 1)) (width + r)) (width + r) (i + 1)
  widening_turn r h most room e small =
      let wide : width + r ≡ width_before es (suc i) = omega (arith, w.is, width_more es i) in
      record {
        upto = omega arith;
        same = length-set mid (widths_from + (i + 1)) (width + r) ∙ w.same;
        is = rw (add-one i) wide;
        small = omega (arith, w.small);
        widths = λ k b. by_test (eqb k (i + 1))
            (λ t. let q = eqb-true k (i + 1) t in rw q (get_or-set_same mid (widths_from + (i + 1)) (width + r) 0 (omega (arith, w.same)) ∙ rw (add-one i) wide))
            (λ t. let q = eqb-false k (i + 1) t in get_or-set_other mid (widths_from + (i + 1)) (widths_from + k) (width + r) 0 (λ p. q (omega arith)) ∙ w.widths k (omega arith));
        others = λ j d. get_or-set_other mid (widths_from + (i + 1)) j (width + r) 0 (λ p. d (omega arith) (omega arith)) ∙ w.others j d;
      }

module _ {es : List Entry} (list : List ℕ) {after : List ℕ} {width i : ℕ} (w : Widening es (set list widths_from 0) after width i) where
  kept_beside : (j : ℕ) → (widths_from ≤ j → j < uses_from → ⊥) → get_or after j 0 ≡ get_or list j 0
  kept_beside j d = w.others j d ∙ get_or-set_other list widths_from j 0 0 (λ e. d (omega arith) (omega arith))

  pub widening_same : length after ≡ length list
  widening_same = w.same ∙ length-set list widths_from 0

  pub widening_end : length es ≤ i → Widened es list after
  widening_end h = record {
    same = widening_same;
    widths = λ k b. w.widths k (omega arith);
    others = λ j b. kept_beside j (λ p q. absurd (omega arith));
    notes = λ n. kept_beside (note_place n) (λ p q. absurd (omega arith));
    nexts = λ n. kept_beside (note_place n + 1) (λ p q. absurd (omega arith));
  }
