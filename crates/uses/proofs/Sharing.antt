-- Two spans of entries have a field in common where one entry of both is a field: names differ.
use mathlib.Core.Path.{◌≡◌, refl, sym, ap, subst, ◌∙◌}
use mathlib.Core.Bool.{Bool, true, false, ◌&&◌, ◌||◌, and-true, and-false, or-true, true≢false}
use mathlib.Core.List.{List, [], ◌∷◌}
use Prim.Native.Nat.{ℕ, zero, suc, ◌+◌, ◌-◌, ◌<◌, ◌≤◌, max, min}
use native.Mathlib.Omega.{arith}
use lib.Dec.{eqb, eqb→eq}
use lib.ListN.{length, get_or}
use Rattle.rules.specs.Lists.{Bytes, any}
use Rattle.rules.specs.Table.{Entry}
use Rattle.rules.specs.Use.{Asked, as_stored}
use Rattle.rules.specs.Use as rules
use Rattle.rules.specs.Update.{meet, share, name_alike}
use Rattle.rules.proofs.Steps.{by_test, true_T, eqb_same}
use Rattle.buffer.proofs.Cases.{by_order}
use Rattle.tables.specs.Entries.{blank, is_group}
use Rattle.tables.specs.Groups.{field_at}
use Rattle.tables.proofs.EntryFields.{name_at}
use Rattle.format_buffer.specs.Elements.{range}
use Rattle.tables.proofs.Known.{one_entry}
use Rattle.uses.specs.Meant.{fields_from, asked_of, use_meant, GoodSpan}
use Rattle.uses.specs.Twice.{stored_fields, Alike}
use Rattle.uses.specs.declared.Span.{Span}
use Rattle.uses.specs.declared.Use.TheVariants.{Values}
use Rattle.uses.proofs.SpanFields.{no_entry, field_entry, group_entry, asked_one, asked_stored}

stored_name : (es : List Entry) (k : ℕ) → (as_stored (field_at es k)).field.name ≡ (get_or es k blank).name
unfolding as_stored
stored_name es k = name_at es k

-- One of a list meets a test: the first, or another.
pub from_or : {C : Type 0} (a b : Bool) → (a || b) ≡ true → (a ≡ true → C) → (b ≡ true → C) → C
from_or true b e k l = k refl
from_or false b e k l = l e

any_none : {A : Type 0} (p : A → Bool) → any p [] ≡ false
unfolding any
any_none p = refl

any_more : {A : Type 0} (p : A → Bool) (x : A) (xs : List A) → any p (x ∷ xs) ≡ (p x || any p xs)
unfolding any
any_more p x xs = refl

module _ (es : List Entry) (p : Asked → Bool) where
  none_stored : (k end : ℕ) → end ≤ k → any p (stored_fields es k end) ≡ false
  none_stored k end h = rw (no_entry es k end h) (any_none p)

  module _ (k end : ℕ) (h : k < end) (l : end ≤ length es) where
    field_stored : is_group (get_or es k blank).what ≡ false → any p (stored_fields es k end) ≡ (p (as_stored (field_at es k)) || any p (stored_fields es (k + 1) end))
    field_stored g = rw (field_entry es k end h l g) (any_more p _ _)

    group_stored : is_group (get_or es k blank).what ≡ true → any p (stored_fields es k end) ≡ any p (stored_fields es (k + 1) end)
    group_stored g = rw (group_entry es k end h l g)

  -- A field that meets a test is one of the entries; and one of the entries that does, is a field that does.
  from_any : {C : Type 0} (n k end : ℕ) → end ≤ k + n → end ≤ length es → any p (stored_fields es k end) ≡ true
      → ((i : ℕ) → k ≤ i → i < end → is_group (get_or es i blank).what ≡ false → p (as_stored (field_at es i)) ≡ true → C) → C
  from_any zero k end s l e c = absurd (true≢false (sym e ∙ none_stored k end (omega arith)))
  from_any (suc n) k end s l e c =
      by_order k end
      (λ h. by_test (is_group (get_or es k blank).what)
      (λ g. from_any n (k + 1) end (omega arith) l (sym (group_stored k end h l g) ∙ e) (λ i a. c i (omega arith)))
      (λ g. from_or _ _ (sym (field_stored k end h l g) ∙ e)
      (λ t. c k (omega arith) h g t)
      (λ t. from_any n (k + 1) end (omega arith) l t (λ i a. c i (omega arith)))))
      (λ h. absurd (true≢false (sym e ∙ none_stored k end h)))

  any_at : (n k end i : ℕ) → i ≡ k + n → i < end → end ≤ length es → is_group (get_or es i blank).what ≡ false → p (as_stored (field_at es i)) ≡ true
      → any p (stored_fields es k end) ≡ true
  any_at zero k end i s h l g t =
      let e : i ≡ k = omega arith in
      subst (λ j. any p (stored_fields es j end) ≡ true) e (field_stored i end h l g ∙ rw t)
  any_at (suc n) k end i s h l g t =
      let r = any_at n (k + 1) end i (omega arith) h l g t in
      by_test (is_group (get_or es k blank).what)
      (λ q. group_stored k end (omega arith) l q ∙ r)
      (λ q. field_stored k end (omega arith) l q ∙ rw r (or-true (p (as_stored (field_at es k)))))

share_any : (fs gs : List Asked) → share fs gs ≡ any (λ a. any (λ b. eqb a.field.name b.field.name) gs) fs
unfolding share
share_any fs gs = refl

-- A field that two spans share is one entry of both: entries of one name are one entry.
pub from_shared : {C : Type 0} (es : List Entry) (first end low high : ℕ) → end ≤ length es → high ≤ length es
    → ((j k : ℕ) → j < length es → k < length es → (get_or es j blank).name ≡ (get_or es k blank).name → j ≡ k)
    → share (stored_fields es first end) (stored_fields es low high) ≡ true
    → ((j : ℕ) → first ≤ j → j < end → low ≤ j → j < high → is_group (get_or es j blank).what ≡ false → C) → C
from_shared es first end low high l m one t k =
    from_any es _ end first end (omega arith) l (sym (share_any _ _) ∙ t) λ j a b g u.
    from_any es _ high low high (omega arith) m u λ i c d q v.
    let e : j ≡ i = one j i (omega arith) (omega arith) (sym (stored_name es j) ∙ eqb→eq _ _ (true_T v) ∙ stored_name es i) in
    k j a b (omega arith) (omega arith) g

-- The entries of both spans before entry i are groups.
pub record Apart (es : List Entry) (first low i : ℕ) : Type 0 where
  pub first_in : first ≤ i
  pub low_in : low ≤ i
  pub groups : (k : ℕ) → first ≤ k → low ≤ k → k < i → is_group (get_or es k blank).what ≡ true

pub apart_start : (es : List Entry) (first low i : ℕ) → i ≡ max first low → Apart es first low i
apart_start es first low i e = record { first_in = omega arith; low_in = omega arith; groups = λ k a b h. absurd (omega arith) }

module _ {es : List Entry} {first low i : ℕ} (w : Apart es first low i) where
  pub apart_more : is_group (get_or es i blank).what ≡ true → Apart es first low (i + 1)
  apart_more g = record {
    first_in = omega (arith, w.first_in);
    low_in = omega (arith, w.low_in);
    groups = λ k a b h.
        by_order k i (λ q. w.groups k a b q) (λ q. let e : i ≡ k = omega arith in subst (λ j. is_group (get_or es j blank).what ≡ true) e g);
  }

  module _ (end high : ℕ) (l : end ≤ length es) (m : high ≤ length es) where
    pub shared : i < end → i < high → is_group (get_or es i blank).what ≡ false → share (stored_fields es first end) (stored_fields es low high) ≡ true
    shared c d g =
        share_any _ _
        ∙ any_at es _ (i - first) first end i (omega (arith, w.first_in)) c l g
        (any_at es _ (i - low) low high i (omega (arith, w.low_in)) d m g (eqb_same (as_stored (field_at es i)).field.name))

    pub apart : ((j k : ℕ) → j < length es → k < length es → (get_or es j blank).name ≡ (get_or es k blank).name → j ≡ k) → min end high ≤ i
        → share (stored_fields es first end) (stored_fields es low high) ≡ false
    apart one h =
        by_test (share (stored_fields es first end) (stored_fields es low high))
        (λ t. from_shared es first end low high l m one t λ j a b c d g. absurd (true≢false (sym (w.groups j a c (omega arith)) ∙ g)))
        (λ t. t)

-- A span that is one field is that entry alone, and its field is compared by its name.
module _ (es : List Entry) (s : Span) (h : GoodSpan es s) where
  only : s.standard ≡ false → fields_from es s.first s.end ≡ field_at es s.first ∷ []
  only e =
      let a = h.alone e in
      field_entry es s.first s.end (omega (arith, a.next)) h.upto a.field
      ∙ ap (λ fs. field_at es s.first ∷ fs) (no_entry es (s.first + 1) s.end (omega (arith, a.next)))

  left_stored : (gs : List Asked) → share (asked_of es s) gs ≡ share (stored_fields es s.first s.end) gs
  unfolding share any as_stored
  left_stored gs =
      by_test s.standard
      (λ e. ap (λ fs. share fs gs) (asked_stored es s s.standard e))
      (λ e. ap (λ fs. share fs gs) (asked_one es s s.standard e) ∙ rw (only e))

  right_stored : (fs : List Asked) → share fs (asked_of es s) ≡ share fs (stored_fields es s.first s.end)
  unfolding share any as_stored
  right_stored fs =
      by_test s.standard
      (λ e. ap (share fs) (asked_stored es s s.standard e))
      (λ e. ap (share fs) (asked_one es s s.standard e) ∙ rw (only e))

-- What two spans name in common, by the entries and the two pairs of ranges.
module _ {es : List Entry} {a b : Span} (h : GoodSpan es a) (k : GoodSpan es b) where
  abbrev fields_met : Bool
  fields_met = share (stored_fields es a.first a.end) (stored_fields es b.first b.end)

  abbrev occurrences_met : Bool
  occurrences_met = meet (range a.from a.upto) (range b.from b.upto)

  abbrev values_met : Bool
  values_met = meet (range a.value_from a.value_upto) (range b.value_from b.value_upto)

  pub spans_met : (f : Bytes) → name_alike (use_meant es f (Values a)) (use_meant es f (Values b)) ≡ (fields_met && occurrences_met && values_met)
  unfolding name_alike
  spans_met f = ap (λ c. c && occurrences_met && values_met) (left_stored es a h (asked_of es b) ∙ right_stored es b k _)

  module _ {r : Bool} where
    pub ranges_meet : {o v : Bool} → o ≡ occurrences_met → o ≡ true → v ≡ values_met → v ≡ true → r ≡ fields_met → Alike es (Values a) (Values b) r
    ranges_meet p x q y e f = e ∙ sym (spans_met f ∙ rw (sym p ∙ x, sym q ∙ y) (and-true _ ∙ and-true fields_met))

    pub values_apart : r ≡ values_met → r ≡ false → Alike es (Values a) (Values b) false
    values_apart q y f = sym (spans_met f ∙ rw (sym q ∙ y) (and-false (fields_met && occurrences_met)))

    pub occurrences_apart : r ≡ occurrences_met → r ≡ false → Alike es (Values a) (Values b) false
    occurrences_apart p x f = sym (spans_met f ∙ rw (sym p ∙ x, and-false fields_met))

-- One item names nothing.
pub one_left : (x : rules.Item) (u : rules.Use) → name_alike (rules.one x) u ≡ false
unfolding name_alike
one_left x (rules.one y) = refl
one_left x (rules.values gs os vs b) = refl

pub one_right : (u : rules.Use) (x : rules.Item) → name_alike u (rules.one x) ≡ false
unfolding name_alike
one_right (rules.one y) x = refl
one_right (rules.values gs os vs b) x = refl

-- What a look for a shared entry keeps and finds.
pub ruleset sharing_laws = (one_entry, shared, apart_start, apart_more)
