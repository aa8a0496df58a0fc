-- The items of a span as loops over its occurrences and its entries meet them.
use mathlib.Core.Path.{◌≡◌, sym, ◌∙◌, ap}
use mathlib.Core.Bool.{Bool, true, false, ◌&&◌}
use mathlib.Core.List.{List, [], ◌∷◌, ◌++◌, map, map-append}
use Prim.Native.Nat.{ℕ, zero, suc, ◌+◌, ◌≤◌, ◌<◌}
use native.Mathlib.Omega.{arith}
use borrow.Author.Tests.{le-leb}
use lib.Dec.{leb, leb→le}
use lib.ListN.{length, get_or}
use Rattle.rules.specs.Outcome.{Outcome}
use Rattle.rules.specs.Limits.{highest_index}
use Rattle.rules.specs.Lists.{Bytes, join}
use Rattle.rules.specs.Table.{Entry, Field}
use Rattle.rules.specs.Format.{Range}
use Rattle.rules.specs.Use.{Item, Asked, as_stored, in_order, items_over, value_items, just}
use Rattle.rules.proofs.Ranges.{over_none, over_first, field_items, no_field, first_field}
use Rattle.rules.proofs.Steps.{by_test, true_T, and_left, and_right}
use Rattle.tables.specs.Entries.{blank, is_group}
use Rattle.tables.specs.Groups.{field_at}
use Rattle.format_buffer.specs.Elements.{range}
use Rattle.uses.specs.Meant.{fields_from, GoodSpan}
use Rattle.uses.specs.declared.Span.{Span}
use Rattle.uses.proofs.SpanFields.{no_entry, field_entry, group_entry, asked_stored}
use Rattle.reading.specs.Spans.{occurrence_items}

-- The items of some fields in one occurrence, each with the values that it has there; and of the occurrences from the first on.
abbrev pub row_items : List Asked → (Field → ℕ → Range) → Bool → ℕ → List Item
row_items fs vs bare i = join (map (λ a. field_items bare (vs a.field i) i a) fs)

module _ (fs : List Asked) (vs : Field → ℕ → Range) (bare : Bool) where
  pub no_row : (i j : ℕ) → j < i → items_over fs (range i j) vs bare ≡ []
  unfolding join
  no_row i j h = rw (over_none (row_items fs vs bare) i j h)

  pub first_row : (i j : ℕ) → i ≤ j → items_over fs (range i j) vs bare ≡ row_items fs vs bare i ++ items_over fs (range (i + 1) j) vs bare
  unfolding join
  first_row i j h = rw (over_first (row_items fs vs bare) i j h)

-- The items of some fields in one occurrence, value 1 of each as it is stored.
abbrev pub stored_items : ℕ → List Field → List Item
stored_items o fs = value_items (map as_stored fs) (just o) (range 1 1) false

-- A span of fields as they are stored has value 1 alone of each.
pub row_once : (es : List Entry) (s : Span) → GoodSpan es s → s.standard ≡ true → (o : ℕ) → occurrence_items es s o ≡ stored_items o (fields_from es s.first s.end)
row_once es s held standard o =
    let one = held.once standard in
    ap (λ (fs : List Asked). value_items fs (just o) (range s.value_from s.value_upto) false) (asked_stored es s s.standard standard)
    ∙ ap (λ (k : ℕ). value_items (map as_stored (fields_from es s.first s.end)) (just o) (range k s.value_upto) false) one.0
    ∙ ap (λ (k : ℕ). value_items (map as_stored (fields_from es s.first s.end)) (just o) (range 1 k) false) one.1

-- What each of the fields among entries gives by itself, they give together.
module _ (es : List Entry) (o : ℕ) (f : Item → Outcome Bytes) (g : Field → Outcome Bytes) where
  pub each_field : (n j end : ℕ) → j + n ≡ end → end ≤ length es
      → ((k : ℕ) → j ≤ k → k < end → is_group (get_or es k blank).what ≡ false → map f (stored_items o (field_at es k ∷ [])) ≡ g (field_at es k) ∷ [])
      → map f (stored_items o (fields_from es j end)) ≡ map g (fields_from es j end)
  each_field zero j end e l h =
      let z = no_entry es j end (omega arith) in
      ap (λ (fs : List Field). map f (stored_items o fs)) z ∙ ap (map f) (no_field o (range 1 1) false) ∙ sym (ap (map g) z)
  each_field (suc n) j end e l h =
      let less : j < end = omega arith in
      let fs = fields_from es (j + 1) end in
      let rest = each_field n (j + 1) end (omega arith) l (λ k low. h k (omega arith)) in
      by_test (is_group (get_or es j blank).what)
      (λ q. let z = group_entry es j end less l q in ap (λ (gs : List Field). map f (stored_items o gs)) z ∙ rest ∙ sym (ap (map g) z))
      (λ q. let z = field_entry es j end less l q in
      ap (λ (gs : List Field). map f (stored_items o gs)) z
      ∙ ap (map f) (first_field o (range 1 1) false (as_stored (field_at es j)) (map as_stored fs))
      ∙ map-append f (stored_items o (field_at es j ∷ [])) (stored_items o fs)
      ∙ ap (λ (os : List (Outcome Bytes)). os ++ map f (stored_items o fs)) (h j (omega arith) less q)
      ∙ ap (λ (os : List (Outcome Bytes)). g (field_at es j) ∷ os) rest ∙ sym (ap (map g) z))

-- The bounds of a range that is in order; a range within its bounds is.
pub bounds : (from upto : ℕ) → in_order (range from upto) ≡ true → (1 ≤ from) × (from ≤ upto) × (upto ≤ highest_index)
unfolding in_order
bounds from upto h =
    let t = true_T h in
    let l = and_left (leb 1 from && leb from upto) (leb upto highest_index) t in
    (leb→le 1 from (and_left (leb 1 from) (leb from upto) l), leb→le from upto (and_right (leb 1 from) (leb from upto) l), leb→le upto highest_index (and_right (leb 1 from && leb from upto) (leb upto highest_index) t))

pub in_bounds : (from upto : ℕ) → 1 ≤ from → from ≤ upto → upto ≤ highest_index → in_order (range from upto) ≡ true
unfolding in_order
in_bounds from upto a b c = rw (le-leb 1 from a, le-leb from upto b, le-leb upto highest_index c)
