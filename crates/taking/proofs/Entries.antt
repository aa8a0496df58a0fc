-- The items of a span in one occurrence, an entry at a time: a field is asked for at the format and the length in effect, a group adds nothing.
use mathlib.Core.Path.{◌≡◌, refl, sym, ◌∙◌, ap}
use mathlib.Core.Bool.{Bool, true, false}
use mathlib.Core.List.{List, [], ◌∷◌, ◌++◌, map}
use Prim.Native.Nat.{ℕ, ◌+◌, ◌≤◌, ◌<◌}
use native.Mathlib.Omega.{arith}
use lib.ListN.{length, get_or}
use Rattle.rules.specs.Table.{Entry, Field}
use Rattle.rules.specs.Use.{Asked, value_items, just}
use Rattle.rules.specs.Format.{Range}
use Rattle.rules.proofs.Ranges.{from_to, no_field, first_field}
use Rattle.rules.proofs.Steps.{by_test}
use Rattle.tables.specs.Entries.{blank, is_group}
use Rattle.tables.specs.Groups.{field_at}
use Rattle.uses.specs.Meant.{fields_from, asked_by, asked_of, GoodSpan, OneField}
use Rattle.uses.specs.declared.Span.{Span}
use Rattle.uses.proofs.SpanFields.{no_entry, field_entry, group_entry}
use Rattle.taking.specs.Taking.{asked_given, asked_as, items_between}
use Rattle.taking.specs.declared.value.Given.{Given}

module _ (es : List Entry) (u : Span) (o : ℕ) where
  abbrev asks : List Field → List Asked
  asks fs = map (asked_as u.standard u) fs

  abbrev vs : Range
  vs = from_to u.value_from u.value_upto

  pub between_none : (i end : ℕ) → end ≤ i → items_between es u o i end ≡ []
  between_none i end h = ap (λ fs. value_items (asks fs) (just o) vs u.bare) (no_entry es i end h) ∙ no_field o vs u.bare

  module _ (i end : ℕ) (h : i < end) (l : end ≤ length es) where
    group_next : is_group (get_or es i blank).what ≡ true → items_between es u o i end ≡ items_between es u o (i + 1) end
    group_next g = ap (λ fs. value_items (asks fs) (just o) vs u.bare) (group_entry es i end h l g)

    field_next : is_group (get_or es i blank).what ≡ false
        → items_between es u o i end ≡ value_items (asked_as u.standard u (field_at es i) ∷ []) (just o) vs u.bare ++ items_between es u o (i + 1) end
    field_next g =
        ap (λ fs. value_items (asks fs) (just o) vs u.bare) (field_entry es i end h l g)
        ∙ first_field o vs u.bare (asked_as u.standard u (field_at es i)) (asks (fields_from es (i + 1) end))

  module _ (i : ℕ) (known : i < length es) where
    pub between_group : is_group (get_or es i blank).what ≡ true → items_between es u o i (i + 1) ≡ []
    between_group g = group_next i (i + 1) (omega arith) (omega arith) g ∙ between_none (i + 1) (i + 1) (omega arith)

    between_one : is_group (get_or es i blank).what ≡ false → items_between es u o i (i + 1) ≡ value_items (asked_as u.standard u (field_at es i) ∷ []) (just o) vs u.bare
    between_one g =
        ap (λ fs. value_items (asks fs) (just o) vs u.bare) (field_entry es i (i + 1) (omega arith) (omega arith) g)
        ∙ ap (λ fs. value_items (asks (field_at es i ∷ fs)) (just o) vs u.bare) (no_entry es (i + 1) (i + 1) (omega arith))

    pub between_field : is_group (get_or es i blank).what ≡ false → (g : Given) → asked_given es g ≡ asked_as u.standard u (field_at es i) → g.bare ≡ u.bare
        → items_between es u o i (i + 1) ≡ value_items (asked_given es g ∷ []) (just o) vs g.bare
    between_field single g a b = between_one single ∙ rw (a, b)

  pub between_next : (i end : ℕ) → i < end → end ≤ length es → items_between es u o i end ≡ items_between es u o i (i + 1) ++ items_between es u o (i + 1) end
  between_next i end h l =
      let known : i < length es = omega arith in
      by_test (is_group (get_or es i blank).what)
      (λ g. group_next i end h l g ∙ rw (between_group i known g))
      (λ g. field_next i end h l g ∙ rw (between_one i known g))

  -- Those of all its entries.
  pub between_all : GoodSpan es u → value_items (asked_of es u) (just o) vs u.bare ≡ items_between es u o u.first u.end
  between_all good = ap (λ fs. value_items fs (just o) vs u.bare) (all_asked u.standard good.alone)
    where
      all_asked : (b : Bool) → (b ≡ false → OneField es u) → asked_by es b u ≡ map (asked_as b u) (fields_from es u.first u.end)
      all_asked true one = refl
      all_asked false one =
          let x = one refl in
          sym (ap (map (asked_as false u)) (field_entry es u.first u.end (omega (arith, x.next)) good.upto x.field
          ∙ ap (λ fs. field_at es u.first ∷ fs) (no_entry es (u.first + 1) u.end (omega (arith, x.next)))))
