-- What the fields of a span say of one field in one occurrence. Names differ, so that one field of a span has the name at most.
use mathlib.Core.Path.{◌≡◌, refl, sym, ap, subst, ◌∙◌}
use mathlib.Core.Bool.{Bool, true, false, cond, ◌&&◌, and-false, true≢false}
use mathlib.Core.List.{List, [], ◌∷◌, ◌++◌, map, append-nil}
use Prim.Native.Nat.{ℕ, zero, suc, ◌+◌, ◌-◌, ◌<◌, ◌≤◌}
use native.Mathlib.Omega.{arith}
use lib.Dec.{T, eqb, leb, ltb}
use lib.ListN.{length, get_or}
use borrow.Author.Tests.{ne_eqb, leb-true, le-leb, ltb-true, lt-ltb}
use Rattle.rules.specs.Limits.{highest_index}
use Rattle.rules.specs.Lists.{join, run}
use Rattle.rules.specs.Table.{Entry, differ, names}
use Rattle.rules.specs.Use.{Item, Asked, as_stored, value_items, in_order}
use Rattle.rules.specs.Format.{Range}
use Rattle.rules.proofs.Steps.{by_test, T_true, eqb_same}
use Rattle.rules.proofs.Bools.{and_both, and_four}
use Rattle.rules.proofs.Named.{values_named, named_append}
use Rattle.rules.proofs.Places.{names_asked}
use Rattle.rules.proofs.Ranges.{item_at, occurrence_items}
use Rattle.buffer.proofs.Cases.{by_order}
use Rattle.tables.specs.Entries.{blank, is_group}
use Rattle.tables.specs.Groups.{field_at}
use Rattle.tables.proofs.EntryFields.{name_at}
use Rattle.tables.proofs.Names.{one_name}
use Rattle.uses.specs.Meant.{fields_from, asked_of, GoodSpan}
use Rattle.uses.specs.Twice.{stored_fields}
use Rattle.uses.specs.declared.Span.{Span}
use Rattle.uses.proofs.SpanFields.{no_entry, field_entry, group_entry, asked_one, asked_stored}
use Rattle.assignments.specs.Notes.{names_cell}
use Rattle.assignments.proofs.Heights.{join_none, join_one}

-- The values of a range, each with whether they are bare.
abbrev pub values_from : Bool → ℕ → ℕ → List (ℕ × Bool)
values_from bare k m = run (λ v. (v, bare)) k m

-- What fields of these names give to the field n.
abbrev pub here : ℕ → List (ℕ × Bool) → ℕ → List (ℕ × Bool)
here n vs m = cond (eqb m n) vs []

module _ (n o : ℕ) where
  field_here : (a : Asked) (bare : Bool) (j k m : ℕ) → (eqb a.field.name n && eqb j o) ≡ true → values_named n o (run (item_at bare a j) k m) ≡ values_from bare k m
  unfolding values_named run
  field_here a bare j k zero e = refl
  field_here a bare j k (suc m) e = rw (e, values_named) (ap (◌∷◌ (k, bare)) (field_here a bare j (suc k) m e))

  field_there : (a : Asked) (bare : Bool) (j k m : ℕ) → (eqb a.field.name n && eqb j o) ≡ false → values_named n o (run (item_at bare a j) k m) ≡ []
  unfolding values_named run
  field_there a bare j k zero e = refl
  field_there a bare j k (suc m) e = rw (e, values_named) (field_there a bare j (suc k) m e)

  -- An occurrence other than o, and o itself.
  row_there : (fs : List Asked) (vs : Range) (bare : Bool) (j : ℕ) → (j ≡ o → ⊥) → values_named n o (occurrence_items fs vs bare j) ≡ []
  unfolding join values_named
  row_there [] vs bare j d = refl
  row_there (a ∷ fs) vs bare j d =
      named_append n o (run (item_at bare a j) vs.from (suc vs.upto - vs.from)) (occurrence_items fs vs bare j)
      ∙ rw (field_there a bare j vs.from (suc vs.upto - vs.from) (rw (ne_eqb j o d) (and-false (eqb a.field.name n)))) (row_there fs vs bare j d)

  row_here : (fs : List Asked) (vs : Range) (bare : Bool)
      → values_named n o (occurrence_items fs vs bare o) ≡ join (map (here n (values_from bare vs.from (suc vs.upto - vs.from))) (names_asked fs))
  unfolding join values_named
  row_here [] vs bare = refl
  row_here (a ∷ fs) vs bare =
      named_append n o (run (item_at bare a o) vs.from (suc vs.upto - vs.from)) (occurrence_items fs vs bare o)
      ∙ by_test (eqb a.field.name n)
      (λ e. rw (field_here a bare o vs.from (suc vs.upto - vs.from) (rw (e, eqb_same o)), e, row_here fs vs bare))
      (λ e. rw (field_there a bare o vs.from (suc vs.upto - vs.from) (rw e), e, row_here fs vs bare))

  pub named_run : (f : ℕ → List Item) (j m : ℕ) → values_named n o (join (run f j m)) ≡ join (run (λ k. values_named n o (f k)) j m)
  unfolding join run values_named
  named_run f j zero = refl
  named_run f j (suc m) = named_append n o (f j) (join (run f (suc j) m)) ∙ ap (◌++◌ (values_named n o (f j))) (named_run f (suc j) m)

  -- All occurrences of an element.
  pub all_there : (fs : List Asked) (os vs : Range) (bare : Bool) → ((j : ℕ) → os.from ≤ j → j ≤ os.upto → j ≡ o → ⊥) → values_named n o (value_items fs os vs bare) ≡ []
  unfolding value_items
  all_there fs os vs bare d =
      named_run (occurrence_items fs vs bare) os.from (suc os.upto - os.from)
      ∙ join_none _ os.from (suc os.upto - os.from) (λ j a b. row_there fs vs bare j (d j a (omega arith)))

  pub all_here : (fs : List Asked) (os vs : Range) (bare : Bool) → os.from ≤ o → o ≤ os.upto
      → values_named n o (value_items fs os vs bare) ≡ join (map (here n (values_from bare vs.from (suc vs.upto - vs.from))) (names_asked fs))
  unfolding value_items
  all_here fs os vs bare l u =
      named_run (occurrence_items fs vs bare) os.from (suc os.upto - os.from)
      ∙ join_one _ os.from (suc os.upto - os.from) o l (omega arith) (λ j a b d. row_there fs vs bare j d)
      ∙ row_here fs vs bare

-- The fields among some entries: of entry i alone the name is that of entry i.
module _ (es : List Entry) (i : ℕ) (vs : List (ℕ × Bool)) where
  abbrev pub given : ℕ → ℕ → List (ℕ × Bool)
  given k end = join (map (here (get_or es i blank).name vs) (names_asked (stored_fields es k end)))

  given_end : (k end : ℕ) → end ≤ k → given k end ≡ []
  unfolding join
  given_end k end l = rw (no_entry es k end l)

  module _ (k end : ℕ) (l : k < end) (u : end ≤ length es) where
    given_field : is_group (get_or es k blank).what ≡ false → given k end ≡ here (get_or es i blank).name vs (get_or es k blank).name ++ given (k + 1) end
    unfolding join as_stored
    given_field g = rw (field_entry es k end l u g) (ap (λ m. here (get_or es i blank).name vs m ++ given (k + 1) end) (name_at es k))

    given_group : is_group (get_or es k blank).what ≡ true → given k end ≡ given (k + 1) end
    given_group g = rw (group_entry es k end l u g)

  module _ (apart : T (differ (names es))) (h : i < length es) where
    other : (k : ℕ) → k < length es → (k ≡ i → ⊥) → here (get_or es i blank).name vs (get_or es k blank).name ≡ []
    other k l d = rw (ne_eqb (get_or es k blank).name (get_or es i blank).name (λ e. d (one_name es (T_true _ apart) k i l h e)))

    given_other : (k end : ℕ) → k < end → end ≤ length es → (k ≡ i → ⊥) → given k end ≡ given (k + 1) end
    given_other k end l u d =
        by_test (is_group (get_or es k blank).what)
        (given_group k end l u)
        (λ g. given_field k end l u g ∙ ap (λ xs. xs ++ given (k + 1) end) (other k (omega arith) d))

    pub given_none : (c k end : ℕ) → end ≤ k + c → end ≤ length es → ((j : ℕ) → k ≤ j → j < end → j ≡ i → ⊥) → given k end ≡ []
    given_none zero k end s u d = given_end k end (omega arith)
    given_none (suc c) k end s u d =
        by_order k end
        (λ l. given_other k end l u (d k (omega arith) l) ∙ given_none c (k + 1) end (omega arith) u (λ j a b. d j (omega arith) b))
        (λ l. given_end k end l)

    pub given_one : (c k end : ℕ) → i ≡ k + c → i < end → end ≤ length es → is_group (get_or es i blank).what ≡ false → given k end ≡ vs
    given_one zero k end s l u g =
        let e : i ≡ k = omega arith in
        let r : given i end ≡ vs =
        given_field i end l u g
        ∙ rw (eqb_same (get_or es i blank).name, given_none end (i + 1) end (omega arith) u (λ j a b q. omega arith)) (append-nil vs) in
        subst (λ (j : ℕ). given j end ≡ vs) e r
    given_one (suc c) k end s l u g = given_other k end (omega arith) u (λ e. omega arith) ∙ given_one c (k + 1) end (omega arith) l u g

-- A span whose field is at a format in effect is that of one entry.
module _ (es : List Entry) (s : Span) (h : GoodSpan es s) where
  only : s.standard ≡ false → fields_from es s.first s.end ≡ field_at es s.first ∷ []
  only e =
      let a = h.alone e in
      field_entry es s.first s.end (omega (arith, a.next)) h.upto a.field
      ∙ ap (λ fs. field_at es s.first ∷ fs) (no_entry es (s.first + 1) s.end (omega (arith, a.next)))

  pub span_fields : names_asked (asked_of es s) ≡ names_asked (stored_fields es s.first s.end)
  unfolding as_stored
  span_fields =
      by_test s.standard
      (λ e. ap names_asked (asked_stored es s s.standard e))
      (λ e. ap names_asked (asked_one es s s.standard e) ∙ rw (only e))

  -- The indexes of a span are in their order.
  pub span_occurrences : (1 ≤ s.from) × (s.from ≤ s.upto) × (s.upto ≤ highest_index)
  unfolding in_order
  span_occurrences =
      let (a, b) = and_both (leb 1 s.from && leb s.from s.upto) (leb s.upto highest_index) h.occurrences in
      let (c, d) = and_both (leb 1 s.from) (leb s.from s.upto) a in
      (leb-true 1 s.from c, leb-true s.from s.upto d, leb-true s.upto highest_index b)

  pub span_values : (1 ≤ s.value_from) × (s.value_from ≤ s.value_upto) × (s.value_upto ≤ highest_index)
  unfolding in_order
  span_values =
      let (a, b) = and_both (leb 1 s.value_from && leb s.value_from s.value_upto) (leb s.value_upto highest_index) h.values in
      let (c, d) = and_both (leb 1 s.value_from) (leb s.value_from s.value_upto) a in
      (leb-true 1 s.value_from c, leb-true s.value_from s.value_upto d, leb-true s.value_upto highest_index b)

-- A span names a cell where both its entries and its occurrences have it.
abbrev pub NamesIt : Span → ℕ → ℕ → Type 0
NamesIt s i o = (s.from ≤ o) × (o ≤ s.upto) × (s.first ≤ i) × (i < s.end)

pub cell_named : (s : Span) (i o : ℕ) → names_cell s i o ≡ true → NamesIt s i o
unfolding names_cell
cell_named s i o e =
    let (a, b, c, d) = and_four (leb s.from o) (leb o s.upto) (leb s.first i) (ltb i s.end) e in
    (leb-true s.from o a, leb-true o s.upto b, leb-true s.first i c, ltb-true i s.end d)

pub names_it : (s : Span) (i o : ℕ) → NamesIt s i o → names_cell s i o ≡ true
unfolding names_cell
names_it s i o h =
    rw (le-leb s.from o h.0, le-leb o s.upto h.1, le-leb s.first i h.2, lt-ltb i s.end h.3)

pub cell_unnamed : (s : Span) (i o : ℕ) → names_cell s i o ≡ false → NamesIt s i o → ⊥
cell_unnamed s i o e h = true≢false (sym (names_it s i o h) ∙ e)
