-- A series, an entry at a time: when `fields_to` is done, and that its fields are those from the first entry to the last.
--
use mathlib.Core.Path.{◌≡◌, refl, sym, ap, subst, ◌∙◌}
use mathlib.Core.Bool.{Bool, true, false, not, true≢false, false≢true}
use mathlib.Core.List.{List, [], ◌∷◌}
use Prim.Native.Nat.{ℕ, suc, ◌+◌, ◌-◌, ◌≤◌, ◌<◌}
use native.Mathlib.Numerals.{add-one}
use native.Mathlib.Omega.{arith}
use borrow.Author.Tests.{eq-eqb, ne_eqb, eqb-true}
use lib.Dec.{eqb}
use lib.ListN.{length, get_or, take, drop, drop_of_length-le, length-drop}
use lib.Seq.{drop-cons, get_or-drop}
use Rattle.rules.specs.Outcome.{done, refused, by, ◌>>=◌, is_done}
use Rattle.rules.specs.Values.{Format}
use Rattle.rules.specs.Table.{What, field, group, Field, Entry, differ, names}
use Rattle.rules.specs.Use.{fields_to}
use Rattle.rules.proofs.Steps.{by_test, from_bind, from_is_done, done_inj, not_done}
use Rattle.rules.proofs.Done.{is_done_then}
use Rattle.tables.specs.Entries.{blank, is_group, is_multiple, is_periodic}
use Rattle.tables.specs.Groups.{with_field, fields_in, Spanned}
use Rattle.tables.proofs.EntryFields.{no_fields, first_field}
use Rattle.tables.proofs.Names.{one_name}

-- ---- the first entry of those of a series, by what it is
module _ (n m l : ℕ) (es : List Entry) where
  to_multiple : (f : Format) (s : ℕ) → fields_to n (record { name = m; level = l; what = field f s true } ∷ es) ≡ refused (by 5)
  unfolding fields_to
  to_multiple f s = refl

  to_periodic : fields_to n (record { name = m; level = l; what = group true } ∷ es) ≡ refused (by 5)
  unfolding fields_to
  to_periodic = refl

  to_last : (f : Format) (s : ℕ) → eqb m n ≡ true
      → fields_to n (record { name = m; level = l; what = field f s false } ∷ es) ≡ done (record { name = m; format = f; size = s; multiple = false } ∷ [])
  unfolding fields_to
  to_last f s e = rw (e, fields_to)

  to_more : (f : Format) (s : ℕ) → eqb m n ≡ false
      → fields_to n (record { name = m; level = l; what = field f s false } ∷ es)
      ≡ (fields_to n es >>= λ fs. done (record { name = m; format = f; size = s; multiple = false } ∷ fs))
  unfolding fields_to
  to_more f s e = rw (e, fields_to)

  to_group_last : eqb m n ≡ true → fields_to n (record { name = m; level = l; what = group false } ∷ es) ≡ refused (by 5)
  unfolding fields_to
  to_group_last e = rw (e, fields_to)

  to_group : eqb m n ≡ false → fields_to n (record { name = m; level = l; what = group false } ∷ es) ≡ fields_to n es
  unfolding fields_to
  to_group e = rw (e, fields_to)

-- by the code's tests
module _ (n m l : ℕ) (es : List Entry) where
  multiple_stops : (w : What) → is_multiple w ≡ true → is_done (fields_to n (record { name = m; level = l; what = w } ∷ es)) ≡ false
  multiple_stops (field f s true) e = ap is_done (to_multiple n m l es f s)
  multiple_stops (field f s false) e = absurd (false≢true e)
  multiple_stops (group p) e = absurd (false≢true e)

  periodic_stops : (w : What) → is_periodic w ≡ true → is_done (fields_to n (record { name = m; level = l; what = w } ∷ es)) ≡ false
  periodic_stops (field f s mu) e = absurd (false≢true e)
  periodic_stops (group true) e = ap is_done (to_periodic n m l es)
  periodic_stops (group false) e = absurd (false≢true e)

  name_ends : (w : What) → is_multiple w ≡ false → is_periodic w ≡ false → m ≡ n
      → is_done (fields_to n (record { name = m; level = l; what = w } ∷ es)) ≡ not (is_group w)
  name_ends (field f s true) e p q = absurd (true≢false e)
  name_ends (field f s false) e p q = ap is_done (to_last n m l es f s (eq-eqb m n q))
  name_ends (group true) e p q = absurd (true≢false p)
  name_ends (group false) e p q = ap is_done (to_group_last n m l es (eq-eqb m n q))

  other_goes_on : (w : What) → is_multiple w ≡ false → is_periodic w ≡ false → (m ≡ n → ⊥)
      → is_done (fields_to n (record { name = m; level = l; what = w } ∷ es)) ≡ is_done (fields_to n es)
  other_goes_on (field f s true) e p q = absurd (true≢false e)
  other_goes_on (field f s false) e p q = ap is_done (to_more n m l es f s (ne_eqb m n q)) ∙ is_done_then (fields_to n es) _
  other_goes_on (group true) e p q = absurd (true≢false p)
  other_goes_on (group false) e p q = ap is_done (to_group n m l es (ne_eqb m n q))

-- ---- the same at entry i
module _ (es : List Entry) (n i : ℕ) where
  to_none : fields_to n [] ≡ refused (by 5)
  unfolding fields_to
  to_none = refl

  pub series_none : length es ≤ i → false ≡ is_done (fields_to n (drop i es))
  series_none h = rw (drop_of_length-le es h, to_none)

  module _ (h : i < length es) where
    entry : Entry
    entry = get_or es i blank

    opened : is_done (fields_to n (drop i es)) ≡ is_done (fields_to n (entry ∷ drop (i + 1) es))
    unfolding entry
    opened = rw (add-one, drop-cons es i blank h)

    pub series_multiple : is_multiple (get_or es i blank).what ≡ true → false ≡ is_done (fields_to n (drop i es))
    unfolding entry
    series_multiple e = sym (opened ∙ multiple_stops n (get_or es i blank).name (get_or es i blank).level (drop (i + 1) es) (get_or es i blank).what e)

    pub series_periodic : is_periodic (get_or es i blank).what ≡ true → false ≡ is_done (fields_to n (drop i es))
    unfolding entry
    series_periodic e = sym (opened ∙ periodic_stops n (get_or es i blank).name (get_or es i blank).level (drop (i + 1) es) (get_or es i blank).what e)

    module _ (e : is_multiple (get_or es i blank).what ≡ false) (p : is_periodic (get_or es i blank).what ≡ false) where
      pub series_ends : (get_or es i blank).name ≡ n → not (is_group (get_or es i blank).what) ≡ is_done (fields_to n (drop i es))
      unfolding entry
      series_ends q = sym (opened ∙ name_ends n (get_or es i blank).name (get_or es i blank).level (drop (i + 1) es) (get_or es i blank).what e p q)

      pub series_turn : ((get_or es i blank).name ≡ n → ⊥) → is_done (fields_to n (drop (i + 1) es)) ≡ is_done (fields_to n (drop i es))
      unfolding entry
      series_turn q = sym (opened ∙ other_goes_on n (get_or es i blank).name (get_or es i blank).level (drop (i + 1) es) (get_or es i blank).what e p q)

-- ---- the fields of a series

-- `fields_to` ends at an entry that has the name, and gives the fields up to it
record Reached (n : ℕ) (es : List Entry) (fs : List Field) : Type 0 where
  pub last : ℕ
  pub within : last < length es
  pub named : (get_or es last blank).name ≡ n
  pub fields : fs ≡ fields_in (take (suc last) es)

further : (n : ℕ) (e : Entry) (es : List Entry) (fs : List Field) → Reached n es fs → Reached n (e ∷ es) (with_field e.name e.what fs)
further n e es fs r = record {
  last = suc r.last;
  within = omega (arith, r.within);
  named = r.named;
  fields = ap (with_field e.name e.what) r.fields ∙ sym (first_field e (take (suc r.last) es));
}

reached_by : (n m l : ℕ) (w : What) (es : List Entry) (fs : List Field) → fields_to n (record { name = m; level = l; what = w } ∷ es) ≡ done fs
    → ((gs : List Field) → fields_to n es ≡ done gs → Reached n es gs)
    → Reached n (record { name = m; level = l; what = w } ∷ es) fs
reached_by n m l (field f s true) es fs d r = absurd (not_done (sym (to_multiple n m l es f s) ∙ d))
reached_by n m l (field f s false) es fs d r = by_test (eqb m n)
    (λ e. record {
      last = 0;
      within = omega arith;
      named = eqb-true m n e;
      fields = done_inj (sym d ∙ to_last n m l es f s e) ∙ sym (first_field _ [] ∙ ap (with_field m (field f s false)) no_fields);
    })
    (λ e. from_bind (fields_to n es) _ (sym (to_more n m l es f s e) ∙ d) λ gs g k.
    subst (Reached n (record { name = m; level = l; what = field f s false } ∷ es)) (done_inj k)
    (further n (record { name = m; level = l; what = field f s false }) es gs (r gs g)))
reached_by n m l (group true) es fs d r = absurd (not_done (sym (to_periodic n m l es) ∙ d))
reached_by n m l (group false) es fs d r = by_test (eqb m n)
    (λ e. absurd (not_done (sym (to_group_last n m l es e) ∙ d)))
    (λ e. further n (record { name = m; level = l; what = group false }) es fs (r fs (sym (to_group n m l es e) ∙ d)))

reached : (n : ℕ) (es : List Entry) (fs : List Field) → fields_to n es ≡ done fs → Reached n es fs
reached n [] fs d = absurd (not_done (sym (to_none [] n 0) ∙ d))
reached n (e ∷ es) fs d = reached_by n e.name e.level e.what es fs d (λ gs g. reached n es gs g)

module _ (es : List Entry) (d : differ (names es) ≡ true) (i j : ℕ) (h : j < length es) where
  -- the last entry of a series is the one of the last name
  series_last : (gs : List Field) → fields_to (get_or es j blank).name (drop i es) ≡ done gs
      → (i ≤ j) × (fields_to (get_or es j blank).name (drop i es) ≡ done (fields_in (take (suc j - i) (drop i es))))
  series_last gs g =
      let r = reached (get_or es j blank).name (drop i es) gs g in
      let k : i + r.last < length es = omega (arith, r.within, length-drop i es) in
      let q : i + r.last ≡ j = one_name es d (i + r.last) j k h (ap (λ (e : Entry). e.name) (sym (get_or-drop i es r.last blank)) ∙ r.named) in
      let n : suc r.last ≡ suc j - i = omega arith in
      (omega arith, g ∙ ap done (r.fields ∙ ap (λ (m : ℕ). fields_in (take m (drop i es))) n))

  pub spanned : (r : Bool) → r ≡ is_done (fields_to (get_or es j blank).name (drop i es)) → Spanned es i j r
  spanned r e = record {
    answer = e;
    upto = λ t. from_is_done (fields_to (get_or es j blank).name (drop i es)) (sym e ∙ t) (λ gs g. (series_last gs g).0);
    fields = λ t. from_is_done (fields_to (get_or es j blank).name (drop i es)) (sym e ∙ t) (λ gs g. (series_last gs g).1);
  }

-- what a loop over a series cites
pub ruleset series_steps = (series_none, series_multiple, series_periodic, series_ends, series_turn, spanned, one_name)
