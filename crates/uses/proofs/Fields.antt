-- An entry as a field, the fields of a group by the entries after it, and those of a series.
use mathlib.Core.Path.{◌≡◌, refl, sym, ap, ◌∙◌}
use mathlib.Core.Bool.{Bool, true, false, not, ◌&&◌, true≢false}
use mathlib.Core.List.{List, [], ◌∷◌, map}
use Prim.Native.Nat.{ℕ, suc, ◌+◌, ◌-◌, ◌<◌, ◌≤◌}
use native.Mathlib.Numerals.{add-one}
use native.Mathlib.Omega.{arith}
use borrow.Author.Tests.{ltb-true, ltb-false}
use lib.Dec.{eqb, ltb}
use lib.ListN.{length, get_or, take, drop, length-drop}
use Rattle.rules.specs.Outcome.{Outcome, done, refused, by, ◌>>=◌, need, is_done}
use Rattle.rules.specs.Lists.{all, filter}
use Rattle.rules.specs.Table.{What, field, group, Field, Entry, fields_below}
use Rattle.rules.specs.Use.{plain, as_stored, fields_to}
use Rattle.rules.proofs.Steps.{by_test, true_T}
use Rattle.rules.proofs.Uses.{by_what, Single, plain_single, to_picked}
use Rattle.tables.specs.Entries.{blank, is_multiple, size_of, field_format}
use Rattle.tables.specs.Groups.{run_below, group_end, field_by, field_at, with_field, fields_in}
use Rattle.tables.proofs.EntryFields.{no_fields, first_field}
use Rattle.tables.proofs.Nesting.{below_deeper, below_ends, below_nil, run_nil, run_deeper, run_ends, run_short}
use Rattle.uses.specs.Meant.{fields_from}

-- What a field's entry says of it.
multiple_by : (n : ℕ) (w : What) → (field_by n w).multiple ≡ is_multiple w
unfolding field_by
multiple_by n (field f s m) = refl
multiple_by n (group p) = refl

size_by : (n : ℕ) (w : What) → (field_by n w).size ≡ size_of w
unfolding field_by
size_by n (field f s m) = refl
size_by n (group p) = refl

format_by : (n : ℕ) (w : What) → (field_by n w).format ≡ field_format w
unfolding field_by
format_by n (field f s m) = refl
format_by n (group p) = refl

module _ (es : List Entry) (i : ℕ) where
  pub multiple_at : (field_at es i).multiple ≡ is_multiple (get_or es i blank).what
  unfolding field_at
  multiple_at = multiple_by (get_or es i blank).name (get_or es i blank).what

  pub size_at : (field_at es i).size ≡ size_of (get_or es i blank).what
  unfolding field_at
  size_at = size_by (get_or es i blank).name (get_or es i blank).what

  pub format_of_field : (field_at es i).format ≡ field_format (get_or es i blank).what
  unfolding field_at
  format_of_field = format_by (get_or es i blank).name (get_or es i blank).what

-- The fields of a group stand among the entries after it that are deeper.
below_run : (l : ℕ) (es : List Entry) → fields_below l es ≡ fields_in (take (run_below l es) es)
below_run l [] = rw (run_nil l, below_nil l) (sym no_fields)
below_run l (e ∷ es) =
    by_test (ltb l e.level)
    (λ t. let h = ltb-true l e.level t in
    below_deeper l e es h ∙ ap (with_field e.name e.what) (below_run l es) ∙ rw (run_deeper l e es h) (sym (first_field e (take (run_below l es) es))))
    (λ t. let h = ltb-false l e.level t in below_ends l e es h ∙ rw (run_ends l e es h) (sym no_fields))

module _ (es : List Entry) (i : ℕ) (h : i < length es) where
  pub group_fields : fields_below (get_or es i blank).level (drop (suc i) es) ≡ fields_from es (i + 1) (group_end es i)
  unfolding fields_from group_end
  group_fields =
      let l = (get_or es i blank).level in
      let e : suc i + run_below l (drop (suc i) es) - (i + 1) ≡ run_below l (drop (suc i) es) = omega arith in
      rw (e, add-one) (below_run l (drop (suc i) es))

  pub group_upto : (i + 1 ≤ group_end es i) × (group_end es i ≤ length es)
  unfolding group_end
  group_upto = (omega arith, omega (arith, run_short (get_or es i blank).level (drop (suc i) es), length-drop (suc i) es))

-- Fields of which none is MU.
single_none : (fs : List Field) → Single fs → filter (λ a. a.field.multiple) (map as_stored fs) ≡ []
unfolding filter as_stored
single_none [] s = refl
single_none (f ∷ fs) s = rw (s.0, filter) (single_none fs s.1)

pub plain_none_multiple : (fs : List Field) → all plain fs ≡ true → filter (λ a. a.field.multiple) (map as_stored fs) ≡ []
plain_none_multiple fs e = single_none fs (plain_single fs (true_T e))

pub series_none_multiple : (n : ℕ) (es : List Entry) (fs : List Field) → fields_to n es ≡ done fs
    → filter (λ a. a.field.multiple) (map as_stored fs) ≡ []
series_none_multiple n es fs e = single_none fs (to_picked n es fs e).1

-- A series is refused with 5 alone.
abbrev Five : {A : Type 0} → Outcome A → Type 0
Five o = is_done o ≡ false → o ≡ refused (by 5)

five_need : {A : Type 0} (t : Bool) (o : Outcome A) → Five o → Five (need t 5 >>= λ _. o)
five_need true o h = h
five_need false o h = λ e. refl

five_then : {A B : Type 0} (o : Outcome A) (g : A → B) → Five o → Five (o >>= λ a. done (g a))
five_then (done a) g h = λ e. absurd (true≢false e)
five_then (refused k) g h = λ e. let p = h refl in cc

pub series_five : (n : ℕ) (es : List Entry) → is_done (fields_to n es) ≡ false → fields_to n es ≡ refused (by 5)
unfolding fields_to
series_five n [] = λ e. refl
series_five n (x ∷ es) =
    by_what x.what
    (λ f s m q. rw (q, fields_to) (five_need (not m) _ (by_test (eqb x.name n)
    (λ t. rw t (λ e. absurd (true≢false e)))
    (λ t. rw t (five_then (fields_to n es) _ (series_five n es))))))
    (λ p q. rw (q, fields_to) (five_need (not p && not (eqb x.name n)) (fields_to n es) (series_five n es)))
