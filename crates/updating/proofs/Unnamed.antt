-- What an update does not name: no occurrence of a part whose highest one named is 0. A cell that it does not name has the same count and the same values.
use mathlib.Core.Path.{◌≡◌, refl, sym, ◌∙◌, ap}
use mathlib.Core.Bool.{Bool, true, false, ◌&&◌}
use mathlib.Core.List.{List, [], ◌∷◌, map}
use mathlib.Core.Option.{none, some}
use Prim.Native.Nat.{ℕ, suc, ◌+◌, ◌≤◌, ◌<◌}
use native.Mathlib.Omega.{arith}
use lib.Dec.{eqb, eqb→eq}
use lib.ListN.{length, get_or}
use Rattle.rules.specs.Lists.{Bytes, absent, filter, maximum, run}
use Rattle.rules.specs.Values.{null}
use Rattle.rules.specs.Table.{Field, Part, Entry, member}
use Rattle.rules.specs.Record.{Record, values_at, value_at, value_count_at, laid_cell, count_or_one}
use Rattle.rules.specs.Use.{Place}
use Rattle.rules.specs.Update.{Assignment, same_place, assigned, to_field, to_part, bare_only, highest_value, highest_occurrence, new_value_count, new_group_count, new_value, update_plan}
use Rattle.rules.proofs.Steps.{by_test, and_left, true_T}
use Rattle.rules.proofs.Back.{All}
use Rattle.assignments.specs.Notes.{Listed}
use Rattle.assignments.proofs.Occurring.{all_occur}

-- A run that has each element of a list is that list.
pub run_is : {X : Type 0} (xs : List X) (d : X) (s : ℕ) (g : ℕ → X) → ((j : ℕ) → j < length xs → g (s + j) ≡ get_or xs j d) → run g s (length xs) ≡ xs
unfolding run
run_is [] d s g h = refl
run_is (x ∷ xs) d s g h =
    let p : g s ≡ x = ap g (omega arith) ∙ h 0 (omega arith) in
    let q : run g (suc s) (length xs) ≡ xs = run_is xs d (suc s) g (λ j l. ap g (omega arith) ∙ h (suc j) (omega arith)) in
    ap (λ z. z ∷ run g (suc s) (length xs)) p ∙ ap (◌∷◌ x) q

nothing_else : {X : Type 0} {x : X} {xs : List X} → x ∷ xs ≡ [] → ⊥
nothing_else e = let z : ◌≡◌ {A = ℕ} 0 1 = cc in omega arith

-- What has no assignment, by field and occurrence.
unnamed_field : (ws : List Assignment) (f : Field) (i k : ℕ) → to_field ws f.name i ≡ [] → assigned ws (record { field = f; occurrence = i; value = k }) ≡ none
unfolding assigned to_field filter same_place
unnamed_field [] f i k e = refl
unnamed_field (a ∷ ws) f i k e = by_test (eqb a.place.field.name f.name && eqb a.place.occurrence i)
    (λ t. absurd (nothing_else (rw (t, filter) at e)))
    (λ t. rw (t, assigned) (unnamed_field ws f i k (rw (t, filter) at e)))

pub unnamed_part : (ws : List Assignment) (p : Part) (n : ℕ) (f : Field) → member n p.members ≡ some f → to_part ws p ≡ [] → (i : ℕ) → to_field ws n i ≡ []
unfolding to_part to_field filter absent
unnamed_part [] p n f m e i = refl
unnamed_part (a ∷ ws) p n f m e i = by_test (eqb a.place.field.name n && eqb a.place.occurrence i)
    (λ t.
    let x = eqb→eq a.place.field.name n (and_left (eqb a.place.field.name n) (eqb a.place.occurrence i) (true_T t)) in
    absurd (nothing_else (rw (x, m, filter) at e)))
    (λ t. rw (t, filter) (unnamed_part ws p n f m (by_test (absent (member a.place.field.name p.members))
    (λ u. rw (u, filter) at e) (λ u. absurd (nothing_else (rw (u, filter) at e)))) i))

-- The highest occurrence named of a part is 0 only where none is named, since occurrences count from 1.
abbrev Occurs : Assignment → Type 0
Occurs a = 1 ≤ a.place.occurrence

none_above : (ws : List Assignment) (p : Part) → All Occurs ws → highest_occurrence ws p ≡ 0 → to_part ws p ≡ []
unfolding highest_occurrence to_part filter maximum absent
none_above [] p a e = refl
none_above (w ∷ ws) p a e = by_test (absent (member w.place.field.name p.members))
    (λ t. rw (t, filter) (none_above ws p a.1 (rw (t, filter) at e)))
    (λ t. absurd (let z = rw (t, filter) at e in omega (arith, z, a.0)))

pub none_named : {es : List Entry} {f : Bytes} {kept : List ℕ} {count : ℕ} {list : List ℕ} {stage : Bytes} {ws : List Assignment} → Listed es f kept count list stage ws
    → (p : Part) → highest_occurrence ws p ≡ 0 → to_part ws p ≡ []
none_named {ws = ws} l p e = none_above ws p (all_occur l) e

-- The counts of what is not named.
kept_count : (ws : List Assignment) (n i old : ℕ) → to_field ws n i ≡ [] → new_value_count ws n i old ≡ old
unfolding new_value_count highest_value bare_only maximum
kept_count ws n i old e =
    let b : bare_only (to_field ws n i) ≡ false = rw e in
    let m : maximum (map (λ a. a.place.value) (to_field ws n i)) ≡ 0 = rw e in
    rw (b, new_value_count) (omega arith)

pub kept_group_count : (ws : List Assignment) (p : Part) (old : ℕ) → to_part ws p ≡ [] → new_group_count ws p old ≡ old
unfolding new_group_count highest_occurrence maximum
kept_group_count ws p old e =
    let m : maximum (map (λ a. a.place.occurrence) (to_part ws p)) ≡ 0 = rw e in
    omega arith

kept_new_value : (ws : List Assignment) (old : Bytes) (p : Place) → assigned ws p ≡ none → new_value ws old p ≡ old
unfolding new_value
kept_new_value ws old p e = rw (e, new_value)

pub one_or : (c : Bool) (n m : ℕ) → n ≡ m → (c ≡ false → m ≡ 1) → count_or_one c n ≡ m
unfolding count_or_one
one_or true n m e h = e
one_or false n m e h = sym (h refl)

module _ (ps : List Part) (r : Record) (ws : List Assignment) (i : ℕ) (f : Field) where
  value_kept : (k : ℕ) → assigned ws (record { field = f; occurrence = i; value = k }) ≡ none → (update_plan ps r ws).value f i k ≡ value_at ps r f i k
  unfolding update_plan
  value_kept k e = kept_new_value ws _ _ e

  module _ (un : to_field ws f.name i ≡ []) where
    values_kept : (f.multiple ≡ false → length (values_at ps r f.name i) ≡ 1) → (update_plan ps r ws).values f i ≡ length (values_at ps r f.name i)
    unfolding update_plan value_count_at
    values_kept one = one_or f.multiple _ (length (values_at ps r f.name i)) (kept_count ws f.name i _ un) one

    pub cell_kept : (f.multiple ≡ false → length (values_at ps r f.name i) ≡ 1) → laid_cell (update_plan ps r ws) i f ≡ values_at ps r f.name i
    unfolding laid_cell value_at
    cell_kept one = rw (values_kept one) (run_is (values_at ps r f.name i) (null f.format f.size) 1 (λ k. (update_plan ps r ws).value f i k)
        (λ j l. ap (λ k. (update_plan ps r ws).value f i k) (omega arith) ∙ value_kept (suc j) (unnamed_field ws f i (suc j) un)))
