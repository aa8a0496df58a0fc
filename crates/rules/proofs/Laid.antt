-- A record that was laid out has the counts and the values of its plan.
use mathlib.Core.Path.{◌≡◌, refl, ◌∙◌, ap}
use mathlib.Core.Bool.{Bool, true, false}
use mathlib.Core.Option.{none, some}
use mathlib.Core.List.{List, [], ◌∷◌, map}
use Prim.Native.Nat.{ℕ, zero, suc, pred, ◌≤◌, ◌<◌}
use native.Mathlib.Nat.{not-suc-le-zero, le_of_suc-le-suc}
use native.Mathlib.Omega.{arith}
use lib.Dec.{eqb}
use lib.ListN.{length, get_or, get_or-eq_default}
use Rattle.rules.specs.Values.{null}
use Rattle.rules.specs.Table.{Field, Part, member}
use Rattle.rules.specs.Record.{Cell, Record, Plan, laid_out, laid_part, laid_cell, count_or_one, cell_of, values_at, value_at, group_count_at}
use Rattle.rules.proofs.Steps.{by_test, by_option, not_some, some_inj, from_some_pair}
use Rattle.rules.proofs.Runs.{run_length, run_from_one, run_past}
use Rattle.rules.proofs.Home.{home}

-- The cell of a field among those of the fields of its part.
cell_law : (c : Field → Cell) (n : ℕ) (fs : List Field) (f : Field) → member n fs ≡ some f → cell_of n fs (map c fs) ≡ c f
unfolding cell_of member
cell_law c n [] f p = absurd (not_some p)
cell_law c n (g ∷ fs) f p = by_test (eqb g.name n)
    (λ e. rw (e, cell_of) (ap c (some_inj (rw (e, member) at p))))
    (λ e. rw (e, cell_of) (cell_law c n fs f (rw (e, member) at p)))

pub cell_none : (n : ℕ) (fs : List Field) → cell_of n fs [] ≡ []
unfolding cell_of
cell_none n [] = refl
cell_none n (f ∷ fs) = refl

-- What is within a count, or is 1 where nothing is counted. A record type has η, so that the flag is handed to a law that splits it.
pub within_count : (c : Bool) {i n : ℕ} → i ≤ n → (c ≡ false → i ≡ 1) → i ≤ count_or_one c n
unfolding count_or_one
within_count true h o = h
within_count false h o = let q = o refl in omega arith

-- How many occurrences the part has that the field n stands in.
unfoldable pub occurrences_at : List Part → Record → ℕ → ℕ
occurrences_at [] r n = 0
occurrences_at (p ∷ ps) [] n = 0
occurrences_at (p ∷ ps) (os ∷ r) n = elim (member n p.members) [ some f ↦ length os | none ↦ occurrences_at ps r n ]

-- A record of nothing has no occurrences, and counts of 0.
pub occurrences_none : (ps : List Part) (n : ℕ) → occurrences_at ps [] n ≡ 0
unfolding occurrences_at
occurrences_none [] n = refl
occurrences_none (p ∷ ps) n = refl

pub group_none : (ps : List Part) (n : ℕ) → group_count_at ps [] n ≡ 0
unfolding group_count_at
group_none [] n = refl
group_none (p ∷ ps) n = refl

pub values_past : (ps : List Part) (r : Record) (n i : ℕ) → occurrences_at ps r n < i → values_at ps r n i ≡ []
unfolding values_at occurrences_at
values_past [] r n i h = refl
values_past (p ∷ ps) [] n i h = refl
values_past (p ∷ ps) (os ∷ r) n zero h = absurd (not-suc-le-zero h)
values_past (p ∷ ps) (os ∷ r) n (suc i) h = by_option (member n p.members)
    (λ f e. rw (e, values_at) (rw (get_or-eq_default os [] {n = i} (le_of_suc-le-suc (rw (e, occurrences_at) at h))) (cell_none n p.members)))
    (λ e. rw (e, values_at) (values_past ps r n (suc i) (rw (e, occurrences_at) at h)))

module _ (w : Plan) (n : ℕ) where
  part_law : (p : Part) (f : Field) (old i : ℕ) → member n p.members ≡ some f → 1 ≤ i → i ≤ w.occurrences p old
      → cell_of n p.members (get_or (laid_part w p old) (pred i) []) ≡ laid_cell w i f
  unfolding laid_part
  part_law p f old i m o h = rw (run_from_one (λ i. map (laid_cell w i) p.members) (w.occurrences p old) i [] o h) (cell_law (laid_cell w i) n p.members f m)

  pub laid_occurrences : (ps : List Part) (r : Record) (p : Part) (f : Field) → home n ps ≡ some (p, f)
      → occurrences_at ps (laid_out w ps r) n ≡ w.occurrences p (occurrences_at ps r n)
  unfolding occurrences_at home laid_out laid_part
  laid_occurrences [] r p f h = absurd (not_some h)
  laid_occurrences (q ∷ ps) [] p f h = by_option (member n q.members)
      (λ g e. from_some_pair (rw (e, home) at h) λ a b. rw (e, occurrences_at, ← a) (run_length _ 1 _))
      (λ e. rw (e, occurrences_at) (laid_occurrences ps [] p f (rw (e, home) at h) ∙ rw (occurrences_none ps n)))
  laid_occurrences (q ∷ ps) (os ∷ r) p f h = by_option (member n q.members)
      (λ g e. from_some_pair (rw (e, home) at h) λ a b. rw (e, occurrences_at, ← a) (run_length _ 1 _))
      (λ e. rw (e, occurrences_at) (laid_occurrences ps r p f (rw (e, home) at h)))

  pub laid_values : (ps : List Part) (r : Record) (p : Part) (f : Field) → home n ps ≡ some (p, f) → (i : ℕ) → 1 ≤ i
      → i ≤ w.occurrences p (occurrences_at ps r n) → values_at ps (laid_out w ps r) n i ≡ laid_cell w i f
  unfolding values_at home laid_out occurrences_at
  laid_values [] r p f h i o l = absurd (not_some h)
  laid_values (q ∷ ps) [] p f h i o l = by_option (member n q.members)
      (λ g e. from_some_pair (rw (e, home) at h) λ a b. rw (e, values_at) (part_law q g 0 i e o (rw (← a) at l) ∙ ap (laid_cell w i) b))
      (λ e. rw (e, values_at) (laid_values ps [] p f (rw (e, home) at h) i o (rw (occurrences_none ps n) l)))
  laid_values (q ∷ ps) (os ∷ r) p f h i o l = by_option (member n q.members)
      (λ g e. from_some_pair (rw (e, home) at h) λ a b. rw (e, values_at) (part_law q g (length os) i e o (rw (← a, e, occurrences_at) at l) ∙ ap (laid_cell w i) b))
      (λ e. rw (e, values_at) (laid_values ps r p f (rw (e, home) at h) i o (rw (e, occurrences_at) at l)))

module _ (w : Plan) (ps : List Part) (r : Record) (p : Part) (f : Field) (at : home f.name ps ≡ some (p, f)) (i : ℕ) where
  -- An occurrence that is not there has no values.
  pub laid_values_past : w.occurrences p (occurrences_at ps r f.name) < i → values_at ps (laid_out w ps r) f.name i ≡ []
  laid_values_past h = values_past ps (laid_out w ps r) f.name i (rw (laid_occurrences w f.name ps r p f at) h)

  module _ (k : ℕ) where
    pub laid_value : 1 ≤ i → i ≤ w.occurrences p (occurrences_at ps r f.name) → 1 ≤ k → k ≤ w.values f i → value_at ps (laid_out w ps r) f i k ≡ w.value f i k
    unfolding value_at laid_cell
    laid_value o h o₂ h₂ = rw (laid_values w f.name ps r p f at i o h) (run_from_one _ _ k _ o₂ h₂)

    pub laid_value_past : 1 ≤ i → i ≤ w.occurrences p (occurrences_at ps r f.name) → w.values f i < k → value_at ps (laid_out w ps r) f i k ≡ null f.format f.size
    unfolding value_at laid_cell
    laid_value_past o h h₂ = rw (laid_values w f.name ps r p f at i o h) (run_past _ 1 _ k _ h₂)

    pub laid_occurrence_past : w.occurrences p (occurrences_at ps r f.name) < i → value_at ps (laid_out w ps r) f i k ≡ null f.format f.size
    unfolding value_at
    laid_occurrence_past h = rw (laid_values_past h)
