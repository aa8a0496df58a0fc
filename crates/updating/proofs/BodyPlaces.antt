-- The places of a record laid out by a plan: together their values are no longer than its body, and a place within its counts is one of
-- them.
use mathlib.Core.Path.{◌≡◌, refl, sym, ◌∙◌, ap}
use mathlib.Core.Bool.{Bool, true, false, ◌||◌}
use mathlib.Core.List.{List, [], ◌∷◌, ◌++◌, map}
use mathlib.Core.Option.{some}
use Prim.Native.Nat.{ℕ, zero, suc, ◌+◌, ◌≤◌, ◌<◌}
use native.Mathlib.Omega.{arith}
use borrow.Author.Tests.{eqb-true, eqb-false}
use lib.Dec.{eqb}
use lib.ListN.{length, length-append}
use Rattle.rules.specs.Lists.{any, join, run}
use Rattle.rules.specs.Table.{Field, Part, member}
use Rattle.rules.specs.Record.{Plan, Record, cell_bytes, each_bytes, part_bytes, body_bytes, laid_cell, laid_part, laid_out}
use Rattle.rules.specs.Use.{Place}
use Rattle.rules.specs.Update.{same_place}
use Rattle.rules.proofs.Steps.{by_test, by_option, not_some, some_inj, from_some_pair}
use Rattle.rules.proofs.Places.{any_append}
use Rattle.rules.proofs.Home.{home}
use Rattle.rules.proofs.Laid.{occurrences_at, occurrences_none}
use Rattle.rules.proofs.Assigned.{same_self}
use Rattle.updating.specs.Laid.{count_byte, values_laid, cell_laid}
use Rattle.updating.proofs.Occurrences.{counted_as, cell_as}
use Rattle.updating.proofs.Sums.{found, sums, sums_append}

module _ (w : Plan) where
  unfoldable pub cell_places : ℕ → Field → List Place
  cell_places i f = run (λ k. record { field = f; occurrence = i; value = k }) 1 (w.values f i)

  unfoldable pub occurrence_places : List Field → ℕ → List Place
  occurrence_places fs i = join (map (cell_places i) fs)

  unfoldable pub part_places : Part → ℕ → List Place
  part_places p old = join (run (occurrence_places p.members) 1 (w.occurrences p old))

  unfoldable pub body_places : List Part → Record → List Place
  body_places [] r = []
  body_places (p ∷ ps) [] = part_places p 0 ++ body_places ps []
  body_places (p ∷ ps) (os ∷ r) = part_places p (length os) ++ body_places ps r

  unfoldable pub weight : Place → ℕ
  weight q = length (w.value q.field q.occurrence q.value)

  values_sum : (f : Field) (i k n : ℕ) → sums weight (run (λ j. record { field = f; occurrence = i; value = j }) k n) ≡ length (values_laid w f i k n)
  unfolding sums run values_laid weight
  values_sum f i k zero = refl
  values_sum f i k (suc n) = ap (λ m. length (w.value f i k) + m) (values_sum f i (suc k) n) ∙ sym (length-append (w.value f i k) (values_laid w f i (suc k) n))

  cell_sum : (i : ℕ) (f : Field) → sums weight (cell_places i f) ≤ length (cell_bytes f (laid_cell w i f))
  unfolding cell_places cell_laid
  cell_sum i f =
      let h = values_sum f i 1 (w.values f i) in
      let l = ap length (cell_as w i f) ∙ length-append (count_byte f.multiple (w.values f i)) (values_laid w f i 1 (w.values f i)) in
      omega arith

  occurrence_sum : (i : ℕ) (fs : List Field) → sums weight (occurrence_places fs i) ≤ length (each_bytes cell_bytes fs (map (laid_cell w i) fs))
  unfolding occurrence_places join each_bytes sums
  occurrence_sum i [] = omega arith
  occurrence_sum i (f ∷ fs) =
      let h = cell_sum i f in
      let g = occurrence_sum i fs in
      let a = sums_append weight (cell_places i f) (occurrence_places fs i) in
      let b = length-append (cell_bytes f (laid_cell w i f)) (each_bytes cell_bytes fs (map (laid_cell w i) fs)) in
      omega arith

  occurrences_sum : (fs : List Field) (s n : ℕ) → sums weight (join (run (occurrence_places fs) s n)) ≤ length (join (map (each_bytes cell_bytes fs) (run (λ i. map (laid_cell w i) fs) s n)))
  unfolding join run sums
  occurrences_sum fs s zero = omega arith
  occurrences_sum fs s (suc n) =
      let h = occurrence_sum s fs in
      let g = occurrences_sum fs (suc s) n in
      let a = sums_append weight (occurrence_places fs s) (join (run (occurrence_places fs) (suc s) n)) in
      let b = length-append (each_bytes cell_bytes fs (map (laid_cell w s) fs)) (join (map (each_bytes cell_bytes fs) (run (λ i. map (laid_cell w i) fs) (suc s) n))) in
      omega arith

  part_sum : (p : Part) (old : ℕ) → sums weight (part_places p old) ≤ length (part_bytes p (laid_part w p old))
  unfolding part_places part_bytes laid_part
  part_sum p old =
      let os = run (λ i. map (laid_cell w i) p.members) 1 (w.occurrences p old) in
      let h = occurrences_sum p.members 1 (w.occurrences p old) in
      let l = ap length (counted_as p.periodic (each_bytes cell_bytes p.members) os) ∙ length-append (count_byte p.periodic (length os)) (join (map (each_bytes cell_bytes p.members) os)) in
      omega arith

  pub body_sum : (ps : List Part) (r : Record) → sums weight (body_places ps r) ≤ length (body_bytes ps (laid_out w ps r))
  unfolding body_places body_bytes each_bytes laid_out sums
  body_sum [] r = omega arith
  body_sum (p ∷ ps) [] =
      let h = part_sum p 0 in
      let g = body_sum ps [] in
      let a = sums_append weight (part_places p 0) (body_places ps []) in
      let b = length-append (part_bytes p (laid_part w p 0)) (body_bytes ps (laid_out w ps [])) in
      omega arith
  body_sum (p ∷ ps) (os ∷ r) =
      let h = part_sum p (length os) in
      let g = body_sum ps r in
      let a = sums_append weight (part_places p (length os)) (body_places ps r) in
      let b = length-append (part_bytes p (laid_part w p (length os))) (body_bytes ps (laid_out w ps r)) in
      omega arith

-- ---- a place within the counts is one of them

or_first : (a b : Bool) → a ≡ true → (a || b) ≡ true
or_first a b e = rw e

or_second : (a b : Bool) → b ≡ true → (a || b) ≡ true
or_second true b e = refl
or_second false b e = e

module _ {A : Type 0} (t : A → Bool) where
  any_left : (xs ys : List A) → any t xs ≡ true → any t (xs ++ ys) ≡ true
  any_left xs ys h = any_append t xs ys ∙ or_first (any t xs) (any t ys) h

  any_right : (xs ys : List A) → any t ys ≡ true → any t (xs ++ ys) ≡ true
  any_right xs ys h = any_append t xs ys ∙ or_second (any t xs) (any t ys) h

  any_run : (g : ℕ → A) (s n k : ℕ) → s ≤ k → k < s + n → t (g k) ≡ true → any t (run g s n) ≡ true
  unfolding any run
  any_run g s zero k l h e = absurd (omega arith)
  any_run g s (suc n) k l h e = by_test (eqb s k)
      (λ u. or_first (t (g s)) _ (ap (λ j. t (g j)) (eqb-true s k u) ∙ e))
      (λ u. or_second (t (g s)) _ (any_run g (suc s) n k (let d = eqb-false s k u in omega arith) (omega arith) e))

  any_runs : (g : ℕ → List A) (s n k : ℕ) → s ≤ k → k < s + n → any t (g k) ≡ true → any t (join (run g s n)) ≡ true
  unfolding join run
  any_runs g s zero k l h e = absurd (omega arith)
  any_runs g s (suc n) k l h e = by_test (eqb s k)
      (λ u. any_left (g s) (join (run g (suc s) n)) (ap (λ j. any t (g j)) (eqb-true s k u) ∙ e))
      (λ u. any_right (g s) (join (run g (suc s) n)) (any_runs g (suc s) n k (let d = eqb-false s k u in omega arith) (omega arith) e))

module _ (w : Plan) (q : Place) (o : 1 ≤ q.occurrence) (v : 1 ≤ q.value) (m : q.value ≤ w.values q.field q.occurrence) where
  cell_found : found (cell_places w q.occurrence q.field) q ≡ true
  unfolding cell_places
  cell_found = any_run (λ p. same_place p q) (λ k. record { field = q.field; occurrence = q.occurrence; value = k }) 1 (w.values q.field q.occurrence) q.value v (omega arith) (same_self q)

  occurrence_found : (fs : List Field) → member q.field.name fs ≡ some q.field → found (occurrence_places w fs q.occurrence) q ≡ true
  unfolding occurrence_places member join
  occurrence_found [] e = absurd (not_some e)
  occurrence_found (g ∷ fs) e = by_test (eqb g.name q.field.name)
      (λ t. any_left (λ p. same_place p q) (cell_places w q.occurrence g) (occurrence_places w fs q.occurrence)
      (ap (λ f. found (cell_places w q.occurrence f) q) (some_inj (rw (t, member) at e)) ∙ cell_found))
      (λ t. any_right (λ p. same_place p q) (cell_places w q.occurrence g) (occurrence_places w fs q.occurrence) (occurrence_found fs (rw (t, member) at e)))

  part_found : (p : Part) (old : ℕ) → member q.field.name p.members ≡ some q.field → q.occurrence ≤ w.occurrences p old → found (part_places w p old) q ≡ true
  unfolding part_places
  part_found p old e l = any_runs (λ p. same_place p q) (occurrence_places w p.members) 1 (w.occurrences p old) q.occurrence o (omega arith) (occurrence_found p.members e)

  pub body_found : (ps : List Part) (r : Record) (p : Part) → home q.field.name ps ≡ some (p, q.field) → q.occurrence ≤ w.occurrences p (occurrences_at ps r q.field.name)
      → found (body_places w ps r) q ≡ true
  unfolding home occurrences_at body_places
  body_found [] r p h l = absurd (not_some h)
  body_found (x ∷ ps) [] p h l = by_option (member q.field.name x.members)
      (λ g e. from_some_pair (rw (e, home) at h) λ a b. any_left _ (part_places w x 0) (body_places w ps []) (part_found x 0 (e ∙ ap (λ f. some f) b) (rw (← a) at l)))
      (λ e. any_right _ (part_places w x 0) (body_places w ps []) (body_found ps [] p (rw (e, home) at h) (rw (occurrences_none ps q.field.name) l)))
  body_found (x ∷ ps) (os ∷ r) p h l = by_option (member q.field.name x.members)
      (λ g e. from_some_pair (rw (e, home) at h) λ a b.
      any_left _ (part_places w x (length os)) (body_places w ps r) (part_found x (length os) (e ∙ ap (λ f. some f) b) (rw (← a, e, occurrences_at) at l)))
      (λ e. any_right _ (part_places w x (length os)) (body_places w ps r) (body_found ps r p (rw (e, home) at h) (rw (e, occurrences_at) at l)))
