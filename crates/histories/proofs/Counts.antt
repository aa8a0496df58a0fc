-- Counts after one update are those of document 01's rule: of a periodic group, and of an MU field in any occurrence.
use mathlib.Core.Path.{◌≡◌, refl, sym, ◌∙◌}
use mathlib.Core.Bool.{Bool, true, false, ◌&&◌}
use mathlib.Core.Option.{some}
use mathlib.Core.List.{List, [], ◌∷◌, map}
use Prim.Native.Nat.{ℕ, ◌≤◌, ◌<◌}
use native.Mathlib.Omega.{arith}
use lib.Dec.{eqb, eqb→eq}
use lib.ListN.{length}
use Rattle.rules.specs.Lists.{absent, filter, maximum}
use Rattle.rules.specs.Table.{Field, Part, member, part_named}
use Rattle.rules.specs.Record.{Record, Plan, laid_out, laid_part, laid_cell, count_or_one, value_count_at, group_count_at}
use Rattle.rules.specs.Update.{to_field, to_part, bare_only, highest_occurrence, highest_value, new_value_count, new_group_count, update_plan, after_update}
use Rattle.rules.proofs.Steps.{by_test, not_some, some_inj, and_left, and_right, true_T}
use Rattle.rules.proofs.Home.{home, home_member}
use Rattle.rules.proofs.Runs.{run_length}
use Rattle.rules.proofs.Laid.{occurrences_at, values_past, laid_values, laid_values_past, group_none}
use Rattle.buffer.proofs.Cases.{by_order}
use Rattle.histories.specs.History.{Writes}

pub laid_group : (w : Plan) (ps : List Part) (r : Record) (n : ℕ) (p : Part) → part_named n ps ≡ some p → group_count_at ps (laid_out w ps r) n ≡ w.occurrences p (group_count_at ps r n)
unfolding part_named group_count_at laid_out laid_part
laid_group w [] r n p e = absurd (not_some e)
laid_group w (q ∷ ps) [] n p e = by_test (eqb q.name n)
    (λ t. let i = some_inj (rw (t, part_named) at e) in rw (t, group_count_at, ← i) (run_length _ 1 (w.occurrences q 0)))
    (λ t. rw (t, group_count_at) (laid_group w ps [] n p (rw (t, part_named) at e) ∙ rw (group_none ps n)))
laid_group w (q ∷ ps) (os ∷ r) n p e = by_test (eqb q.name n)
    (λ t. let i = some_inj (rw (t, part_named) at e) in rw (t, group_count_at, ← i) (run_length _ 1 (w.occurrences q (length os))))
    (λ t. rw (t, group_count_at) (laid_group w ps r n p (rw (t, part_named) at e)))

counted_one : (c : Bool) (n : ℕ) → c ≡ true → count_or_one c n ≡ n
unfolding count_or_one
counted_one true n e = refl
counted_one false n e = absurd (let z : ◌≡◌ {A = ℕ} 0 1 = cc in omega arith)

-- "an index of a field in a periodic group raises that group's count likewise"
pub group_moves : (ps : List Part) (r : Record) (ws : Writes) (n : ℕ) (p : Part) → part_named n ps ≡ some p → p.periodic ≡ true
    → group_count_at ps (after_update ps r ws) n ≡ new_group_count ws p (group_count_at ps r n)
unfolding after_update update_plan
group_moves ps r ws n p e c = laid_group (update_plan ps r ws) ps r n p e ∙ counted_one p.periodic _ c

-- Nothing is named in an occurrence past the highest one.
unnamed_past : (n i : ℕ) (p : Part) (f : Field) → member n p.members ≡ some f → (ws : Writes) → highest_occurrence ws p < i → to_field ws n i ≡ []
unfolding highest_occurrence to_part to_field filter maximum absent
unnamed_past n i p f m [] h = refl
unnamed_past n i p f m (a ∷ ws) h = by_test (eqb a.place.field.name n && eqb a.place.occurrence i)
    (λ t.
    let x = eqb→eq a.place.field.name n (and_left (eqb a.place.field.name n) (eqb a.place.occurrence i) (true_T t)) in
    let y = eqb→eq a.place.occurrence i (and_right (eqb a.place.field.name n) (eqb a.place.occurrence i) (true_T t)) in
    absurd (let z = rw (x, m, filter) at h in omega arith))
    (λ t. rw (t, filter) (unnamed_past n i p f m ws (by_test (absent (member a.place.field.name p.members))
    (λ u. rw (u, filter) at h) (λ u. let z = rw (u, filter) at h in omega arith))))

unnamed_count : (ws : Writes) (n i : ℕ) → to_field ws n i ≡ [] → new_value_count ws n i 0 ≡ 0
unfolding new_value_count highest_value bare_only maximum
unnamed_count ws n i e =
    let b : bare_only (to_field ws n i) ≡ false = rw e in
    let m : maximum (map (λ a. a.place.value) (to_field ws n i)) ≡ 0 = rw e in
    rw (b, new_value_count) (omega arith)

module _ (ps : List Part) (r : Record) (ws : Writes) (p : Part) (f : Field) (i : ℕ) (at : home f.name ps ≡ some (p, f)) (first : 1 ≤ i) (single : p.periodic ≡ false → i ≡ 1)
    (many : f.multiple ≡ true) where
  past_count : (c : Bool) → (c ≡ false → i ≡ 1) → count_or_one c (new_group_count ws p (occurrences_at ps r f.name)) < i
      → (occurrences_at ps r f.name < i) × (highest_occurrence ws p < i)
  unfolding count_or_one new_group_count
  past_count true o h = (omega arith, omega arith)
  past_count false o h = absurd (let q = o refl in omega arith)

  pub count_moves : value_count_at ps (after_update ps r ws) f.name i ≡ new_value_count ws f.name i (value_count_at ps r f.name i)
  unfolding after_update update_plan value_count_at laid_cell
  count_moves = by_order ((update_plan ps r ws).occurrences p (occurrences_at ps r f.name)) i
      (λ h.
      let q = past_count p.periodic single h in
      rw (laid_values_past (update_plan ps r ws) ps r p f at i h, values_past ps r f.name i q.0) (sym (unnamed_count ws f.name i (unnamed_past f.name i p f (home_member f.name ps p f at) ws q.1))))
      (λ h. rw (laid_values (update_plan ps r ws) f.name ps r p f at i first h) (run_length _ 1 _ ∙ counted_one f.multiple _ many))
