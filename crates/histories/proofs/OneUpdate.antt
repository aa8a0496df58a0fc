-- One update, seen from one occurrence: it takes the value assigned to it; else bare names that did not reach it make it null; else it
-- keeps its own.
use mathlib.Core.Path.{◌≡◌, refl, sym, ◌∙◌}
use mathlib.Core.Bool.{Bool, true, false, ◌&&◌}
use mathlib.Core.Option.{none, some}
use mathlib.Core.List.{List, [], ◌∷◌, map}
use Prim.Native.Nat.{ℕ, zero, suc, ◌≤◌, ◌<◌}
use native.Mathlib.Nat.{not-suc-le-zero}
use native.Mathlib.Omega.{arith}
use borrow.Author.Tests.{ne_eqb, eqb-false}
use lib.Dec.{T, eqb, eqb_refl}
use lib.ListN.{length, get_or-eq_default}
use Rattle.rules.specs.Lists.{Bytes, absent, any, filter, maximum}
use Rattle.rules.specs.Values.{null}
use Rattle.rules.specs.Table.{Field, Part}
use Rattle.rules.specs.Record.{Record, count_or_one, values_at, value_at, value_count_at}
use Rattle.rules.specs.Use.{Place}
use Rattle.rules.specs.Update.{Assignment, same_place, assigned, to_field, to_part, bare_only, highest_occurrence, highest_value, new_value_count, new_group_count, new_value, update_plan, after_update}
use Rattle.rules.proofs.Steps.{by_test, by_option, not_some, not_both, true_T, T_true, eqb_same}
use Rattle.rules.proofs.Places.{counting, there}
use Rattle.rules.proofs.Home.{home, Occurs, home_member}
use Rattle.rules.proofs.Laid.{occurrences_at, values_past, laid_value, laid_value_past, laid_occurrence_past, within_count}
use Rattle.rules.proofs.Assigned.{same_place_eq}
use Rattle.buffer.proofs.Cases.{by_order}
use Rattle.histories.specs.History.{Writes}

-- What the names of an update's format give: bare names stand for 1, 2, .. in order, and every value that is named gets a place.
pub record Orderly (ws : Writes) : Type 0 where
  pub in_turn : (n i : ℕ) → bare_only (to_field ws n i) ≡ true → map (λ a. a.place.value) (to_field ws n i) ≡ counting 1 (length (to_field ws n i))
  pub counted : (n i old : ℕ) → highest_value ws n i ≤ new_value_count ws n i old
  pub number : (n i : ℕ) → bare_only (to_field ws n i) ≡ true → length (to_field ws n i) ≡ highest_value ws n i

-- The greatest of the numbers that pass a test is no less than one of them.
maximum_filter : (g : Assignment → ℕ) (t : Assignment → Bool) (ws : Writes) (p : Place) {b : Bytes} → assigned ws p ≡ some b
    → ((a : Assignment) → T (same_place a.place p) → t a ≡ true) → (m : ℕ) → ((a : Assignment) → T (same_place a.place p) → g a ≡ m)
    → m ≤ maximum (map g (filter t ws))
unfolding assigned filter maximum
maximum_filter g t [] p e y m z = absurd (not_some e)
maximum_filter g t (a ∷ ws) p e y m z = by_test (same_place a.place p)
    (λ s. rw (y a (true_T s), filter) (let q = z a (true_T s) in omega arith))
    (λ s. let ih = maximum_filter g t ws p (rw (s, assigned) at e) y m z in
    by_test (t a) (λ u. rw (u, filter) (omega arith)) (λ u. rw (u, filter) ih))

past_one_or : (c : Bool) {i n : ℕ} → count_or_one c n < i → (c ≡ false → i ≡ 1) → n < i
unfolding count_or_one
past_one_or true h o = h
past_one_or false h o = let q = o refl in omega arith

pub value_past : (ps : List Part) (r : Record) (f : Field) (i k : ℕ) → value_count_at ps r f.name i < k → value_at ps r f i k ≡ null f.format f.size
unfolding value_at value_count_at
value_past ps r f i zero h = absurd (not-suc-le-zero h)
value_past ps r f i (suc k) h = get_or-eq_default (values_at ps r f.name i) _ (omega arith)

pub occurrence_past : (ps : List Part) (r : Record) (f : Field) (i k : ℕ) → occurrences_at ps r f.name < i → value_at ps r f i k ≡ null f.format f.size
unfolding value_at
occurrence_past ps r f i k h = rw (values_past ps r f.name i h)

-- What is not assigned is not among the values that are named.
unnamed : (n i k : ℕ) (f : Field) → f.name ≡ n → (ws : Writes) → assigned ws (record { field = f; occurrence = i; value = k }) ≡ none
    → any (eqb k) (map (λ a. a.place.value) (to_field ws n i)) ≡ false
unfolding assigned to_field filter any same_place
unnamed n i k f q [] e = refl
unnamed n i k f q (a ∷ ws) e = by_test (eqb a.place.field.name n && eqb a.place.occurrence i)
    (λ t. by_test (eqb a.place.value k)
    (λ u. absurd (not_some (sym (rw (q, t, u, assigned) at e))))
    (λ u. rw (t, filter, ne_eqb k a.place.value (λ z. eqb-false a.place.value k u (sym z))) (unnamed n i k f q ws (rw (q, t, u, assigned) at e))))
    (λ t. rw (t, filter) (unnamed n i k f q ws (rw (q, t, assigned) at e)))

bare_some : (ws : Writes) → bare_only ws ≡ true → 1 ≤ length ws
unfolding bare_only
bare_some [] h = absurd (not_both h)
bare_some (a ∷ ws) h = omega arith

module _ (ps : List Part) (r : Record) (ws : Writes) (good : Orderly ws) (p : Part) (f : Field) (i k : ℕ) (at : home f.name ps ≡ some (p, f)) (g : Occurs p f i k) where
  abbrev place : Place
  place = record { field = f; occurrence = i; value = k }

  named_occurrence : {b : Bytes} → assigned ws place ≡ some b → i ≤ highest_occurrence ws p
  unfolding highest_occurrence to_part absent
  named_occurrence e = maximum_filter _ _ ws place e
      (λ a t. rw ((same_place_eq a.place place t).0, home_member f.name ps p f at)) i
      (λ a t. (same_place_eq a.place place t).1)

  named_value : {b : Bytes} → assigned ws place ≡ some b → k ≤ highest_value ws f.name i
  unfolding highest_value to_field
  named_value e = maximum_filter _ (λ a. eqb a.place.field.name f.name && eqb a.place.occurrence i) ws place e
      (λ a t. let (n, o, v) = same_place_eq a.place place t in rw (n, o, eqb_same f.name, eqb_same i)) k
      (λ a t. (same_place_eq a.place place t).2)

  -- What is named is there in the new record.
  occurrence_there : {b : Bytes} → assigned ws place ≡ some b → i ≤ (update_plan ps r ws).occurrences p (occurrences_at ps r f.name)
  unfolding update_plan new_group_count
  occurrence_there e = within_count p.periodic (let h = named_occurrence e in omega arith) g.single

  value_there : {b : Bytes} → assigned ws place ≡ some b → k ≤ (update_plan ps r ws).values f i
  unfolding update_plan
  value_there e = within_count f.multiple (let h = named_value e in let c = good.counted f.name i (value_count_at ps r f.name i) in omega arith) g.plain

  named_reads : {b : Bytes} → assigned ws place ≡ some b → value_at ps (after_update ps r ws) f i k ≡ b
  unfolding after_update update_plan new_value
  named_reads e = laid_value (update_plan ps r ws) ps r p f at i k g.occurrence (occurrence_there e) g.value (value_there e) ∙ rw (e, new_value)

  -- What bare names did not reach lies past their number.
  unreached : assigned ws place ≡ none → bare_only (to_field ws f.name i) ≡ true → length (to_field ws f.name i) < k
  unreached e b = by_order (length (to_field ws f.name i)) k (λ h. h)
      (λ h. absurd (not_both (sym (unnamed f.name i k f refl ws e) ∙ T_true _
      (rw (good.in_turn f.name i b) (there (eqb k) 1 (length (to_field ws f.name i)) k g.value (omega arith) (eqb_refl k))))))

  bare_past : assigned ws place ≡ none → bare_only (to_field ws f.name i) ≡ true → (update_plan ps r ws).values f i < k
  unfolding update_plan new_value_count count_or_one
  bare_past e b = rw (b, new_value_count) (past f.multiple g.plain)
    where
      past : (c : Bool) → (c ≡ false → k ≡ 1) → count_or_one c (length (to_field ws f.name i)) < k
      past true o = unreached e b
      past false o = absurd (let h = unreached e b in let s = bare_some (to_field ws f.name i) b in let q = o refl in omega arith)

  kept_past : bare_only (to_field ws f.name i) ≡ false → (update_plan ps r ws).values f i < k → value_count_at ps r f.name i < k
  unfolding update_plan new_value_count
  kept_past b h = let q = past_one_or f.multiple (rw (b, new_value_count) at h) g.plain in omega arith

  dropped_reads : assigned ws place ≡ none → bare_only (to_field ws f.name i) ≡ true → value_at ps (after_update ps r ws) f i k ≡ null f.format f.size
  unfolding after_update
  dropped_reads e b = by_order ((update_plan ps r ws).occurrences p (occurrences_at ps r f.name)) i
      (λ h. laid_occurrence_past (update_plan ps r ws) ps r p f at i k h)
      (λ h. laid_value_past (update_plan ps r ws) ps r p f at i k g.occurrence h (bare_past e b))

  kept_reads : assigned ws place ≡ none → bare_only (to_field ws f.name i) ≡ false → value_at ps (after_update ps r ws) f i k ≡ value_at ps r f i k
  unfolding after_update update_plan new_value new_group_count
  kept_reads e b = by_order ((update_plan ps r ws).occurrences p (occurrences_at ps r f.name)) i
      (λ h. laid_occurrence_past (update_plan ps r ws) ps r p f at i k h
      ∙ sym (occurrence_past ps r f i k (let q = past_one_or p.periodic h g.single in omega arith)))
      (λ h. by_order ((update_plan ps r ws).values f i) k
      (λ h₂. laid_value_past (update_plan ps r ws) ps r p f at i k g.occurrence h h₂ ∙ sym (value_past ps r f i k (kept_past b h₂)))
      (λ h₂. laid_value (update_plan ps r ws) ps r p f at i k g.occurrence h g.value h₂ ∙ rw (e, new_value)))

  pub update_moves : value_at ps (after_update ps r ws) f i k ≡ elim (assigned ws place) [
    | some b ↦ b
    | none ↦ elim (bare_only (to_field ws f.name i)) [ true ↦ null f.format f.size | false ↦ value_at ps r f i k ]
  ]
  update_moves = by_option (assigned ws place)
      (λ b e. rw e (named_reads e))
      (λ e. by_test (bare_only (to_field ws f.name i))
      (λ b. rw (e, b) (dropped_reads e b))
      (λ b. rw (e, b) (kept_reads e b)))
