-- Where value 1 of each field in occurrence 1 stands, with one assignment more: it stays where one was noted, and else it is the new one, if
-- that is given to it.
use mathlib.Core.Path.{◌≡◌, refl, sym, ◌∙◌, ap, subst}
use mathlib.Core.Bool.{Bool, true, false, ◌&&◌}
use mathlib.Core.List.{List, [], ◌∷◌, ◌++◌, append_assoc}
use mathlib.Core.Option.{none, some}
use Prim.Native.Nat.{ℕ, zero, suc, ◌+◌, ◌≤◌, ◌<◌}
use native.Mathlib.Omega.{arith}
use borrow.Author.Tests.{eqb-true, ne_eqb}
use lib.Dec.{eqb}
use lib.ListN.{length, get_or, length-set}
use lib.Seq.{get_or-set_same, get_or-set_other}
use Rattle.rules.specs.Limits.{most_entries}
use Rattle.rules.specs.Lists.{Bytes}
use Rattle.rules.specs.Table.{Entry, differ, names, field, group}
use Rattle.rules.specs.Use.{Place}
use Rattle.rules.specs.Update.{Assignment, same_place, assigned}
use Rattle.rules.proofs.Steps.{by_test, not_some, true_T}
use Rattle.rules.proofs.Bools.{and_both}
use Rattle.rules.proofs.Named.{true_not_false}
use Rattle.rules.proofs.Assigned.{same_place_eq, same_self}
use Rattle.tables.specs.Entries.{blank, is_group}
use Rattle.tables.specs.Groups.{field_at, field_by}
use Rattle.tables.proofs.Names.{one_name}
use Rattle.assignments.specs.Notes.{firsts_from, uses_from, note_place, first_noted, place_at, bytes_given, TakesAt, Firsts, Unindexed}
use Rattle.assignments.specs.Answers.{first_put}
use Rattle.taking.specs.Taking.{noted}

-- What is assigned, with one more: what was stays.
assigned_kept : (ws vs : List Assignment) (q : Place) (b : Bytes) → assigned ws q ≡ some b → assigned (ws ++ vs) q ≡ some b
unfolding assigned
assigned_kept [] vs q b e = absurd (not_some e)
assigned_kept (w ∷ ws) vs q b e = by_test (same_place w.place q) (λ t. rw (t, assigned) (rw (t, assigned) at e)) (λ t. rw (t, assigned) (assigned_kept ws vs q b (rw (t, assigned) at e)))

assigned_new : (ws vs : List Assignment) (q : Place) → assigned ws q ≡ none → assigned (ws ++ vs) q ≡ assigned vs q
unfolding assigned
assigned_new [] vs q e = refl
assigned_new (w ∷ ws) vs q e = by_test (same_place w.place q) (λ t. absurd (not_some (sym (rw (t, assigned) at e)))) (λ t. rw (t, assigned) (assigned_new ws vs q (rw (t, assigned) at e)))

assigned_one : (a : Assignment) (q : Place) → a.place ≡ q → assigned (a ∷ []) q ≡ some a.bytes
unfolding assigned
assigned_one a q e = let t = ap (λ p. same_place p q) e ∙ same_self q in rw (t, assigned)

assigned_other : (a : Assignment) (q : Place) → same_place a.place q ≡ false → assigned (a ∷ []) q ≡ none
unfolding assigned
assigned_other a q t = rw (t, assigned)

-- What is noted of a place, with one assignment more that is not given to it, or that comes after one that is.
takes_kept : (ws vs : List Assignment) (q : Place) (p : ℕ) → TakesAt ws q (suc p) → TakesAt (ws ++ vs) q (suc p)
takes_kept ws vs q p (a, s, e, t) = (
  a,
  record { before = s.before; after = s.after ++ vs; is = ap (λ (us : List Assignment). us ++ vs) s.is ∙ append_assoc s.before (a ∷ s.after) vs; bytes = s.bytes },
  e,
  assigned_kept ws vs q a.bytes t,
)

takes_none : (ws : List Assignment) (a : Assignment) (q : Place) → same_place a.place q ≡ false → TakesAt ws q 0 → TakesAt (ws ++ (a ∷ [])) q 0
takes_none ws a q d t = assigned_new ws (a ∷ []) q t ∙ assigned_other a q d

takes_new : (ws : List Assignment) (a : Assignment) (q : Place) → a.place ≡ q → TakesAt ws q 0 → TakesAt (ws ++ (a ∷ [])) q (suc (length (bytes_given ws)))
takes_new ws a q e t = (a, record { before = ws; after = []; is = refl; bytes = refl }, e, assigned_new ws (a ∷ []) q t ∙ assigned_one a q e)

-- The numbers that are noted.
put_same : (list : List ℕ) (i at : ℕ) → firsts_from + i < length list → first_noted list i ≡ 0 → first_noted (first_put list i at) i ≡ suc at
unfolding first_put
put_same list i at h e = rw e (get_or-set_same list (firsts_from + i) (at + 1) 0 h ∙ omega arith)

put_was : (list : List ℕ) (i at p : ℕ) → first_noted list i ≡ suc p → first_put list i at ≡ list
unfolding first_put
put_was list i at p e = rw (ne_eqb (first_noted list i) 0 (λ z. omega (arith, e, z)))

pub put_other : (list : List ℕ) (i at j : ℕ) → (j ≡ firsts_from + i → ⊥) → get_or (first_put list i at) j 0 ≡ get_or list j 0
unfolding first_put
put_other list i at j d = by_test (eqb (first_noted list i) 0) (λ t. rw t (get_or-set_other list (firsts_from + i) j (at + 1) 0 d)) (λ t. rw t)

pub put_length : (list : List ℕ) (i at : ℕ) → length (first_put list i at) ≡ length list
unfolding first_put
put_length list i at = by_test (eqb (first_noted list i) 0) (λ t. rw t (length-set list (firsts_from + i) (at + 1))) (λ t. rw t)

pub noted_length : (list : List ℕ) (i o k at : ℕ) → length (noted list i o k at) ≡ length list
noted_length list i o k at = by_test (eqb o 1 && eqb k 1) (λ t. rw t (put_length list i at)) (λ t. rw t)

pub noted_uses : (list : List ℕ) (i o k at : ℕ) → i < most_entries → (j : ℕ) → uses_from ≤ j → get_or (noted list i o k at) j 0 ≡ get_or list j 0
noted_uses list i o k at h j l = by_test (eqb o 1 && eqb k 1) (λ t. rw t (put_other list i at j (λ e. omega (arith, e)))) (λ t. rw t)

pub noted_unindexed : (list : List ℕ) (i o k at : ℕ) → i < most_entries → Unindexed list → Unindexed (noted list i o k at)
noted_unindexed list i o k at h u = (
  (λ j l. by_test (eqb o 1 && eqb k 1) (λ t. rw t (put_other list i at j (λ e. omega (arith, e)) ∙ u.0 j l)) (λ t. rw t (u.0 j l))),
  (λ n. noted_uses list i o k at h (note_place n + 1) (omega arith) ∙ u.1 n),
)

by_number : {C : Type 0} (m : ℕ) → (m ≡ 0 → C) → ((p : ℕ) → m ≡ suc p → C) → C
by_number zero z s = z refl
by_number (suc p) z s = s p refl

name_at : (es : List Entry) (j : ℕ) → (field_at es j).name ≡ (get_or es j blank).name
unfolding field_at field_by
name_at es j = elim (get_or es j blank).what as (λ w. (field_by (get_or es j blank).name w).name ≡ (get_or es j blank).name) [ field f s m ↦ refl | group p ↦ refl ]

-- Names differ, so an assignment to entry i is given to value 1 of entry j in occurrence 1 only where both are the same.
module _ (es : List Entry) (d : differ (names es) ≡ true) (list : List ℕ) (ws : List Assignment) (firsts : Firsts es list ws) (most : length es ≤ most_entries) (long : uses_from ≤ length list)
    (i o k : ℕ) (less : i < length es) (bare : Bool) (b : Bytes) where
  abbrev new : Assignment
  new = record { place = place_at es i o k; bare = bare; bytes = b }

  abbrev after : ℕ
  after = length (bytes_given ws)

  alike : (j : ℕ) → j < length es → same_place (place_at es i o k) (place_at es j 1 1) ≡ true → (i ≡ j) × (o ≡ 1) × (k ≡ 1)
  alike j h t = let (n, p, q) = same_place_eq (place_at es i o k) (place_at es j 1 1) (true_T t) in (one_name es d i j less h (sym (name_at es i) ∙ n ∙ name_at es j), p, q)

  -- It is given to that value.
  same : (j : ℕ) → j < length es → (g : is_group (get_or es j blank).what ≡ false) → same_place (place_at es i o k) (place_at es j 1 1) ≡ true
      → TakesAt (ws ++ (new ∷ [])) (place_at es j 1 1) (first_noted (noted list i o k after) j)
  same j h g t =
      let (e, x, y) = alike j h t in
      let w : noted list i o k after ≡ first_put list j after = rw (x, y, e) in
      let q : new.place ≡ place_at es j 1 1 = rw (x, y, e) in
      subst (λ l. TakesAt (ws ++ (new ∷ [])) (place_at es j 1 1) (first_noted l j)) (sym w)
      (by_number (first_noted list j)
      (λ z. subst (TakesAt (ws ++ (new ∷ [])) (place_at es j 1 1)) (sym (put_same list j after (omega (arith, h, most, long)) z))
      (takes_new ws new (place_at es j 1 1) q (subst (TakesAt ws (place_at es j 1 1)) z (firsts j h g))))
      (λ p z. subst (λ l. TakesAt (ws ++ (new ∷ [])) (place_at es j 1 1) (first_noted l j)) (sym (put_was list j after p z))
      (subst (TakesAt (ws ++ (new ∷ [])) (place_at es j 1 1)) (sym z) (takes_kept ws (new ∷ []) (place_at es j 1 1) p (subst (TakesAt ws (place_at es j 1 1)) z (firsts j h g))))))

  -- It is given to another, and what is noted stays.
  stays : (j : ℕ) → same_place (place_at es i o k) (place_at es j 1 1) ≡ false → first_noted (noted list i o k after) j ≡ first_noted list j
  stays j t = by_test (eqb o 1 && eqb k 1)
      (λ u. rw u (put_other list i after (firsts_from + j) (λ e.
      let v = and_both (eqb o 1) (eqb k 1) u in
      let x = eqb-true o 1 v.0 in
      let y = eqb-true k 1 v.1 in
      let z : i ≡ j = omega (arith, e) in
      absurd (true_not_false (rw (x, y, z) (same_self (place_at es j 1 1))) t))))
      (λ u. rw u)

  other : (j : ℕ) → j < length es → (g : is_group (get_or es j blank).what ≡ false) → same_place (place_at es i o k) (place_at es j 1 1) ≡ false
      → TakesAt (ws ++ (new ∷ [])) (place_at es j 1 1) (first_noted (noted list i o k after) j)
  other j h g t = subst (TakesAt (ws ++ (new ∷ [])) (place_at es j 1 1)) (sym (stays j t))
      (by_number (first_noted list j)
      (λ z. subst (TakesAt (ws ++ (new ∷ [])) (place_at es j 1 1)) (sym z) (takes_none ws new (place_at es j 1 1) t (subst (TakesAt ws (place_at es j 1 1)) z (firsts j h g))))
      (λ p z. subst (TakesAt (ws ++ (new ∷ [])) (place_at es j 1 1)) (sym z) (takes_kept ws (new ∷ []) (place_at es j 1 1) p (subst (TakesAt ws (place_at es j 1 1)) z (firsts j h g)))))

  pub firsts_more : Firsts es (noted list i o k after) (ws ++ (new ∷ []))
  firsts_more j h g = by_test (same_place (place_at es i o k) (place_at es j 1 1)) (same j h g) (other j h g)
