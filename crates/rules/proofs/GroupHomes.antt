-- In a periodic group, the fields of a group stand in a periodic part; and a periodic group is a part of its name.
use mathlib.Core.Path.{◌≡◌, refl, sym, ◌∙◌, ap, subst}
use mathlib.Core.Bool.{Bool, true, false}
use mathlib.Core.Logic.{◌⊎◌, inl, inr, ⊎_elim}
use mathlib.Core.Option.{some}
use mathlib.Core.List.{List, [], ◌∷◌}
use Prim.Native.Nat.{ℕ, ◌≤◌}
use native.Mathlib.Omega.{arith}
use borrow.Author.Tests.{ltb-true, lt-ltb}
use lib.Dec.{eqb, ltb}
use Rattle.rules.specs.Outcome.{done}
use Rattle.rules.specs.Values.{Format}
use Rattle.rules.specs.Table.{Field, What, field, group, Entry, Part, inside_of, is_inside, fields_below, alone, part_of, parts_from, parts, part_named}
use Rattle.rules.specs.Use.{Found, find_from, find}
use Rattle.rules.proofs.Steps.{by_test, done_inj, not_done, not_both}
use Rattle.rules.proofs.Back.{All, all_map}
use Rattle.rules.proofs.Home.{home, named_here, named_skip}
use Rattle.rules.proofs.Entries.{Sound}
use Rattle.rules.proofs.FieldHomes.{named_field, named_entry, periodic_part, find_here, find_skip, below_field, below_group, parts_field, parts_group, parts_same, find_same, find_deep}

abbrev pub In : Field → List Field → Type 0
In f [] = ⊥
In f (g ∷ gs) = (g ≡ f) ⊎ In f gs

abbrev pub InPeriodic : List Part → Field → Type 0
InPeriodic [] f = ⊥
InPeriodic (p ∷ ps) f = ((p.periodic ≡ true) × In f p.members) ⊎ InPeriodic ps f

abbrev GroupOutside : List Entry → Type 0
GroupOutside es = (n : ℕ) (x : Found) (p : Bool) → find_from false n es ≡ done x → x.entry.what ≡ group p → x.inside ≡ true
    → All (InPeriodic (parts_from false es)) (fields_below x.entry.level x.after)

abbrev GroupInside : List Entry → Type 0
GroupInside es = (n : ℕ) (x : Found) (p : Bool) → find_from true n es ≡ done x → x.entry.what ≡ group p → x.inside ≡ true
    → All (λ f. In f (fields_below 1 es) ⊎ InPeriodic (parts_from true es) f) (fields_below x.entry.level x.after)

all_in : (fs gs : List Field) → ((f : Field) → In f fs → In f gs) → All (λ f. In f gs) fs
all_in [] gs h = tt
all_in (f ∷ fs) gs h = (h f (inl refl), all_in fs gs (λ g i. h g (inr i)))

in_itself : (fs : List Field) → All (λ f. In f fs) fs
in_itself fs = all_in fs fs (λ f i. i)

-- The fields below a deeper level are among those below a higher one.
within_on : (l m k level : ℕ) (w : What) (es : List Entry) → l ≤ m → All (λ f. In f (fields_below l es)) (fields_below m es)
    → All (λ f. In f (fields_below l (named_entry k level w ∷ es))) (fields_below m (named_entry k level w ∷ es))
unfolding fields_below
within_on l m k level (field g r mu) es o h = by_test (ltb m level)
    (λ t.
    let u : ltb l level ≡ true = lt-ltb l level (let z = ltb-true m level t in omega arith) in
    let e : fields_below l (named_entry k level (field g r mu) ∷ es) ≡ named_field k g r mu ∷ fields_below l es = rw (u, fields_below) refl in
    subst (λ (ys : List Field). All (λ f. In f ys) (fields_below m (named_entry k level (field g r mu) ∷ es))) (sym e)
    (rw (t, fields_below) (inl refl, all_map (λ f. In f (fields_below l es)) (λ f. In f (named_field k g r mu ∷ fields_below l es)) (λ f i. inr i) (fields_below m es) h)))
    (λ t. rw (t, fields_below) tt)
within_on l m k level (group p) es o h = by_test (ltb m level)
    (λ t.
    let u : ltb l level ≡ true = lt-ltb l level (let z = ltb-true m level t in omega arith) in
    rw (t, u, fields_below) h)
    (λ t. rw (t, fields_below) tt)

within : (l m : ℕ) → l ≤ m → (es : List Entry) → All (λ f. In f (fields_below l es)) (fields_below m es)
unfolding fields_below
within l m o [] = tt
within l m o (e ∷ es) = within_on l m e.name e.level e.what es o (within l m o es)

not_field : {C : Type 0} {p : Bool} {f : Format} {s : ℕ} {m : Bool} → field f s m ≡ group p → C
not_field e = absurd (let z : ◌≡◌ {A = ℕ} 0 1 = cc in omega arith)

module _ (k level : ℕ) (es : List Entry) (out : GroupOutside es) (ins : GroupInside es) where
  group_outside_on : (w : What) → Sound level w → GroupOutside (named_entry k level w ∷ es)
  unfolding parts_from part_of inside_of alone
  group_outside_on (field g r mu) sound n x p h q i = by_test (eqb k n)
      (λ t. let z = done_inj (sym (find_here false n (named_entry k level (field g r mu)) es t) ∙ h) in not_field (ap (λ y. y.entry.what) z ∙ q))
      (λ t. all_map (InPeriodic (parts_from false es)) (InPeriodic (alone (named_field k g r mu) ∷ parts_from false es)) (λ f j. inr j) (fields_below x.entry.level x.after) (out n x p (sym (find_skip false n (named_entry k level (field g r mu)) es t) ∙ h) q i))
  group_outside_on (group true) sound n x p h q i = by_test (eqb k n)
      (λ t. let z = done_inj (sym (find_here false n (named_entry k level (group true)) es t) ∙ h) in
      rw (← z, sound) (all_map (λ f. In f (fields_below 1 es)) (InPeriodic (periodic_part k (fields_below 1 es) ∷ parts_from true es)) (λ f j. inl (refl, j)) (fields_below 1 es) (in_itself (fields_below 1 es))))
      (λ t. all_map (λ f. In f (fields_below 1 es) ⊎ InPeriodic (parts_from true es) f) (InPeriodic (periodic_part k (fields_below 1 es) ∷ parts_from true es))
      (λ f j. ⊎_elim (λ a. inl (refl, a)) (λ a. inr a) j) (fields_below x.entry.level x.after) (ins n x p (sym (find_skip false n (named_entry k level (group true)) es t) ∙ h) q i))
  group_outside_on (group false) sound n x p h q i = by_test (eqb k n)
      (λ t. let z = done_inj (sym (find_here false n (named_entry k level (group false)) es t) ∙ h) in absurd (not_both (ap (λ y. y.inside) z ∙ i)))
      (λ t. out n x p (sym (find_skip false n (named_entry k level (group false)) es t) ∙ h) q i)

  group_inside_end : (w : What) → Sound level w → ltb 1 level ≡ false → GroupInside (named_entry k level w ∷ es)
  group_inside_end w sound t n x p h q i =
      let a = group_outside_on w sound n x p (sym (find_same k level es n w t) ∙ h) q i in
      rw (parts_same k level es w t) (all_map (InPeriodic (parts_from false (named_entry k level w ∷ es))) (λ f. In f (fields_below 1 (named_entry k level w ∷ es)) ⊎ InPeriodic (parts_from false (named_entry k level w ∷ es)) f) (λ f j. inr j) (fields_below x.entry.level x.after) a)

  group_inside_on : (w : What) → Sound level w → GroupInside (named_entry k level w ∷ es)
  group_inside_on (field g r mu) sound n x p h q i = by_test (ltb 1 level)
      (λ t. by_test (eqb k n)
      (λ u. let z = done_inj (sym (find_here true n (named_entry k level (field g r mu)) es u) ∙ h) in not_field (ap (λ y. y.entry.what) z ∙ q))
      (λ u. rw (below_field k level es g r mu t, parts_field k level es g r mu t) (all_map (λ f. In f (fields_below 1 es) ⊎ InPeriodic (parts_from true es) f)
      (λ f. In f (named_field k g r mu ∷ fields_below 1 es) ⊎ InPeriodic (parts_from true es) f) (λ f j. ⊎_elim (λ a. inl (inr a)) (λ a. inr a) j) (fields_below x.entry.level x.after)
      (ins n x p (sym (find_deep k level es n (field g r mu) t u) ∙ h) q i))))
      (λ t. group_inside_end (field g r mu) sound t n x p h q i)
  group_inside_on (group true) sound n x p h q i = by_test (ltb 1 level)
      (λ t. absurd (let l = ltb-true 1 level t in omega arith))
      (λ t. group_inside_end (group true) sound t n x p h q i)
  group_inside_on (group false) sound n x p h q i = by_test (ltb 1 level)
      (λ t. by_test (eqb k n)
      (λ u. let z = done_inj (sym (find_here true n (named_entry k level (group false)) es u) ∙ h) in
      rw (below_group k level es false t, parts_group k level es t, ← z) (all_map (λ f. In f (fields_below 1 es)) (λ f. In f (fields_below 1 es) ⊎ InPeriodic (parts_from true es) f) (λ f j. inl j) (fields_below level es)
      (within 1 level (let l = ltb-true 1 level t in omega arith) es)))
      (λ u. rw (below_group k level es false t, parts_group k level es t) (ins n x p (sym (find_deep k level es n (group false) t u) ∙ h) q i)))
      (λ t. group_inside_end (group false) sound t n x p h q i)

groups_stand : (es : List Entry) → All (λ e. Sound e.level e.what) es → GroupOutside es × GroupInside es
unfolding find_from
groups_stand [] a = (λ n x p h q i. absurd (not_done h), λ n x p h q i. absurd (not_done h))
groups_stand (e ∷ es) a =
    let (o, i) = groups_stand es a.1 in
    (group_outside_on e.name e.level es o i e.what a.0, group_inside_on e.name e.level es o i e.what a.0)

in_home : (Q : Field → Type 0) (f : Field) (fs : List Field) → In f fs → All Q fs → Q f
in_home Q f [] i a = absurd i
in_home Q f (g ∷ fs) i a = ⊎_elim (λ q. subst Q q a.0) (λ j. in_home Q f fs j a.1) i

periodic_home : (qs : List Part) (f : Field) (ps : List Part) → InPeriodic ps f → All (λ p. All (λ g. home g.name qs ≡ some (p, g)) p.members) ps
    → (p : Part) × (home f.name qs ≡ some (p, f)) × (p.periodic ≡ true)
periodic_home qs f [] i a = absurd i
periodic_home qs f (p ∷ ps) i a = ⊎_elim (λ j. (p, in_home (λ g. home g.name qs ≡ some (p, g)) f p.members j.1 a.0, j.0)) (λ j. periodic_home qs f ps j a.1) i

pub group_home : (es : List Entry) → All (λ e. Sound e.level e.what) es → All (λ p. All (λ f. home f.name (parts es) ≡ some (p, f)) p.members) (parts es)
    → (n : ℕ) (x : Found) (p : Bool) → find n es ≡ done x → x.entry.what ≡ group p → x.inside ≡ true
    → All (λ f. (p : Part) × (home f.name (parts es) ≡ some (p, f)) × (p.periodic ≡ true)) (fields_below x.entry.level x.after)
unfolding find parts
group_home es a found n x p h q i = all_map (InPeriodic (parts es)) _ (λ f j. periodic_home (parts es) f (parts es) j found) (fields_below x.entry.level x.after) ((groups_stand es a).0 n x p h q i)

-- ---- a periodic group is a part

part_skip : (n : ℕ) (inside : Bool) (k : ℕ) (w : What) (es : List Entry) (ps : List Part) → eqb k n ≡ false → part_named n (part_of inside k w es ps) ≡ part_named n ps
unfolding part_of alone
part_skip n inside k (group true) es ps t = named_skip n _ ps t
part_skip n inside k (group false) es ps t = refl
part_skip n true k (field f s m) es ps t = refl
part_skip n false k (field f s m) es ps t = named_skip n _ ps t

part_here : (n : ℕ) (inside : Bool) (k : ℕ) (w : What) (es : List Entry) (ps : List Part) → eqb k n ≡ true → w ≡ group true
    → part_named n (part_of inside k w es ps) ≡ some (periodic_part k (fields_below 1 es))
unfolding part_of
part_here n inside k (group true) es ps t q = named_here n _ ps t
part_here n inside k (group false) es ps t q = absurd (let z : ◌≡◌ {A = ℕ} 0 1 = cc in omega arith)
part_here n inside k (field f s m) es ps t q = not_field q

pub periodic_part_named : (before : Bool) (n : ℕ) (es : List Entry) (x : Found) → find_from before n es ≡ done x → x.entry.what ≡ group true
    → (p : Part) × (part_named n (parts_from before es) ≡ some p) × (p.periodic ≡ true)
unfolding parts_from find_from
periodic_part_named before n [] x h q = absurd (not_done h)
periodic_part_named before n (e ∷ es) x h q = by_test (eqb e.name n)
    (λ t. let z = done_inj (sym (find_here before n e es t) ∙ h) in
    (periodic_part e.name (fields_below 1 es), part_here n (is_inside before e) e.name e.what es _ t (ap (λ y. y.entry.what) z ∙ q), refl))
    (λ t.
    let (p, a, b) = periodic_part_named (is_inside before e) n es x (sym (find_skip before n e es t) ∙ h) q in
    (p, part_skip n (is_inside before e) e.name e.what es _ t ∙ a, b))
