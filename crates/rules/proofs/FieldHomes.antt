-- A field that is found by its name stands in the record: it has a part, which is periodic where the field lies in a periodic group; and
-- every field of the table is found by its name.
use mathlib.Core.Path.{◌≡◌, refl, sym, ◌∙◌, ap}
use mathlib.Core.Bool.{Bool, true, false}
use mathlib.Core.Logic.{◌⊎◌, inl, inr, ⊎_elim}
use mathlib.Core.Option.{none, some}
use mathlib.Core.List.{List, [], ◌∷◌}
use Prim.Native.Nat.{ℕ}
use native.Mathlib.Omega.{arith}
use borrow.Author.Tests.{ne_eqb, eqb-true, ltb-true}
use lib.Dec.{T, eqb, ltb}
use Rattle.rules.specs.Outcome.{done}
use Rattle.rules.specs.Values.{Format}
use Rattle.rules.specs.Table.{Field, What, field, group, Entry, Part, differ, names, inside_of, is_inside, fields_below, alone, part_of, parts_from, parts, member}
use Rattle.rules.specs.Use.{Found, find_from, find}
use Rattle.rules.proofs.Steps.{by_test, done_inj, not_done, eqb_same}
use Rattle.rules.proofs.Back.{All}
use Rattle.rules.proofs.Places.{from_differ}
use Rattle.rules.proofs.Home.{home}
use Rattle.rules.proofs.Entries.{Among, Sound, field_same, what_format, what_size, what_multiple, among_avoids}

abbrev pub named_field : ℕ → Format → ℕ → Bool → Field
named_field n f s m = record { name = n; format = f; size = s; multiple = m }

abbrev pub named_entry : ℕ → ℕ → What → Entry
named_entry n l w = record { name = n; level = l; what = w }

abbrev pub periodic_part : ℕ → List Field → Part
periodic_part n fs = record { name = n; periodic = true; members = fs }

-- ---- one step of each look-up

module _ (before : Bool) (n : ℕ) (e : Entry) (es : List Entry) where
  pub find_here : eqb e.name n ≡ true → find_from before n (e ∷ es) ≡ done (record { entry = e; inside = is_inside before e; after = es })
  unfolding find_from
  find_here t = rw (t, find_from)

  pub find_skip : eqb e.name n ≡ false → find_from before n (e ∷ es) ≡ find_from (is_inside before e) n es
  unfolding find_from
  find_skip t = rw (t, find_from)

module _ (n : ℕ) (ps : List Part) where
  home_here : (f : Field) → eqb f.name n ≡ true → home n (alone f ∷ ps) ≡ some (alone f, f)
  unfolding home alone member
  home_here f t = rw (t, member, home)

  home_skip : (f : Field) → eqb f.name n ≡ false → home n (alone f ∷ ps) ≡ home n ps
  unfolding home alone member
  home_skip f t = rw (t, member, home)

  home_group : (m : ℕ) (fs : List Field) (f : Field) → member n fs ≡ some f → home n (periodic_part m fs ∷ ps) ≡ some (periodic_part m fs, f)
  unfolding home
  home_group m fs f t = rw (t, home)

  home_past : (m : ℕ) (fs : List Field) → member n fs ≡ none → home n (periodic_part m fs ∷ ps) ≡ home n ps
  unfolding home
  home_past m fs t = rw (t, home)

pub member_here : (n : ℕ) (f : Field) (fs : List Field) → eqb f.name n ≡ true → member n (f ∷ fs) ≡ some f
unfolding member
member_here n f fs t = rw (t, member)

pub member_skip : (n : ℕ) (f : Field) (fs : List Field) → eqb f.name n ≡ false → member n (f ∷ fs) ≡ member n fs
unfolding member
member_skip n f fs t = rw (t, member)

not_group : {C : Type 0} {p : Bool} {f : Format} {s : ℕ} {m : Bool} → group p ≡ field f s m → C
not_group e = absurd (let z : ◌≡◌ {A = ℕ} 0 1 = cc in omega arith)

own_field : {g f : Format} {r s : ℕ} {mu m : Bool} (k n : ℕ) → eqb k n ≡ true → field g r mu ≡ field f s m → named_field k g r mu ≡ named_field n f s m
own_field k n t q = field_same _ _ (eqb-true k n t) (what_format q) (what_size q) (what_multiple q)

-- ---- a field found by its name

abbrev Stands : ℕ → Format → ℕ → Bool → Bool → List Part → Type 0
Stands n f s m inside ps = (p : Part) × (home n ps ≡ some (p, named_field n f s m)) × (p.periodic ≡ inside)

abbrev Outside : List Entry → Type 0
Outside es = (n : ℕ) (x : Found) (f : Format) (s : ℕ) (m : Bool) → find_from false n es ≡ done x → x.entry.what ≡ field f s m → Stands n f s m x.inside (parts_from false es)

abbrev Inside : List Entry → Type 0
Inside es = (n : ℕ) (x : Found) (f : Format) (s : ℕ) (m : Bool) → find_from true n es ≡ done x → x.entry.what ≡ field f s m
    → ((member n (fields_below 1 es) ≡ some (named_field n f s m)) × (x.inside ≡ true)) ⊎ ((member n (fields_below 1 es) ≡ none) × Stands n f s m x.inside (parts_from true es))

module _ (k level : ℕ) (es : List Entry) (out : Outside es) (ins : Inside es) where
  outside_on : (w : What) → Outside (named_entry k level w ∷ es)
  unfolding parts_from part_of inside_of alone
  outside_on (field g r mu) n x f s m h q = by_test (eqb k n)
      (λ t.
      let z = done_inj (sym (find_here false n (named_entry k level (field g r mu)) es t) ∙ h) in
      let v : field g r mu ≡ field f s m = ap (λ y. y.entry.what) z ∙ q in
      (alone (named_field k g r mu), home_here n (parts_from false es) (named_field k g r mu) t ∙ ap (λ y. some (alone (named_field k g r mu), y)) (own_field k n t v), ap (λ y. y.inside) z))
      (λ t.
      let (p, a, b) = out n x f s m (sym (find_skip false n (named_entry k level (field g r mu)) es t) ∙ h) q in
      (p, home_skip n (parts_from false es) (named_field k g r mu) t ∙ a, b))
  outside_on (group true) n x f s m h q = by_test (eqb k n)
      (λ t. let z = done_inj (sym (find_here false n (named_entry k level (group true)) es t) ∙ h) in not_group (ap (λ y. y.entry.what) z ∙ q))
      (λ t. ⊎_elim
      (λ i. (periodic_part k (fields_below 1 es), home_group n (parts_from true es) k (fields_below 1 es) _ i.0, sym i.1))
      (λ i. let (p, a, b) = i.1 in (p, home_past n (parts_from true es) k (fields_below 1 es) i.0 ∙ a, b))
      (ins n x f s m (sym (find_skip false n (named_entry k level (group true)) es t) ∙ h) q))
  outside_on (group false) n x f s m h q = by_test (eqb k n)
      (λ t. let z = done_inj (sym (find_here false n (named_entry k level (group false)) es t) ∙ h) in not_group (ap (λ y. y.entry.what) z ∙ q))
      (λ t. out n x f s m (sym (find_skip false n (named_entry k level (group false)) es t) ∙ h) q)

module _ (k level : ℕ) (es : List Entry) where
  pub below_field : (g : Format) (r : ℕ) (mu : Bool) → ltb 1 level ≡ true → fields_below 1 (named_entry k level (field g r mu) ∷ es) ≡ named_field k g r mu ∷ fields_below 1 es
  unfolding fields_below
  below_field g r mu t = rw (t, fields_below)

  pub below_group : (p : Bool) → ltb 1 level ≡ true → fields_below 1 (named_entry k level (group p) ∷ es) ≡ fields_below 1 es
  unfolding fields_below
  below_group p t = rw (t, fields_below)

  below_end : (w : What) → ltb 1 level ≡ false → fields_below 1 (named_entry k level w ∷ es) ≡ []
  unfolding fields_below
  below_end w t = rw (t, fields_below)

  pub parts_field : (g : Format) (r : ℕ) (mu : Bool) → ltb 1 level ≡ true → parts_from true (named_entry k level (field g r mu) ∷ es) ≡ parts_from true es
  unfolding parts_from part_of inside_of
  parts_field g r mu t = rw (t, part_of)

  pub parts_group : ltb 1 level ≡ true → parts_from true (named_entry k level (group false) ∷ es) ≡ parts_from true es
  unfolding parts_from part_of inside_of
  parts_group t = rw t

  -- Only level 1 leaves a periodic group: then it does not matter what was before.
  inside_same : (w : What) → ltb 1 level ≡ false → inside_of true level w ≡ inside_of false level w
  unfolding inside_of
  inside_same (field f s m) t = t
  inside_same (group true) t = refl
  inside_same (group false) t = t

  pub parts_same : (w : What) → ltb 1 level ≡ false → parts_from true (named_entry k level w ∷ es) ≡ parts_from false (named_entry k level w ∷ es)
  unfolding parts_from
  parts_same w t = ap (λ b. part_of b k w es (parts_from b es)) (inside_same w t)

  pub find_same : (n : ℕ) (w : What) → ltb 1 level ≡ false → find_from true n (named_entry k level w ∷ es) ≡ find_from false n (named_entry k level w ∷ es)
  unfolding find_from
  find_same n w t = ap (λ b. elim (eqb k n) [ true ↦ done (record { entry = named_entry k level w; inside = b; after = es }) | false ↦ find_from b n es ]) (inside_same w t)

  inside_deep : (w : What) → ltb 1 level ≡ true → inside_of true level w ≡ true
  unfolding inside_of
  inside_deep (field f s m) t = t
  inside_deep (group true) t = refl
  inside_deep (group false) t = t

  pub find_deep : (n : ℕ) (w : What) → ltb 1 level ≡ true → eqb k n ≡ false → find_from true n (named_entry k level w ∷ es) ≡ find_from true n es
  find_deep n w t u = find_skip true n (named_entry k level w) es u ∙ ap (λ b. find_from b n es) (inside_deep w t)

  module _ (out : Outside es) (ins : Inside es) where
    -- Level 1 again.
    inside_end : (w : What) → ltb 1 level ≡ false → Inside (named_entry k level w ∷ es)
    unfolding member
    inside_end w t n x f s m h q =
        let (p, a, b) = outside_on k level es out ins w n x f s m (sym (find_same n w t) ∙ h) q in
        inr (rw (below_end w t), (p, ap (home n) (parts_same w t) ∙ a, b))

    inside_on : (w : What) → Sound level w → Inside (named_entry k level w ∷ es)
    inside_on (field g r mu) sound n x f s m h q = by_test (ltb 1 level)
        (λ t. by_test (eqb k n)
        (λ u.
        let z = done_inj (sym (find_here true n (named_entry k level (field g r mu)) es u) ∙ h) in
        let v : field g r mu ≡ field f s m = ap (λ y. y.entry.what) z ∙ q in
        inl (ap (member n) (below_field g r mu t) ∙ member_here n (named_field k g r mu) (fields_below 1 es) u ∙ ap some (own_field k n u v), sym (ap (λ y. y.inside) z) ∙ inside_deep (field g r mu) t))
        (λ u.
        let d = ap (member n) (below_field g r mu t) ∙ member_skip n (named_field k g r mu) (fields_below 1 es) u in
        ⊎_elim (λ i. inl (d ∙ i.0, i.1)) (λ i. let (p, a, b) = i.1 in inr (d ∙ i.0, (p, ap (home n) (parts_field g r mu t) ∙ a, b)))
        (ins n x f s m (sym (find_deep n (field g r mu) t u) ∙ h) q)))
        (λ t. inside_end (field g r mu) t n x f s m h q)
    inside_on (group true) sound n x f s m h q = by_test (ltb 1 level)
        (λ t. absurd (let l = ltb-true 1 level t in omega arith))
        (λ t. inside_end (group true) t n x f s m h q)
    inside_on (group false) sound n x f s m h q = by_test (ltb 1 level)
        (λ t. by_test (eqb k n)
        (λ u. let z = done_inj (sym (find_here true n (named_entry k level (group false)) es u) ∙ h) in not_group (ap (λ y. y.entry.what) z ∙ q))
        (λ u.
        let d = ap (member n) (below_group false t) in
        ⊎_elim (λ i. inl (d ∙ i.0, i.1)) (λ i. let (p, a, b) = i.1 in inr (d ∙ i.0, (p, ap (home n) (parts_group t) ∙ a, b)))
        (ins n x f s m (sym (find_deep n (group false) t u) ∙ h) q)))
        (λ t. inside_end (group false) t n x f s m h q)

fields_stand : (es : List Entry) → All (λ e. Sound e.level e.what) es → Outside es × Inside es
unfolding find_from
fields_stand [] a = (λ n x f s m h q. absurd (not_done h), λ n x f s m h q. absurd (not_done h))
fields_stand (e ∷ es) a =
    let (o, i) = fields_stand es a.1 in
    (outside_on e.name e.level es o i e.what, inside_on e.name e.level es o i e.what a.0)

pub field_home : (es : List Entry) → All (λ e. Sound e.level e.what) es → (n : ℕ) (x : Found) (f : Format) (s : ℕ) (m : Bool) → find n es ≡ done x → x.entry.what ≡ field f s m
    → (p : Part) × (home n (parts es) ≡ some (p, named_field n f s m)) × (p.periodic ≡ x.inside)
unfolding find parts
field_home es a = (fields_stand es a).0

-- ---- a field of the table is found by its name

pub among_find : (before : Bool) (es : List Entry) → T (differ (names es)) → (f : Field) → Among es f
    → (x : Found) × (find_from before f.name es ≡ done x) × (x.entry.what ≡ field f.format f.size f.multiple)
unfolding names
among_find before [] d f m = absurd m
among_find before (e ∷ es) d f m = from_differ e.name (names es) d λ v r.
    ⊎_elim
    (λ i. (record { entry = e; inside = is_inside before e; after = es }, find_here before f.name e es (ap (λ n. eqb n f.name) i.0 ∙ eqb_same f.name), i.1))
    (λ i.
    let (x, h, q) = among_find (is_inside before e) es r f i in
    (x, find_skip before f.name e es (ne_eqb e.name f.name (among_avoids e.name es f v i)) ∙ h, q))
    m
