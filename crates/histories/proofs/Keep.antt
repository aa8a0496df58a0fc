-- An update keeps a record as it should be: counts to 191, every value as its reader takes it.
use mathlib.Core.Path.{◌≡◌, refl}
use mathlib.Core.Bool.{Bool, true, false, ◌&&◌}
use mathlib.Core.Option.{some}
use mathlib.Core.List.{List, [], ◌∷◌, map}
use Prim.Native.Nat.{ℕ, zero, suc, pred, ◌≤◌}
use native.Mathlib.Omega.{arith}
use lib.Dec.{T, eqb}
use lib.ListN.{length, get_or}
use Rattle.rules.specs.Limits.{greatest_count}
use Rattle.rules.specs.Lists.{Bytes, filter, maximum}
use Rattle.rules.specs.Values.{null}
use Rattle.rules.specs.Table.{Field, Part, Entry, differ, names, parts, member}
use Rattle.rules.specs.Record.{Cell, Occurrence, Record, Plan, laid_out, laid_part, laid_cell, count_or_one, cell_of, values_at, value_at, value_count_at}
use Rattle.rules.specs.Update.{Assignment, same_place, assigned, to_field, to_part, bare_only, highest_occurrence, highest_value, new_value_count, new_group_count, new_value, update_plan, after_update}
use Rattle.rules.proofs.Steps.{by_test, by_option, not_some, some_inj, from_some_pair, true_T}
use Rattle.rules.proofs.Back.{All, Beside, Sized, Stored, CellOk, PartOk, RecordOk, all_map}
use Rattle.rules.proofs.Home.{home}
use Rattle.rules.proofs.Runs.{run_length}
use Rattle.rules.proofs.Laid.{cell_none}
use Rattle.rules.proofs.Assigned.{same_place_eq}
use Rattle.rules.proofs.Entries.{Among, one_field}
use Rattle.rules.proofs.Alls.{all_run}
use Rattle.histories.specs.History.{Writes}
use Rattle.histories.proofs.OneUpdate.{Orderly}
use Rattle.histories.proofs.Assigned.{AssignmentOk}

map_beside : {X Y : Type 0} (P : Y → X → Type 0) (c : Y → X) (ys : List Y) → All (λ y. P y (c y)) ys → Beside P ys (map c ys)
map_beside P c [] a = tt
map_beside P c (y ∷ ys) a = (a.0, map_beside P c ys a.1)

pub all_get_d : {X : Type 0} (P : X → Type 0) (xs : List X) (i : ℕ) (d : X) → All P xs → P d → P (get_or xs i d)
all_get_d P [] i d a h = h
all_get_d P (x ∷ xs) zero d a h = a.0
all_get_d P (x ∷ xs) (suc i) d a h = all_get_d P xs i d a.1 h

-- What a plan has to promise of a field and of a part.
abbrev pub FieldKept : Plan → Field → Type 0
FieldKept w f = (i : ℕ) → Sized f.multiple (w.values f i) × ((k : ℕ) → Stored f (w.value f i k))

abbrev pub PartKept : Plan → Part → Type 0
PartKept w p = ((old : ℕ) → old ≤ greatest_count → Sized p.periodic (w.occurrences p old)) × All (FieldKept w) p.members

laid_part_ok : (w : Plan) (p : Part) (old : ℕ) → old ≤ greatest_count → PartKept w p → PartOk p (laid_part w p old)
unfolding laid_part laid_cell
laid_part_ok w p old o k = (
  rw (run_length (λ i. map (laid_cell w i) p.members) 1 (w.occurrences p old)) (k.0 old o),
  all_run _ _ 1 _ (λ i _ _. map_beside _ _ p.members (all_map (FieldKept w) _ (λ f h. (rw (run_length (λ k. w.value f i k) 1 (w.values f i)) (h i).0, all_run (Stored f) _ 1 _ (λ k _ _. (h i).1 k))) p.members k.1)),
)

pub laid_ok : (w : Plan) (ps : List Part) (r : Record) → All (λ os. length os ≤ greatest_count) r → All (PartKept w) ps → RecordOk ps (laid_out w ps r)
unfolding laid_out
laid_ok w [] r o k = tt
laid_ok w (p ∷ ps) [] o k = (laid_part_ok w p 0 (omega arith) k.0, laid_ok w ps [] tt k.1)
laid_ok w (p ∷ ps) (os ∷ r) o k = (laid_part_ok w p (length os) o.0 k.0, laid_ok w ps r o.1 k.1)

-- ---- what is found in a record as it should be

abbrev pub FoundOk : Field → Cell → Type 0
FoundOk f c = (length c ≤ greatest_count) × All (Stored f) c

pub sized_bound : (c : Bool) {n : ℕ} → Sized c n → n ≤ greatest_count
sized_bound true h = h
sized_bound false h = omega arith

cell_of_ok : (n : ℕ) (fs : List Field) (cs : Occurrence) (f : Field) → Beside CellOk fs cs → member n fs ≡ some f → FoundOk f (cell_of n fs cs)
unfolding member cell_of
cell_of_ok n [] cs f a e = absurd (not_some e)
cell_of_ok n (g ∷ fs) [] f a e = absurd a
cell_of_ok n (g ∷ fs) (c ∷ cs) f a e = by_test (eqb g.name n)
    (λ t. let q : g ≡ f = some_inj (rw (t, member) at e) in rw (t, cell_of, ← q) (sized_bound g.multiple a.0.0, a.0.1))
    (λ t. rw (t, cell_of) (cell_of_ok n fs cs f a.1 (rw (t, member) at e)))

pub values_ok : (n i : ℕ) (ps : List Part) (r : Record) (p : Part) (f : Field) → RecordOk ps r → home n ps ≡ some (p, f) → FoundOk f (values_at ps r n i)
unfolding home values_at
values_ok n i [] r p f a e = absurd (not_some e)
values_ok n i (q ∷ ps) [] p f a e = absurd a
values_ok n i (q ∷ ps) (os ∷ r) p f a e = by_option (member n q.members)
    (λ g t. from_some_pair (rw (t, home) at e) λ x y. rw (t, values_at)
    (all_get_d (λ o. FoundOk f (cell_of n q.members o)) os (pred i) [] (all_map _ _ (λ o h. cell_of_ok n q.members o f h (rw y at t)) os a.0.1)
    (rw (cell_none n q.members) (omega arith, tt))))
    (λ t. rw (t, values_at) (values_ok n i ps r p f a.1 (rw (t, home) at e)))

pub value_ok : (ps : List Part) (r : Record) (p : Part) (f : Field) (i k : ℕ) → RecordOk ps r → home f.name ps ≡ some (p, f) → Stored f (null f.format f.size)
    → Stored f (value_at ps r f i k)
unfolding value_at
value_ok ps r p f i k a e n = all_get_d (Stored f) (values_at ps r f.name i) (pred k) _ (values_ok f.name i ps r p f a e).1 n

-- ---- an update

maximum_bound : (g : Assignment → ℕ) (t : Assignment → Bool) (ws : Writes) → All (λ a. g a ≤ greatest_count) ws → maximum (map g (filter t ws)) ≤ greatest_count
unfolding maximum filter
maximum_bound g t [] a = omega arith
maximum_bound g t (w ∷ ws) a = let ih = maximum_bound g t ws a.1 in let h = a.0 in
    by_test (t w) (λ e. rw (e, filter) (omega arith)) (λ e. rw (e, filter) ih)

highest_value_bound : (ws : Writes) (n i : ℕ) → All (λ a. a.place.value ≤ greatest_count) ws → highest_value ws n i ≤ greatest_count
unfolding highest_value to_field
highest_value_bound ws n i a = maximum_bound (λ a. a.place.value) (λ a. eqb a.place.field.name n && eqb a.place.occurrence i) ws a

highest_occurrence_bound : (ws : Writes) (p : Part) → All (λ a. a.place.occurrence ≤ greatest_count) ws → highest_occurrence ws p ≤ greatest_count
unfolding highest_occurrence to_part
highest_occurrence_bound ws p a = maximum_bound (λ a. a.place.occurrence) _ ws a

pub sized_one_or : (c : Bool) {n : ℕ} → n ≤ greatest_count → Sized c (count_or_one c n)
unfolding count_or_one
sized_one_or true h = h
sized_one_or false h = refl

-- What is known of the fields of a table's parts.
abbrev pub FieldKnown : List Entry → Part → Field → Type 0
FieldKnown es p f = (home f.name (parts es) ≡ some (p, f)) × Among es f × Stored f (null f.format f.size)

abbrev pub PartsKnown : List Entry → Type 0
PartsKnown es = All (λ p. All (FieldKnown es p) p.members) (parts es)

assigned_ok : (es : List Entry) → T (differ (names es)) → (ws : Writes) (f : Field) (i k : ℕ) → Among es f → All (AssignmentOk es) ws
    → {b : Bytes} → assigned ws (record { field = f; occurrence = i; value = k }) ≡ some b → Stored f b
unfolding assigned
assigned_ok es d [] f i k m a e = absurd (not_some e)
assigned_ok es d (w ∷ ws) f i k m a {b} e = by_test (same_place w.place (record { field = f; occurrence = i; value = k }))
    (λ t.
    let q = some_inj (rw (t, assigned) at e) in
    let z : w.place.field ≡ f = one_field es d w.place.field f a.0.0 m (same_place_eq w.place _ (true_T t)).0 in
    let s : Stored w.place.field w.bytes = a.0.3 in
    rw (← q, ← z) s)
    (λ t. assigned_ok es d ws f i k m a.1 (rw (t, assigned) at e))

lengths : (qs : List Part) (s : Record) → RecordOk qs s → All (λ os. length os ≤ greatest_count) s
lengths [] [] a = tt
lengths [] (os ∷ s) a = absurd a
lengths (q ∷ qs) [] a = absurd a
lengths (q ∷ qs) (os ∷ s) a = (sized_bound q.periodic a.0.0, lengths qs s a.1)

module _ (es : List Entry) (d : T (differ (names es))) (r : Record) (ws : Writes) (ok : RecordOk (parts es) r) (good : Orderly ws) (written : All (AssignmentOk es) ws) where
  field_kept : (p : Part) (f : Field) → FieldKnown es p f → FieldKept (update_plan (parts es) r ws) f
  unfolding update_plan new_value_count new_value value_count_at
  field_kept p f n i =
      let c = values_ok f.name i (parts es) r p f ok n.0 in
      let m : highest_value ws f.name i ≤ greatest_count = highest_value_bound ws f.name i (all_map (AssignmentOk es) _ (λ a h. h.2.1) ws written) in (
        sized_one_or f.multiple (by_test (bare_only (to_field ws f.name i))
            (λ t. rw (t, new_value_count) (let z = good.number f.name i t in omega arith)) (λ t. rw (t, new_value_count) (let h = c.0 in omega arith))),
        λ k. by_option (assigned ws (record { field = f; occurrence = i; value = k }))
            (λ b e. rw (e, new_value) (assigned_ok es d ws f i k n.1 written e))
            (λ e. rw (e, new_value) (value_ok (parts es) r p f i k ok n.0 n.2)),
      )

  count_kept : (p : Part) (old : ℕ) → old ≤ greatest_count → Sized p.periodic ((update_plan (parts es) r ws).occurrences p old)
  unfolding update_plan new_group_count
  count_kept p old h = sized_one_or p.periodic (let m = highest_occurrence_bound ws p (all_map (AssignmentOk es) _ (λ a h. h.1.1) ws written) in omega arith)

  pub update_keeps : PartsKnown es → RecordOk (parts es) (after_update (parts es) r ws)
  unfolding after_update
  update_keeps known = laid_ok (update_plan (parts es) r ws) (parts es) r (lengths (parts es) r ok)
      (all_map _ _ (λ p n. (count_kept p, all_map _ _ (λ f m. field_kept p f m) p.members n)) (parts es) known)
