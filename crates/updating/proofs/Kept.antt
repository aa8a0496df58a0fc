-- A part that an update does not name is laid out as it was: the same count, the same cells.
use mathlib.Core.Path.{◌≡◌, refl, sym, ◌∙◌, ap}
use mathlib.Core.Bool.{Bool, true, false}
use mathlib.Core.List.{List, [], ◌∷◌, map}
use mathlib.Core.Option.{some}
use Prim.Native.Nat.{ℕ, zero, suc, pred, ◌≤◌, ◌<◌}
use native.Mathlib.Nat.{not-suc-le-zero, le_of_suc-le-suc}
use native.Mathlib.Omega.{arith}
use borrow.Author.Tests.{ne_eqb}
use lib.Dec.{T, eqb}
use lib.ListN.{length, get_or}
use Rattle.rules.specs.Table.{Field, Part, differ, member}
use Rattle.rules.specs.Record.{Cell, Occurrence, Record, cell_of, values_at, part_bytes, laid_cell, laid_part}
use Rattle.rules.specs.Update.{Assignment, to_field, to_part, update_plan}
use Rattle.rules.proofs.Steps.{by_test, not_some, some_inj, eqb_same}
use Rattle.rules.proofs.Back.{All, Beside, Sized, CellOk, PartOk}
use Rattle.rules.proofs.Places.{from_differ}
use Rattle.rules.proofs.Uses.{field_names}
use Rattle.rules.proofs.Names.{member_none}
use Rattle.rules.proofs.FieldHomes.{member_here, member_skip}
use Rattle.updating.proofs.Unnamed.{run_is, unnamed_part, kept_group_count, one_or, cell_kept}

all_at : {X : Type 0} (P : X → Type 0) (xs : List X) (j : ℕ) (d : X) → All P xs → j < length xs → P (get_or xs j d)
all_at P [] j d a l = absurd (not-suc-le-zero l)
all_at P (x ∷ xs) zero d a l = a.0
all_at P (x ∷ xs) (suc j) d a l = all_at P xs j d a.1 (le_of_suc-le-suc l)

cell_found : (n : ℕ) (fs : List Field) (cs : Occurrence) (f : Field) → Beside CellOk fs cs → member n fs ≡ some f → CellOk f (cell_of n fs cs)
unfolding member cell_of
cell_found n [] cs f a e = absurd (not_some e)
cell_found n (g ∷ fs) [] f a e = absurd a
cell_found n (g ∷ fs) (c ∷ cs) f a e = by_test (eqb g.name n)
    (λ t. let q : g ≡ f = some_inj (rw (t, member) at e) in rw (t, cell_of, ← q) a.0)
    (λ t. rw (t, cell_of) (cell_found n fs cs f a.1 (rw (t, member) at e)))

-- One cell for each field, each the one that is found by the field's name.
cells_found : (c : Field → Cell) (fs : List Field) (cs : Occurrence) → Beside CellOk fs cs → T (differ (field_names fs))
    → ((f : Field) → member f.name fs ≡ some f → CellOk f (cell_of f.name fs cs) → c f ≡ cell_of f.name fs cs) → map c fs ≡ cs
unfolding cell_of
cells_found c [] [] a v h = refl
cells_found c [] (x ∷ cs) a v h = absurd a
cells_found c (f ∷ fs) [] a v h = absurd a
cells_found c (f ∷ fs) (x ∷ cs) a v h = from_differ f.name (field_names fs) v λ av r.
    let t = eqb_same f.name in
    let here : cell_of f.name (f ∷ fs) (x ∷ cs) ≡ x = rw (t, cell_of) in
    let p : c f ≡ x = h f (member_here f.name f fs t) (rw here a.0) ∙ here in
    let q : map c fs ≡ cs = cells_found c fs cs a.1 r (λ g m ok.
    let u : eqb f.name g.name ≡ false = ne_eqb f.name g.name (λ z. not_some (sym (member_none f.name fs av) ∙ ap (λ n. member n fs) z ∙ m)) in
    let later : cell_of g.name (f ∷ fs) (x ∷ cs) ≡ cell_of g.name fs cs = rw (u, cell_of) in
    h g (member_skip g.name f fs u ∙ m) (rw later ok) ∙ later) in
    ap (λ z. z ∷ map c fs) p ∙ ap (◌∷◌ x) q

-- The values of a part's fields are found in the part's own occurrences.
abbrev pub Shown : List Part → Record → Part → List Occurrence → Type 0
Shown ps r p os = (f : Field) → member f.name p.members ≡ some f → (i : ℕ) → values_at ps r f.name i ≡ cell_of f.name p.members (get_or os (pred i) [])

single_cell : (f : Field) (c : Cell) → CellOk f c → f.multiple ≡ false → length c ≡ 1
single_cell f c a m = go f.multiple m a.0
  where
    go : (b : Bool) → b ≡ false → Sized b (length c) → length c ≡ 1
    go true e s = absurd (let z : ◌≡◌ {A = ℕ} 0 1 = cc in omega arith)
    go false e s = s

module _ (ps : List Part) (r : Record) (ws : List Assignment) (p : Part) (os : List Occurrence) (ok : PartOk p os) (apart_names : T (differ (field_names p.members))) (shown : Shown ps r p os) where
  -- Occurrence i, of those that there were.
  occurrence_kept : (i : ℕ) → 1 ≤ i → i ≤ length os → ((f : Field) → member f.name p.members ≡ some f → to_field ws f.name i ≡ [])
      → map (laid_cell (update_plan ps r ws) i) p.members ≡ get_or os (pred i) []
  occurrence_kept zero o h un = absurd (not-suc-le-zero o)
  occurrence_kept (suc i) o h un = cells_found (laid_cell (update_plan ps r ws) (suc i)) p.members (get_or os i []) (all_at _ os i [] ok.1 h) apart_names
      (λ f m c. cell_kept ps r ws (suc i) f (un f m) (λ e. ap (λ (x : Cell). length x) (shown f m (suc i)) ∙ single_cell f (cell_of f.name p.members (get_or os i [])) c e) ∙ shown f m (suc i))

  occurrences_kept : to_part ws p ≡ [] → (update_plan ps r ws).occurrences p (length os) ≡ length os
  unfolding update_plan
  occurrences_kept un = one_or p.periodic _ (length os) (kept_group_count ws p (length os) un) (λ e. only p.periodic e ok.0)
    where
      only : (b : Bool) → b ≡ false → Sized b (length os) → length os ≡ 1
      only true e s = absurd (let z : ◌≡◌ {A = ℕ} 0 1 = cc in omega arith)
      only false e s = s

  part_kept : to_part ws p ≡ [] → laid_part (update_plan ps r ws) p (length os) ≡ os
  unfolding laid_part
  part_kept un = rw (occurrences_kept un) (run_is os [] 1 (λ i. map (laid_cell (update_plan ps r ws) i) p.members)
      (λ j l. ap (λ i. map (laid_cell (update_plan ps r ws) i) p.members) (omega arith) ∙ occurrence_kept (suc j) (omega arith) l (λ f m. unnamed_part ws p f.name f m un (suc j))))

  pub part_bytes_kept : to_part ws p ≡ [] → part_bytes p (laid_part (update_plan ps r ws) p (length os)) ≡ part_bytes p os
  part_bytes_kept un = ap (part_bytes p) (part_kept un)
