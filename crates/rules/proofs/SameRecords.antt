-- Two records of a table that have the same counts and the same values are the same.
use mathlib.Core.Path.{◌≡◌, refl, sym, ◌∙◌, ap}
use mathlib.Core.Bool.{Bool, true, false}
use mathlib.Core.List.{List, [], ◌∷◌}
use mathlib.Core.Option.{none, some}
use Prim.Native.Nat.{ℕ, zero, suc, pred, ◌≤◌, ◌<◌}
use native.Mathlib.Nat.{not-suc-le-zero, le_of_suc-le-suc}
use native.Mathlib.Omega.{arith}
use borrow.Author.Tests.{ne_eqb, eqb-true}
use lib.Dec.{T, eqb}
use lib.ListN.{length, get_or}
use Rattle.rules.specs.Table.{Field, Part, differ, member, part_named}
use Rattle.rules.specs.Record.{Cell, Occurrence, Record, cell_of, values_at, group_count_at}
use Rattle.rules.proofs.Steps.{by_test, not_some, eqb_same}
use Rattle.rules.proofs.Back.{All, Beside, Sized, CellOk, PartOk, RecordOk}
use Rattle.rules.proofs.Places.{Avoids, from_avoids, from_differ}
use Rattle.rules.proofs.Uses.{field_names}
use Rattle.rules.proofs.Home.{home, named_here, named_skip}
use Rattle.rules.proofs.Laid.{occurrences_at}
use Rattle.rules.proofs.Names.{names_of, differ_left, differ_right, member_none, apart, home_there, part_names}
use Rattle.rules.proofs.FieldHomes.{member_here, member_skip}

pub list_ext : {X : Type 0} (xs ys : List X) (d : X) → length xs ≡ length ys → ((j : ℕ) → j < length xs → get_or xs j d ≡ get_or ys j d) → xs ≡ ys
list_ext [] [] d e h = refl
list_ext [] (y ∷ ys) d e h = absurd (omega arith)
list_ext (x ∷ xs) [] d e h = absurd (omega arith)
list_ext (x ∷ xs) (y ∷ ys) d e h =
    let p : x ≡ y = h 0 (omega arith) in
    let q : xs ≡ ys = list_ext xs ys d (omega arith) (λ j l. h (suc j) (omega arith)) in
    ap (λ z. z ∷ xs) p ∙ ap (◌∷◌ y) q

all_at : {X : Type 0} (P : X → Type 0) (xs : List X) (j : ℕ) (d : X) → All P xs → j < length xs → P (get_or xs j d)
all_at P [] j d a l = absurd (not-suc-le-zero l)
all_at P (x ∷ xs) zero d a l = a.0
all_at P (x ∷ xs) (suc j) d a l = all_at P xs j d a.1 (le_of_suc-le-suc l)

cell_here : (n : ℕ) (f : Field) (fs : List Field) (c : Cell) (cs : Occurrence) → eqb f.name n ≡ true → cell_of n (f ∷ fs) (c ∷ cs) ≡ c
unfolding cell_of
cell_here n f fs c cs t = rw (t, cell_of)

cell_skip : (n : ℕ) (f : Field) (fs : List Field) (c : Cell) (cs : Occurrence) → eqb f.name n ≡ false → cell_of n (f ∷ fs) (c ∷ cs) ≡ cell_of n fs cs
unfolding cell_of
cell_skip n f fs c cs t = rw (t, cell_of)

row_ext : (fs : List Field) (cs ds : Occurrence) → Beside CellOk fs cs → Beside CellOk fs ds → T (differ (field_names fs))
    → ((f : Field) → member f.name fs ≡ some f → cell_of f.name fs cs ≡ cell_of f.name fs ds) → cs ≡ ds
row_ext [] [] [] a b v h = refl
row_ext [] [] (d ∷ ds) a b v h = absurd b
row_ext [] (c ∷ cs) ds a b v h = absurd a
row_ext (f ∷ fs) [] ds a b v h = absurd a
row_ext (f ∷ fs) (c ∷ cs) [] a b v h = absurd b
row_ext (f ∷ fs) (c ∷ cs) (d ∷ ds) a b v h = from_differ f.name (field_names fs) v λ av r.
    let t = eqb_same f.name in
    let p : c ≡ d = sym (cell_here f.name f fs c cs t) ∙ h f (member_here f.name f fs t) ∙ cell_here f.name f fs d ds t in
    let q : cs ≡ ds = row_ext fs cs ds a.1 b.1 r (λ g m.
    let u : eqb f.name g.name ≡ false = ne_eqb f.name g.name (λ z. not_some (sym (member_none f.name fs av) ∙ ap (λ n. member n fs) z ∙ m)) in
    sym (cell_skip g.name f fs c cs u) ∙ h g (member_skip g.name f fs u ∙ m) ∙ cell_skip g.name f fs d ds u) in
    ap (λ z. z ∷ cs) p ∙ ap (◌∷◌ d) q

part_ext : (p : Part) (os ss : List Occurrence) → PartOk p os → PartOk p ss → T (differ (field_names p.members)) → length os ≡ length ss
    → ((f : Field) → member f.name p.members ≡ some f → (i : ℕ) → 1 ≤ i → i ≤ length os
    → cell_of f.name p.members (get_or os (pred i) []) ≡ cell_of f.name p.members (get_or ss (pred i) [])) → os ≡ ss
part_ext p os ss a b v e h = list_ext os ss [] e (λ j l.
    row_ext p.members (get_or os j []) (get_or ss j []) (all_at _ os j [] a.1 l) (all_at _ ss j [] b.1 (omega arith)) v (λ f m. h f m (suc j) (omega arith) (omega arith)))

sized_same : (c : Bool) {n m : ℕ} → Sized c n → Sized c m → (c ≡ true → n ≡ m) → n ≡ m
sized_same true a b h = h refl
sized_same false a b h = omega arith

-- ---- the names of parts

pub named_apart : (n m : ℕ) (ps : List Part) (q : Part) → Avoids n (part_names ps) → part_named m ps ≡ some q → n ≡ m → ⊥
unfolding part_named
named_apart n m [] q a e z = not_some e
named_apart n m (p ∷ ps) q a e z = from_avoids n p.name (part_names ps) a λ d b.
    by_test (eqb p.name m) (λ t. d (z ∙ sym (eqb-true p.name m t))) (λ t. named_apart n m ps q b (sym (named_skip m p ps t) ∙ e) z)

-- ---- records

abbrev pub SameValues : List Part → Record → Record → Type 0
SameValues ps r s = (p : Part) (f : Field) → home f.name ps ≡ some (p, f) → (i : ℕ) → 1 ≤ i → i ≤ occurrences_at ps r f.name → i ≤ occurrences_at ps s f.name
    → values_at ps r f.name i ≡ values_at ps s f.name i

abbrev pub SameCounts : List Part → Record → Record → Type 0
SameCounts ps r s = (p : Part) → part_named p.name ps ≡ some p → p.periodic ≡ true → group_count_at ps r p.name ≡ group_count_at ps s p.name

module _ (p : Part) (ps : List Part) (n : ℕ) where
  home_first : (f : Field) → member n p.members ≡ some f → home n (p ∷ ps) ≡ some (p, f)
  unfolding home
  home_first f m = rw (m, home)

  home_later : member n p.members ≡ none → home n (p ∷ ps) ≡ home n ps
  unfolding home
  home_later m = rw (m, home)

  module _ (os : List Occurrence) (r : Record) where
    values_first : (f : Field) (i : ℕ) → member n p.members ≡ some f → values_at (p ∷ ps) (os ∷ r) n i ≡ cell_of n p.members (get_or os (pred i) [])
    unfolding values_at
    values_first f i m = rw (m, values_at)

    values_later : (i : ℕ) → member n p.members ≡ none → values_at (p ∷ ps) (os ∷ r) n i ≡ values_at ps r n i
    unfolding values_at
    values_later i m = rw (m, values_at)

    occurrences_first : (f : Field) → member n p.members ≡ some f → occurrences_at (p ∷ ps) (os ∷ r) n ≡ length os
    unfolding occurrences_at
    occurrences_first f m = rw (m, occurrences_at)

    occurrences_later : member n p.members ≡ none → occurrences_at (p ∷ ps) (os ∷ r) n ≡ occurrences_at ps r n
    unfolding occurrences_at
    occurrences_later m = rw (m, occurrences_at)

    count_first : eqb p.name n ≡ true → group_count_at (p ∷ ps) (os ∷ r) n ≡ length os
    unfolding group_count_at
    count_first t = rw (t, group_count_at)

    count_later : eqb p.name n ≡ false → group_count_at (p ∷ ps) (os ∷ r) n ≡ group_count_at ps r n
    unfolding group_count_at
    count_later t = rw (t, group_count_at)

pub record_ext : (ps : List Part) (r s : Record) → RecordOk ps r → RecordOk ps s → T (differ (names_of ps)) → T (differ (part_names ps)) → SameValues ps r s → SameCounts ps r s → r ≡ s
unfolding names_of
record_ext [] [] [] a b d e v c = refl
record_ext [] [] (ss ∷ s) a b d e v c = absurd b
record_ext [] (os ∷ r) s a b d e v c = absurd a
record_ext (p ∷ ps) [] s a b d e v c = absurd a
record_ext (p ∷ ps) (os ∷ r) [] a b d e v c = absurd b
record_ext (p ∷ ps) (os ∷ r) (ss ∷ s) a b d e v c = from_differ p.name (part_names ps) e λ av rest.
    let l : length os ≡ length ss = sized_same p.periodic a.0.0 b.0.0 (λ q.
    let t = eqb_same p.name in
    sym (count_first p ps p.name os r t) ∙ c p (named_here p.name p ps t) q ∙ count_first p ps p.name ss s t) in
    let x : os ≡ ss = part_ext p os ss a.0 b.0 (differ_left (field_names p.members) (names_of ps) d) l (λ f m i o u.
    sym (values_first p ps f.name os r f i m) ∙ v p f (home_first p ps f.name f m) i o (rw (occurrences_first p ps f.name os r f m) u) (rw (occurrences_first p ps f.name ss s f m, ← l) u) ∙ values_first p ps f.name ss s f i m) in
    let y : r ≡ s = record_ext ps r s a.1 b.1 (differ_right (field_names p.members) (names_of ps) d) rest
    (λ q f h i o u w.
    let m = member_none f.name p.members (apart (field_names p.members) (names_of ps) d f.name (home_there f.name ps q f h)) in
    sym (values_later p ps f.name os r i m) ∙ v q f (home_later p ps f.name m ∙ h) i o (rw (occurrences_later p ps f.name os r m) u) (rw (occurrences_later p ps f.name ss s m) w) ∙ values_later p ps f.name ss s i m)
    (λ q h k.
    let t : eqb p.name q.name ≡ false = ne_eqb p.name q.name (named_apart p.name q.name ps q av h) in
    sym (count_later p ps q.name os r t) ∙ c q (named_skip q.name p ps t ∙ h) k ∙ count_later p ps q.name ss s t) in
    ap (λ z. z ∷ r) x ∙ ap (◌∷◌ ss) y
