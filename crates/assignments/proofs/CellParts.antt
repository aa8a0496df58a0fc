-- What a use that names a cell gives, in parts: the occurrences before, the fields before in that occurrence, and the values of the cell.
use mathlib.Core.Path.{◌≡◌, refl, sym, ◌∙◌, ap}
use mathlib.Core.Bool.{Bool, true, false, cond, not, true≢false, false≢true, ◌&&◌}
use mathlib.Core.List.{List, [], ◌∷◌, ◌++◌, map, append_assoc}
use Prim.Native.Nat.{ℕ, zero, suc, ◌+◌, ◌-◌, ◌*◌, ◌≤◌, ◌<◌}
use native.Mathlib.Omega.{arith}
use native.Mathlib.Nat.{mul-one}
use borrow.Author.Tests.{leb-true, ltb-true, lt-ltb, eqb-true, eqb-false}
use lib.Dec.{T, eqb, leb, ltb, leb→le}
use lib.ListN.{length, get_or}
use Rattle.rules.specs.Outcome.{done}
use Rattle.rules.specs.Lists.{Bytes, all, filter, run, join}
use Rattle.rules.specs.Table.{Field, Entry}
use Rattle.rules.specs.Format.{Range}
use Rattle.rules.specs.Use.{Item, Asked, plain, items}
use Rattle.rules.specs.Update.{Assignment}
use Rattle.rules.proofs.Steps.{by_test, true_T, T_true, and_left, and_right}
use Rattle.rules.proofs.Back.{All}
use Rattle.rules.proofs.Places.{places_of}
use Rattle.rules.proofs.Ranges.{taking, item_at, occurrence_items}
use Rattle.format_buffer.specs.Elements.{range}
use Rattle.uses.specs.Kept.{numbers_kept, kind_at, span_at, use_of_kind, use_at, uses_kept}
use Rattle.uses.specs.Meant.{asked_of}
use Rattle.uses.specs.declared.Span.{Span}
use Rattle.uses.specs.declared.Use.{Use}
use Rattle.uses.specs.declared.Use.TheVariants as code
use Rattle.assignments.specs.Notes.{group_chain, use_names, names_cell, span_chain, use_chain, place_at, bytes_given, given_first, assignments_in}
use Rattle.assignments.proofs.Given.{taking_places, from_taking}
use Rattle.assignments.proofs.Splitting.{earlier_occurrences, AskedAbout}
use Rattle.assignments.proofs.Weights.{weight_asked}

-- The number of values before the cell.
abbrev pub values_before : Span → ℕ → ℕ
values_before s o = (o - s.from) * (s.value_upto + 1 - s.value_from)

-- A use that names a cell is one of values.
names_values : (t : Bool) (u v : Use) (s : Span) (i o : ℕ) → use_names u i o ≡ false → (use_names v i o ≡ true → v ≡ code.Values s) → use_names (cond t u v) i o ≡ true
    → cond t u v ≡ code.Values s
names_values true u v s i o n h e = absurd (false≢true (sym n ∙ e))
names_values false u v s i o n h e = h e

kind_names : (kind a b : ℕ) (s : Span) (i o : ℕ) → use_names (use_of_kind kind a b s) i o ≡ true → use_of_kind kind a b s ≡ code.Values s
unfolding use_of_kind use_names
kind_names kind a b s i o =
    names_values (eqb kind 0) (code.Blanks a) _ s i o refl
    (names_values (eqb kind 1) (code.Text a b) _ s i o refl
    (names_values (eqb kind 2) (code.GroupCount a) _ s i o refl
    (names_values (eqb kind 3) (code.ValueCount a b) (code.Values s) s i o refl (λ _. refl))))

pub use_named : (kept : List ℕ) (n i o : ℕ) → use_names (use_at kept n) i o ≡ true → use_at kept n ≡ code.Values (span_at kept (numbers_kept * n))
unfolding use_at
use_named kept n i o e = kind_names (kind_at kept (numbers_kept * n)) (get_or kept (numbers_kept * n + 1) 0) (get_or kept (numbers_kept * n + 2) 0) (span_at kept (numbers_kept * n)) i o e

pub cell_inside : (s : Span) (i o : ℕ) → use_names (code.Values s) i o ≡ true → (s.from ≤ o) × (o ≤ s.upto) × (s.first ≤ i) × (i < s.end)
unfolding use_names names_cell
cell_inside s i o e =
    let a = leb s.from o in
    let b = leb o s.upto in
    let c = leb s.first i in
    let d = ltb i s.end in
    let t = true_T e in
    let u = and_left (a && b && c) d t in
    let v = and_left (a && b) c u in (
      leb-true s.from o (T_true a (and_left a b v)),
      leb-true o s.upto (T_true b (and_right a b v)),
      leb-true s.first i (T_true c (and_right (a && b) c u)),
      ltb-true i s.end (T_true d (and_right (a && b && c) d t)),
    )

-- The assignments about those that a span gives to a cell: the uses before, the occurrences before, and the fields before in that occurrence.
pub record Parted (es : List Entry) (ws : List Assignment) (i o : ℕ) (s : Span) (start : ℕ) (about : AskedAbout es s i) : Type 0 where
  pub before : List Assignment
  pub occurrences : List Assignment
  pub fields : List Assignment
  pub block : List Assignment
  pub after : List Assignment
  pub is : ws ≡ before ++ (occurrences ++ (fields ++ (block ++ after)))
  pub bytes : start ≡ length (bytes_given before)
  pub of_occurrences : map (λ a. a.place) occurrences ≡ places_of (earlier_occurrences (range s.value_from s.value_upto) s.bare (asked_of es s) s.from o)
  pub of_fields : map (λ a. a.place) fields ≡ places_of (occurrence_items about.before (range s.value_from s.value_upto) s.bare o)
  pub places : map (λ a. a.place) block ≡ run (place_at es i o) s.value_from (suc s.value_upto - s.value_from)

pub places_own : (bare : Bool) (a : Asked) (g : Field) (o k m : ℕ) → a.field ≡ g → places_of (run (item_at bare a o) k m) ≡ run (λ v. record { field = g; occurrence = o; value = v }) k m
unfolding places_of run
places_own bare a g o k zero e = refl
places_own bare a g o k (suc m) e =
    ap (λ (h : Field). record { field = h; occurrence = o; value = k } ∷ places_of (run (item_at bare a o) (suc k) m)) e
    ∙ ap (λ ps. record { field = g; occurrence = o; value = k } ∷ ps) (places_own bare a g o (suc k) m e)

-- What is given to five parts of the items.
pub from_parts : {C : Type 0} (xs ps qs rs zs : List Item) (buffer : Bytes) (ws : List Assignment) (rest : Bytes) → taking (xs ++ (ps ++ (qs ++ (rs ++ zs)))) buffer ≡ done (ws, rest)
    → ((a p q r z : List Assignment) (mid : Bytes) → taking xs buffer ≡ done (a, mid) → ws ≡ a ++ (p ++ (q ++ (r ++ z)))
    → map (λ x. x.place) p ≡ places_of ps → map (λ x. x.place) q ≡ places_of qs → map (λ x. x.place) r ≡ places_of rs → C) → C
from_parts xs ps qs rs zs buffer ws rest t c =
    from_taking xs (ps ++ (qs ++ (rs ++ zs))) buffer ws rest t λ a a' m₀ ta ta' ea.
    from_taking ps (qs ++ (rs ++ zs)) m₀ a' rest ta' λ p p' m₁ tp tp' ep.
    from_taking qs (rs ++ zs) m₁ p' rest tp' λ q q' m₂ tq tq' eq.
    from_taking rs zs m₂ q' rest tq' λ r z m₃ tr tz er.
    c a p q r z m₀ ta (ea ∙ ap (λ (l : List Assignment). a ++ l) (ep ∙ ap (λ (l : List Assignment). p ++ l) (eq ∙ ap (λ (l : List Assignment). q ++ l) er)))
    (taking_places ps m₀ p m₁ tp) (taking_places qs m₁ q m₂ tq) (taking_places rs m₂ r m₃ tr)

pub first_given : (es : List Entry) (f : Bytes) (kept : List ℕ) (buffer : Bytes) (n : ℕ) (a : List Assignment) (mid : Bytes) → taking (items (uses_kept es f kept n)) buffer ≡ done (a, mid)
    → given_first es f kept buffer n ≡ a
unfolding given_first
first_given es f kept buffer n a mid e = ap assignments_in e

pub regroup : (p q r s l : List Item) → (p ++ (q ++ (r ++ s))) ++ l ≡ p ++ (q ++ (r ++ (s ++ l)))
regroup p q r s l =
    append_assoc p (q ++ (r ++ s)) l
    ∙ ap (λ (x : List Item). p ++ x) (append_assoc q (r ++ s) l ∙ ap (λ (x : List Item). q ++ x) (append_assoc r s l))

pub grouped : (a p q r : List Assignment) → (a ++ (p ++ q)) ++ r ≡ a ++ (p ++ (q ++ r))
grouped a p q r = append_assoc a (p ++ q) r ∙ ap (λ (x : List Assignment). a ++ x) (append_assoc p q r)

pub nothing_mapped : {A B : Type 0} (g : A → B) (xs : List A) → map g xs ≡ [] → xs ≡ []
nothing_mapped g [] e = refl
nothing_mapped g (x ∷ xs) e = let z = ap length e in absurd (omega arith)

pub no_places : (vs : Range) (bare : Bool) (o : ℕ) → places_of (occurrence_items [] vs bare o) ≡ []
unfolding join places_of
no_places vs bare o = refl

pub nothing_given : length (bytes_given []) ≡ 0
unfolding join
nothing_given = refl

pub one_weight : (a : Asked) (m : ℕ) → m * weight_asked (λ f. 1) (a ∷ []) ≡ m
unfolding weight_asked
one_weight a m = mul-one m

pub several_chain : (s : Span) → s.first + 1 < s.end → use_chain (code.Values s) ≡ group_chain
unfolding use_chain span_chain
several_chain s h = rw (lt-ltb (s.first + 1) s.end h)

-- What a test takes is left by it.
pub not_filtered : (p : ℕ → Bool) (s m k : ℕ) → s ≤ k → k < s + m → p k ≡ true → filter p (run (λ n. n) s m) ≡ [] → ⊥
unfolding filter run
not_filtered p s zero k h l t e = omega arith
not_filtered p s (suc m) k h l t e =
    by_test (p s)
    (λ q. let z = ap length (rw q at e) in omega arith)
    (λ q. by_test (eqb s k)
    (λ u. let v = eqb-true s k u in true≢false (sym t ∙ ap p (sym v) ∙ q))
    (λ u. let v = eqb-false s k u in not_filtered p (suc s) m k (omega arith) (omega arith) t (rw q at e)))

pub not_filtered_of : {A : Type 0} (p : A → Bool) (xs : List A) (a : A) (ys : List A) → p a ≡ true → filter p (xs ++ (a ∷ ys)) ≡ [] → ⊥
unfolding filter
not_filtered_of p [] a ys t e = let z = ap length (rw t at e) in omega arith
not_filtered_of p (x ∷ xs) a ys t e =
    by_test (p x) (λ q. let z = ap length (rw q at e) in omega arith) (λ q. not_filtered_of p xs a ys t (rw q at e))

-- Plain fields have a length of their own.
pub plain_sized : (fs : List Field) → T (all plain fs) → All (λ f. 0 < f.size) fs
unfolding all plain
plain_sized [] t = tt
plain_sized (f ∷ fs) t =
    (leb→le 1 f.size (and_right (not f.multiple) (leb 1 f.size) (and_left (plain f) (all plain fs) t)), plain_sized fs (and_right (plain f) (all plain fs) t))
