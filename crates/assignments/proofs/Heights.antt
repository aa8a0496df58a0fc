-- The greatest of what a list has, by its parts: joined lists, and what three tests leave of numbers. Tests that hold of all or of some
-- are such greatest numbers too, and so is the highest occurrence that is assigned of the fields among some entries.
use mathlib.Core.Path.{◌≡◌, refl, sym, ap, ◌∙◌}
use mathlib.Core.Bool.{Bool, true, false, cond, not, ◌&&◌, ◌||◌, true≢false}
use mathlib.Core.List.{List, [], ◌∷◌, ◌++◌, map, append-nil}
use Prim.Native.Nat.{ℕ, zero, suc, ◌+◌, ◌<◌, ◌≤◌, max}
use native.Mathlib.Omega.{arith}
use lib.Dec.{eqb}
use Rattle.rules.specs.Lists.{absent, all, any, filter, join, maximum, run}
use Rattle.rules.specs.Table.{What, field, group, Field, Entry, Part, member}
use Rattle.rules.specs.Update.{Assignment, to_field, to_part, highest_occurrence}
use Rattle.rules.proofs.Steps.{by_test, eqb_same}
use Rattle.buffer.proofs.Cases.{by_order}
use Rattle.tables.specs.Entries.{is_group}
use Rattle.tables.specs.Groups.{with_field, fields_in}
use Rattle.tables.proofs.EntryFields.{no_fields, first_field}
use borrow.Author.Tests.{eqb-true, eqb-false, eq-eqb, ne_eqb}

cons_not_nil : {A : Type 0} {x : A} {xs : List A} → ◌≡◌ {A = List A} (x ∷ xs) [] → ⊥
cons_not_nil e = let z : ◌≡◌ {A = ℕ} 0 1 = cc in omega arith

-- Joined lists of which at most one has something.
module _ {A : Type 0} (g : ℕ → List A) where
  pub join_none : (i n : ℕ) → ((j : ℕ) → i ≤ j → j < i + n → g j ≡ []) → join (run g i n) ≡ []
  unfolding join run
  join_none i zero h = refl
  join_none i (suc n) h = rw (h i (omega arith) (omega arith)) (join_none (suc i) n (λ j a b. h j (omega arith) (omega arith)))

  pub join_one : (i n k : ℕ) → i ≤ k → k < i + n → ((j : ℕ) → i ≤ j → j < i + n → (j ≡ k → ⊥) → g j ≡ []) → join (run g i n) ≡ g k
  unfolding join run
  join_one i zero k l u h = absurd (omega arith)
  join_one i (suc n) k l u h =
      by_test (eqb i k)
      (λ t.
      let e : i ≡ k = eqb-true i k t in
      rw (join_none (suc i) n (λ j a b. h j (omega arith) (omega arith) (λ q. omega arith)), append-nil) (ap g e))
      (λ t.
      let d : i ≡ k → ⊥ = eqb-false i k t in
      rw (h i (omega arith) (omega arith) d) (join_one (suc i) n k (omega arith) (omega arith) (λ j a b. h j (omega arith) (omega arith))))

-- The greatest number that a list has by a function.
unfoldable pub greatest : {A : Type 0} → (A → ℕ) → List A → ℕ
greatest h xs = maximum (map h xs)

module _ {A : Type 0} (h : A → ℕ) where
  pub greatest_none : greatest h [] ≡ 0
  unfolding greatest maximum
  greatest_none = refl

  pub greatest_more : (x : A) (xs : List A) → greatest h (x ∷ xs) ≡ max (h x) (greatest h xs)
  unfolding greatest maximum
  greatest_more x xs = refl

  pub greatest_append : (xs ys : List A) → greatest h (xs ++ ys) ≡ max (greatest h xs) (greatest h ys)
  greatest_append [] ys = omega (arith, greatest_none)
  greatest_append (x ∷ xs) ys = omega (arith, greatest_more x (xs ++ ys), greatest_more x xs, greatest_append xs ys)

  pub greatest_map : {B : Type 0} (f : B → A) (ys : List B) → greatest h (map f ys) ≡ greatest (λ y. h (f y)) ys
  unfolding greatest maximum
  greatest_map f [] = refl
  greatest_map f (y ∷ ys) = greatest_more (f y) (map f ys) ∙ ap (max (h (f y))) (greatest_map f ys)

  pub greatest_join : (g : ℕ → List A) (i n : ℕ) → greatest h (join (run g i n)) ≡ maximum (run (λ m. greatest h (g m)) i n)
  unfolding join run maximum
  greatest_join g i zero = greatest_none
  greatest_join g i (suc n) = greatest_append (g i) (join (run g (suc i) n)) ∙ ap (max (greatest h (g i))) (greatest_join g (suc i) n)

module _ {A : Type 0} (p : A → Bool) (x : A) (xs : List A) where
  pub filter_in : p x ≡ true → filter p (x ∷ xs) ≡ x ∷ filter p xs
  unfolding filter
  filter_in e = rw (e, filter)

  pub filter_out : p x ≡ false → filter p (x ∷ xs) ≡ filter p xs
  unfolding filter
  filter_out e = rw (e, filter)

chosen : (a b c : Bool) (v : ℕ) → (a ≡ false → b ≡ false → c ≡ false → v ≡ 0) → max (max (cond a v 0) (cond b v 0)) (cond c v 0) ≡ v
chosen true true true v e = omega arith
chosen true true false v e = omega arith
chosen true false true v e = omega arith
chosen true false false v e = omega arith
chosen false true true v e = omega arith
chosen false true false v e = omega arith
chosen false false true v e = omega arith
chosen false false false v e = sym (e refl refl refl)

crossed : (a b c d : ℕ) → max (max a b) (max c d) ≡ max (max a c) (max b d)
crossed a b c d = omega arith

three_crossed : (a b c x y z : ℕ) → max (max (max a x) (max b y)) (max c z) ≡ max (max (max a b) c) (max (max x y) z)
three_crossed a b c x y z = ap (λ n. max n (max c z)) (crossed a x b y) ∙ crossed (max a b) (max x y) c z

-- The greatest over numbers in turn.
module _ (h : ℕ → ℕ) where
  pub maximum_zero : (i n : ℕ) → ((m : ℕ) → i ≤ m → m < i + n → h m ≡ 0) → maximum (run h i n) ≡ 0
  unfolding run maximum
  maximum_zero i zero e = refl
  maximum_zero i (suc n) e = rw (e i (omega arith) (omega arith)) (let z = maximum_zero (suc i) n (λ m a b. e m (omega arith) (omega arith)) in omega arith)

  pub maximum_within : (most i n : ℕ) → ((m : ℕ) → i ≤ m → m < i + n → h m ≤ most) → maximum (run h i n) ≤ most
  unfolding run maximum
  maximum_within most i zero e = omega arith
  maximum_within most i (suc n) e =
      let here = e i (omega arith) (omega arith) in
      let rest = maximum_within most (suc i) n (λ m a b. e m (omega arith) (omega arith)) in
      omega arith

  pub maximum_above : (i n m : ℕ) → i ≤ m → m < i + n → h m ≤ maximum (run h i n)
  unfolding run maximum
  maximum_above i zero m l u = absurd (omega arith)
  maximum_above i (suc n) m l u =
      by_test (eqb i m)
      (λ t. let e : h i ≡ h m = ap h (eqb-true i m t) in omega arith)
      (λ t. let d = eqb-false i m t in let rest = maximum_above (suc i) n m (omega arith) (omega arith) in omega arith)

  -- It is 0, or that of one of them.
  pub maximum_met : {C : Type 0} (i n : ℕ) → (maximum (run h i n) ≡ 0 → C) → ((m : ℕ) → i ≤ m → m < i + n → maximum (run h i n) ≡ h m → C) → C
  unfolding run maximum
  maximum_met i zero c d = c refl
  maximum_met i (suc n) c d =
      by_order (h i) (maximum (run h (suc i) n))
      (λ l. maximum_met (suc i) n (λ e. absurd (omega arith)) (λ m a b e. d m (omega arith) (omega arith) (omega arith)))
      (λ l. d i (omega arith) (omega arith) (omega arith))

  -- Of numbers that three tests leave, where each other counts 0.
  filter_more : (p : ℕ → Bool) (x : ℕ) (xs : List ℕ) → greatest h (filter p (x ∷ xs)) ≡ max (cond (p x) (h x) 0) (greatest h (filter p xs))
  filter_more p x xs =
      by_test (p x)
      (λ t. rw (filter_in p x xs t, t) (greatest_more h x (filter p xs)))
      (λ t. rw (filter_out p x xs t, t) (omega arith))

  pub greatest_three : (p q r : ℕ → Bool) (i n : ℕ) → ((m : ℕ) → i ≤ m → m < i + n → p m ≡ false → q m ≡ false → r m ≡ false → h m ≡ 0)
      → max (max (greatest h (filter p (run (λ m. m) i n))) (greatest h (filter q (run (λ m. m) i n)))) (greatest h (filter r (run (λ m. m) i n))) ≡ maximum (run h i n)
  unfolding run maximum filter
  greatest_three p q r i zero e = omega (arith, greatest_none h)
  greatest_three p q r i (suc n) e =
      let rest = greatest_three p q r (suc i) n (λ m a b. e m (omega arith) (omega arith)) in
      let a = filter_more p i (run (λ m. m) (suc i) n) in
      let b = filter_more q i (run (λ m. m) (suc i) n) in
      let c = filter_more r i (run (λ m. m) (suc i) n) in
      rw (a, b, c) (three_crossed _ _ _ _ _ _ ∙ rw (chosen (p i) (q i) (r i) (h i) (e i (omega arith) (omega arith)), rest))

-- A test holds of all where none counts 1, and of some where one does.
abbrev pub unmet : Bool → ℕ
unmet b = cond b 0 1

abbrev pub met : Bool → ℕ
met b = cond b 1 0

pub all_greatest : {A : Type 0} (p : A → Bool) (xs : List A) → all p xs ≡ eqb (greatest (λ x. unmet (p x)) xs) 0
unfolding all
all_greatest p [] = rw (greatest_none (λ x. unmet (p x)))
all_greatest p (x ∷ xs) =
    let more = greatest_more (λ x. unmet (p x)) x xs in
    by_test (p x)
    (λ t.
    let z : unmet (p x) ≡ 0 = rw t in
    let e : greatest (λ x. unmet (p x)) (x ∷ xs) ≡ greatest (λ x. unmet (p x)) xs = omega arith in
    rw (t, e) (all_greatest p xs))
    (λ t.
    let z : unmet (p x) ≡ 1 = rw t in
    sym (rw t (ne_eqb (greatest (λ x. unmet (p x)) (x ∷ xs)) 0 (λ q. omega arith))))

pub any_greatest : {A : Type 0} (p : A → Bool) (xs : List A) → any p xs ≡ false → greatest (λ x. met (p x)) xs ≡ 0
unfolding any
any_greatest p [] e = greatest_none (λ x. met (p x))
any_greatest p (x ∷ xs) e =
    let more = greatest_more (λ x. met (p x)) x xs in
    by_test (p x)
    (λ t. absurd (true≢false (rw t at e)))
    (λ t.
    let z : met (p x) ≡ 0 = rw t in
    let rest = any_greatest p xs (rw t at e) in
    omega arith)

-- The highest occurrence of the assignments that meet a test.
unfoldable pub height : (Assignment → Bool) → List Assignment → ℕ
height p ws = greatest (λ a. a.place.occurrence) (filter p ws)

module _ (p : Assignment → Bool) where
  height_nil : height p [] ≡ 0
  unfolding height filter
  height_nil = greatest_none _

  height_in : (a : Assignment) (ws : List Assignment) → p a ≡ true → height p (a ∷ ws) ≡ max a.place.occurrence (height p ws)
  unfolding height
  height_in a ws e = ap (greatest _) (filter_in p a ws e) ∙ greatest_more (λ b. b.place.occurrence) a (filter p ws)

  height_out : (a : Assignment) (ws : List Assignment) → p a ≡ false → height p (a ∷ ws) ≡ height p ws
  unfolding height
  height_out a ws e = ap (greatest _) (filter_out p a ws e)

  height_none : (ws : List Assignment) → ((a : Assignment) → p a ≡ false) → height p ws ≡ 0
  height_none [] h = height_nil
  height_none (a ∷ ws) h = height_out a ws (h a) ∙ height_none ws h

height_or : (p q r : Assignment → Bool) → ((a : Assignment) → r a ≡ (p a || q a)) → (ws : List Assignment) → height r ws ≡ max (height p ws) (height q ws)
height_or p q r h [] = omega (arith, height_nil p, height_nil q, height_nil r)
height_or p q r h (a ∷ ws) =
    let rest = height_or p q r h ws in
    by_test (p a)
    (λ t.
    let u = height_in r a ws (h a ∙ rw t) in
    let v = height_in p a ws t in
    by_test (q a)
    (λ s. let w = height_in q a ws s in omega arith)
    (λ s. let w = height_out q a ws s in omega arith))
    (λ t.
    let v = height_out p a ws t in
    by_test (q a)
    (λ s. let u = height_in r a ws (h a ∙ rw (t, s)) in let w = height_in q a ws s in omega arith)
    (λ s. let u = height_out r a ws (h a ∙ rw (t, s)) in let w = height_out q a ws s in omega arith))

-- That of a field is the highest occurrence in which something is assigned to it.
abbrev pub to_name : ℕ → Assignment → Bool
to_name n a = eqb a.place.field.name n

module _ (n : ℕ) where
  abbrev to_cell : ℕ → Assignment → Bool
  to_cell o a = eqb a.place.field.name n && eqb a.place.occurrence o

  pub height_within : (most : ℕ) (ws : List Assignment) → ((o : ℕ) → most < o → to_field ws n o ≡ []) → height (to_name n) ws ≤ most
  unfolding to_field
  height_within most [] h = omega (arith, height_nil (to_name n))
  height_within most (a ∷ ws) h =
      let rest = height_within most ws (λ o l. by_test (to_cell o a) (λ t. absurd (cons_not_nil (sym (filter_in (to_cell o) a ws t) ∙ h o l))) (λ t. sym (filter_out (to_cell o) a ws t) ∙ h o l)) in
      by_test (to_name n a)
      (λ t. by_order most a.place.occurrence
      (λ l. absurd (cons_not_nil (sym (filter_in (to_cell a.place.occurrence) a ws (rw (t, eqb_same a.place.occurrence))) ∙ h a.place.occurrence l)))
      (λ l. omega (arith, height_in (to_name n) a ws t)))
      (λ t. omega (arith, height_out (to_name n) a ws t))

  pub height_above : (o : ℕ) (ws : List Assignment) → (to_field ws n o ≡ [] → ⊥) → o ≤ height (to_name n) ws
  unfolding to_field filter
  height_above o [] h = absurd (h refl)
  height_above o (a ∷ ws) h =
      by_test (to_name n a)
      (λ t. by_test (eqb a.place.occurrence o)
      (λ s. omega (arith, height_in (to_name n) a ws t, eqb-true a.place.occurrence o s))
      (λ s. omega (arith, height_in (to_name n) a ws t, height_above o ws (λ e. h (filter_out (to_cell o) a ws (rw (t, s)) ∙ e)))))
      (λ t. omega (arith, height_out (to_name n) a ws t, height_above o ws (λ e. h (filter_out (to_cell o) a ws (rw t) ∙ e))))

-- The fields among some entries: the higher of that of the first entry and that of the others.
unfoldable pub among : List Field → Assignment → Bool
among fs a = not (absent (member a.place.field.name fs))

abbrev pub fields_height : List Entry → List Assignment → ℕ
fields_height es ws = height (among (fields_in es)) ws

among_none : (a : Assignment) → among [] a ≡ false
unfolding among member absent
among_none a = refl

eqb_swap : (a b : ℕ) → eqb a b ≡ eqb b a
eqb_swap a b =
    by_test (eqb a b) (λ t. t ∙ sym (eq-eqb b a (sym (eqb-true a b t)))) (λ f. f ∙ sym (ne_eqb b a (λ e. eqb-false a b f (sym e))))

among_more : (f : Field) (fs : List Field) (a : Assignment) → among (f ∷ fs) a ≡ (to_name f.name a || among fs a)
unfolding among member absent
among_more f fs a =
    rw (eqb_swap a.place.field.name f.name) (by_test (eqb f.name a.place.field.name) (λ t. rw (t, member)) (λ t. rw (t, member)))

pub no_height : (ws : List Assignment) → fields_height [] ws ≡ 0
no_height ws = rw no_fields (height_none (among []) ws among_none)

field_height : (n : ℕ) (w : What) (fs : List Field) (ws : List Assignment) → is_group w ≡ false
    → height (among (with_field n w fs)) ws ≡ max (height (to_name n) ws) (height (among fs) ws)
field_height n (field f s m) fs ws e =
    height_or (to_name n) (among fs) (among (record { name = n; format = f; size = s; multiple = m } ∷ fs)) (among_more (record { name = n; format = f; size = s; multiple = m }) fs) ws
field_height n (group p) fs ws e = absurd (true≢false e)

group_height : (n : ℕ) (w : What) (fs : List Field) (ws : List Assignment) → is_group w ≡ true → height (among (with_field n w fs)) ws ≡ height (among fs) ws
group_height n (field f s m) fs ws e = absurd (true≢false (sym e))
group_height n (group p) fs ws e = refl

module _ (e : Entry) (es : List Entry) (ws : List Assignment) where
  pub first_field_height : is_group e.what ≡ false → fields_height (e ∷ es) ws ≡ max (height (to_name e.name) ws) (fields_height es ws)
  first_field_height g = ap (λ fs. height (among fs) ws) (first_field e es) ∙ field_height e.name e.what (fields_in es) ws g

  pub first_group_height : is_group e.what ≡ true → fields_height (e ∷ es) ws ≡ fields_height es ws
  first_group_height g = ap (λ fs. height (among fs) ws) (first_field e es) ∙ group_height e.name e.what (fields_in es) ws g

pub part_height : (ws : List Assignment) (p : Part) → height (among p.members) ws ≡ highest_occurrence ws p
unfolding height greatest among highest_occurrence to_part
part_height ws p = refl
