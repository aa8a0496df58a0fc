-- Whether lists of places have a place in common, and whether one place repeats: the places of an element are a grid of fields,
-- occurrences and values, so both come down to its three sides.
use mathlib.Core.Path.{◌≡◌, refl, sym, ◌∙◌, ap, fun_ext}
use mathlib.Core.Bool.{Bool, true, false, not, ◌&&◌, ◌||◌, or-false, or_self, or_assoc, and-false, and-or_distrib_left, and-or_distrib_right}
use mathlib.Core.List.{List, [], ◌∷◌, ◌++◌, map}
use Prim.Native.Nat.{ℕ, zero, suc, ◌+◌, ◌-◌, ◌≤◌, ◌<◌, max}
use native.Mathlib.Omega.{arith}
use borrow.Author.Tests.{ne_eqb, eqb-true, eqb-false}
use lib.Dec.{T, leb, leb→le, le→leb, eqb, eqb→eq, eqb_refl, T_not, not_T}
use Rattle.rules.specs.Lists.{all, any, run, join}
use Rattle.rules.specs.Table.{differ}
use Rattle.rules.specs.Format.{Range}
use Rattle.rules.specs.Use.{Place, Item, blanks_item, text_item, group_count, value_count, value_item, Asked, value_items}
use Rattle.rules.specs.Update.{same_place, meet}
use Rattle.rules.proofs.Steps.{and_left, and_right, and_intro, by_test, true_T}
use Rattle.rules.proofs.Bools.{or_crossed, or_left, or_right, both_ways}

-- "Counts, spaces and text name nothing."
unfoldable pub places_of : List Item → List Place
places_of [] = []
places_of (blanks_item n ∷ xs) = places_of xs
places_of (text_item t ∷ xs) = places_of xs
places_of (group_count n ∷ xs) = places_of xs
places_of (value_count n i ∷ xs) = places_of xs
places_of (value_item p g n bare ∷ xs) = p ∷ places_of xs

-- A place stands after one that is the same.
unfoldable pub repeats : List Place → Bool
repeats [] = false
repeats (p ∷ ps) = any (same_place p) ps || repeats ps

-- Two lists have a place in common.
unfoldable pub clash : List Place → List Place → Bool
clash ps qs = any (λ p. any (same_place p) qs) ps

pub any_append : {A : Type 0} (f : A → Bool) (xs ys : List A) → any f (xs ++ ys) ≡ (any f xs || any f ys)
unfolding any
any_append f [] ys = refl
any_append f (x ∷ xs) ys = rw (any_append f xs ys, or_assoc)

none_there : {A : Type 0} (xs : List A) → any (λ x. false) xs ≡ false
unfolding any
none_there [] = refl
none_there (x ∷ xs) = none_there xs

any_or : {A : Type 0} (f g : A → Bool) (xs : List A) → any (λ x. f x || g x) xs ≡ (any f xs || any g xs)
unfolding any
any_or f g [] = refl
any_or f g (x ∷ xs) = rw (any_or f g xs) (or_crossed (f x) (g x) (any f xs) (any g xs))

pub clash_none : (ps : List Place) → clash ps [] ≡ false
unfolding clash any
clash_none ps = none_there ps

pub clash_append : (ps qs rs : List Place) → clash ps (qs ++ rs) ≡ (clash ps qs || clash ps rs)
unfolding clash
clash_append ps qs rs =
    ap (λ f. any f ps) (fun_ext λ p. any_append (same_place p) qs rs) ∙ any_or (λ p. any (same_place p) qs) (λ p. any (same_place p) rs) ps

crossed : (a b r c s : Bool) → ((a || b) || (r || c || s)) ≡ ((a || r) || (b || c) || s)
crossed true b r c s = refl
crossed false true true c s = refl
crossed false true false c s = refl
crossed false false r c s = refl

pub repeats_append : (ps qs : List Place) → repeats (ps ++ qs) ≡ (repeats ps || clash ps qs || repeats qs)
unfolding repeats clash any
repeats_append [] qs = refl
repeats_append (p ∷ ps) qs =
    rw (any_append (same_place p) ps qs, repeats_append ps qs) (crossed (any (same_place p) ps) (any (same_place p) qs) (repeats ps) (clash ps qs) (repeats qs))

-- The places of one field in one occurrence; of some fields in one occurrence; of some fields in some occurrences: n of them from
-- the index i on, with m values each from the index k on.
abbrev pub spot : Asked → ℕ → ℕ → Place
spot a i k = record { field = a.field; occurrence = i; value = k }

unfoldable pub spots : Asked → ℕ → ℕ → ℕ → List Place
spots a i k m = run (spot a i) k m

unfoldable pub row : List Asked → ℕ → ℕ → ℕ → List Place
row fs i k m = join (map (λ a. spots a i k m) fs)

unfoldable pub grid : List Asked → ℕ → ℕ → ℕ → ℕ → List Place
grid fs i n k m = join (run (λ j. row fs j k m) i n)

-- How many numbers a range has.
abbrev pub range_length : Range → ℕ
range_length r = suc r.upto - r.from

abbrev pub counting : ℕ → ℕ → List ℕ
counting i n = run (λ j. j) i n

-- The names of the fields of an element.
abbrev pub names_asked : List Asked → List ℕ
names_asked fs = map (λ a. a.field.name) fs

pub places_append : (xs ys : List Item) → places_of (xs ++ ys) ≡ places_of xs ++ places_of ys
unfolding places_of
places_append [] ys = refl
places_append (blanks_item n ∷ xs) ys = places_append xs ys
places_append (text_item t ∷ xs) ys = places_append xs ys
places_append (group_count n ∷ xs) ys = places_append xs ys
places_append (value_count n i ∷ xs) ys = places_append xs ys
places_append (value_item p g n bare ∷ xs) ys = ap (◌∷◌ p) (places_append xs ys)

places_run : (f : ℕ → List Item) (i n : ℕ) → places_of (join (run f i n)) ≡ join (run (λ j. places_of (f j)) i n)
unfolding places_of join run
places_run f i zero = refl
places_run f i (suc n) = rw (places_append (f i) (join (run f (suc i) n)), places_run f (suc i) n)

places_map : (f : Asked → List Item) (fs : List Asked) → places_of (join (map f fs)) ≡ join (map (λ a. places_of (f a)) fs)
unfolding places_of join
places_map f [] = refl
places_map f (a ∷ fs) = rw (places_append (f a) (join (map f fs)), places_map f fs)

places_spots : (a : Asked) (i : ℕ) (bare : Bool) (k m : ℕ) → places_of (run (λ j. value_item (spot a i j) a.format a.size bare) k m) ≡ spots a i k m
unfolding places_of spots run
places_spots a i bare k zero = refl
places_spots a i bare k (suc m) = ap (◌∷◌ (spot a i k)) (places_spots a i bare (suc k) m)

-- The places of an element are a grid.
pub places_grid : (fs : List Asked) (os vs : Range) (bare : Bool) → places_of (value_items fs os vs bare) ≡ grid fs os.from (range_length os) vs.from (range_length vs)
unfolding value_items grid row
places_grid fs os vs bare = simp (places_run, places_map, places_spots)

pick_field : (f r g h : Bool) → ((f && g && h) || (r && g && h)) ≡ ((f || r) && g && h)
pick_field true true g h = or_self (g && h)
pick_field true false g h = or-false (g && h)
pick_field false r g h = refl

pick_occurrence : (f g r h : Bool) → ((f && g && h) || (f && r && h)) ≡ (f && (g || r) && h)
pick_occurrence true g r h = sym (and-or_distrib_right g r h)
pick_occurrence false g r h = refl

-- A test that tests a place's field, occurrence and value apart holds somewhere on the grid where each of the three holds somewhere
-- on its side.
module _ (F G H : ℕ → Bool) where
  abbrev apart : Place → Bool
  apart p = F p.field.name && G p.occurrence && H p.value

  any_spots : (a : Asked) (i k m : ℕ) → any apart (spots a i k m) ≡ (F a.field.name && G i && any H (counting k m))
  unfolding any spots run
  any_spots a i k zero = sym (and-false (F a.field.name && G i))
  any_spots a i k (suc m) = rw (any_spots a i (suc k) m) (sym (and-or_distrib_left (F a.field.name && G i) (H k) (any H (counting (suc k) m))))

  any_row : (fs : List Asked) (i k m : ℕ) → any apart (row fs i k m) ≡ (any (λ a. F a.field.name) fs && G i && any H (counting k m))
  unfolding any row join
  any_row [] i k m = refl
  any_row (a ∷ fs) i k m =
      rw (any_append apart (spots a i k m) (row fs i k m), any_spots a i k m, any_row fs i k m)
      (pick_field (F a.field.name) (any (λ b. F b.field.name) fs) (G i) (any H (counting k m)))

  any_grid : (fs : List Asked) (i n k m : ℕ) → any apart (grid fs i n k m) ≡ (any (λ a. F a.field.name) fs && any G (counting i n) && any H (counting k m))
  unfolding any grid join run
  any_grid fs i zero k m = rw (and-false (any (λ a. F a.field.name) fs))
  any_grid fs i (suc n) k m =
      rw (any_append apart (row fs i k m) (grid fs (suc i) n k m), any_row fs i k m, any_grid fs (suc i) n k m)
      (pick_occurrence (any (λ a. F a.field.name) fs) (G i) (any G (counting (suc i) n)) (any H (counting k m)))

-- A name is among those of the fields; a number is among n from i on.
abbrev pub among : List Asked → ℕ → Bool
among fs n = any (λ a. eqb n a.field.name) fs

abbrev pub in_count : ℕ → ℕ → ℕ → Bool
in_count i n j = any (eqb j) (counting i n)

clash_as : (f : Place → Bool) (ps qs : List Place) → ((p : Place) → any (same_place p) qs ≡ f p) → clash ps qs ≡ any f ps
unfolding clash
clash_as f ps qs h = ap (λ g. any g ps) (fun_ext h)

pub clash_grid : (fs gs : List Asked) (i n k m j o l q : ℕ) → clash (grid fs i n k m) (grid gs j o l q)
    ≡ (any (λ a. among gs a.field.name) fs && any (in_count j o) (counting i n) && any (in_count l q) (counting k m))
unfolding same_place
clash_grid fs gs i n k m j o l q =
    clash_as (apart (among gs) (in_count j o) (in_count l q)) _ _ (λ p. any_grid (eqb p.field.name) (eqb p.occurrence) (eqb p.value) gs j o l q)
    ∙ any_grid (among gs) (in_count j o) (in_count l q) fs i n k m

none_below : (j i n : ℕ) → j < i → in_count i n j ≡ false
unfolding any run
none_below j i zero h = refl
none_below j i (suc n) h = rw (ne_eqb j i (omega arith), none_below j (suc i) n (omega arith))

-- No n is among them.
abbrev pub Avoids : ℕ → List ℕ → Type 0
Avoids n ns = T (all (λ m. not (eqb m n)) ns)

pub from_avoids : {C : Type 0} (n m : ℕ) (ms : List ℕ) → Avoids n (m ∷ ms) → ((n ≡ m → ⊥) → Avoids n ms → C) → C
unfolding all
from_avoids n m ms a k =
    k (λ e. T_not (eqb m n) (and_left (not (eqb m n)) (all (λ m. not (eqb m n)) ms) a) (rw e (eqb_refl m)))
    (and_right (not (eqb m n)) (all (λ m. not (eqb m n)) ms) a)

pub avoids_more : (n m : ℕ) (ms : List ℕ) → (n ≡ m → ⊥) → Avoids n ms → Avoids n (m ∷ ms)
unfolding all
avoids_more n m ms d a = and_intro (not (eqb m n)) (all (λ m. not (eqb m n)) ms) (not_T (eqb m n) (λ t. d (sym (eqb→eq m n t)))) a

pub from_differ : {C : Type 0} (n : ℕ) (ns : List ℕ) → T (differ (n ∷ ns)) → (Avoids n ns → T (differ ns) → C) → C
unfolding differ
from_differ n ns d k = k (and_left (all (λ m. not (eqb m n)) ns) (differ ns) d) (and_right (all (λ m. not (eqb m n)) ns) (differ ns) d)

pub differ_more : (n : ℕ) (ns : List ℕ) → Avoids n ns → T (differ ns) → T (differ (n ∷ ns))
unfolding differ
differ_more n ns a d = and_intro (all (λ m. not (eqb m n)) ns) (differ ns) a d

not_among : (fs : List Asked) (n : ℕ) → Avoids n (names_asked fs) → among fs n ≡ false
unfolding any
not_among [] n a = refl
not_among (f ∷ fs) n a = from_avoids n f.field.name (names_asked fs) a λ e b. rw (ne_eqb n f.field.name e) (not_among fs n b)

-- No place of one element repeats: its fields differ, and its indexes ascend.
spots_once : (a : Asked) (i k m : ℕ) → repeats (spots a i k m) ≡ false
unfolding repeats spots run same_place
spots_once a i k zero = refl
spots_once a i k (suc m) =
    rw (
      any_spots (eqb a.field.name) (eqb i) (eqb k) a i (suc k) m,
      none_below k (suc k) m (omega arith),
      and-false (eqb a.field.name a.field.name && eqb i i),
      spots_once a i (suc k) m,
    )

row_once : (fs : List Asked) (i k m : ℕ) → T (differ (names_asked fs)) → repeats (row fs i k m) ≡ false
unfolding repeats row join same_place
row_once [] i k m d = refl
row_once (a ∷ fs) i k m d =
    from_differ a.field.name (names_asked fs) d λ v r.
    let c : clash (spots a i k m) (row fs i k m) ≡ false =
    clash_as (apart (among fs) (λ j. eqb j i) (in_count k m)) _ _ (λ p. any_row (eqb p.field.name) (eqb p.occurrence) (eqb p.value) fs i k m)
    ∙ any_spots (among fs) (λ j. eqb j i) (in_count k m) a i k m
    ∙ rw (not_among fs a.field.name v) in
    rw (repeats_append (spots a i k m) (row fs i k m), spots_once a i k m, c) (row_once fs i k m r)

pub grid_once : (fs : List Asked) (i n k m : ℕ) → T (differ (names_asked fs)) → repeats (grid fs i n k m) ≡ false
unfolding repeats grid join run same_place
grid_once fs i zero k m d = refl
grid_once fs i (suc n) k m d =
    let c : clash (row fs i k m) (grid fs (suc i) n k m) ≡ false =
    clash_as (apart (among fs) (in_count (suc i) n) (in_count k m)) _ _ (λ p. any_grid (eqb p.field.name) (eqb p.occurrence) (eqb p.value) fs (suc i) n k m)
    ∙ any_row (among fs) (in_count (suc i) n) (in_count k m) fs i k m
    ∙ rw (none_below i (suc i) n (omega arith), and-false (any (λ a. among fs a.field.name) fs)) in
    rw (repeats_append (row fs i k m) (grid fs (suc i) n k m), row_once fs i k m d, c) (grid_once fs (suc i) n k m d)

-- A test holds somewhere among n numbers from i on where it holds at one of them, and only there.
pub there : (f : ℕ → Bool) (i n k : ℕ) → i ≤ k → k < i + n → T (f k) → T (any f (counting i n))
unfolding any run
there f i zero k l h t = absurd (omega arith)
there f i (suc n) k l h t =
    by_test (eqb i k) (λ e. or_left (f i) _ (rw (eqb-true i k e) t))
    (λ e. or_right (f i) _ (there f (suc i) n k (let d = eqb-false i k e in omega arith) (omega arith) t))

pub somewhere : {C : Type 0} (f : ℕ → Bool) (i n : ℕ) → T (any f (counting i n)) → ((k : ℕ) → i ≤ k → k < i + n → T (f k) → C) → C
unfolding any run
somewhere f i zero t c = absurd t
somewhere f i (suc n) t c = by_test (f i) (λ e. c i (omega arith) (omega arith) (true_T e)) (λ e. somewhere f (suc i) n (rw e at t) λ k l h. c k (omega arith) (omega arith))

-- Two ranges that do not descend have an index in common where neither ends before the other begins.
pub ranges_meet : (a b : Range) → a.from ≤ a.upto → b.from ≤ b.upto → any (in_count b.from (range_length b)) (counting a.from (range_length a)) ≡ meet a b
unfolding meet
ranges_meet a b h g =
    both_ways _ _
    (λ t. somewhere (in_count b.from (range_length b)) a.from (range_length a) t λ k l u s. somewhere (eqb k) b.from (range_length b) s λ q l' u' v.
    let e = eqb→eq k q v in
    and_intro (leb a.from b.upto) (leb b.from a.upto) (le→leb a.from b.upto (omega arith)) (le→leb b.from a.upto (omega arith)))
    (λ t.
    let l = leb→le a.from b.upto (and_left (leb a.from b.upto) (leb b.from a.upto) t) in
    let u = leb→le b.from a.upto (and_right (leb a.from b.upto) (leb b.from a.upto) t) in
    let k = max a.from b.from in
    there (in_count b.from (range_length b)) a.from (range_length a) k (omega arith) (omega arith)
    (there (eqb k) b.from (range_length b) k (omega arith) (omega arith) (eqb_refl k)))
