-- The names of a table differ, so each field of each part of the record is found by its name.
use mathlib.Core.Path.{◌≡◌, refl, sym, subst}
use mathlib.Core.Bool.{Bool, true, false, not}
use mathlib.Core.Option.{none, some}
use mathlib.Core.List.{List, [], ◌∷◌, ◌++◌, map}
use Prim.Native.Nat.{ℕ}
use borrow.Author.Tests.{ne_eqb}
use lib.Dec.{T, T_not, eqb, eqb_refl, ltb}
use Rattle.rules.specs.Lists.{all}
use Rattle.rules.specs.Table.{Field, What, field, group, Entry, Part, differ, names, inside_of, is_inside, fields_below, alone, part_of, parts_from, parts, member}
use Rattle.rules.proofs.Steps.{and_left, and_right, and_intro, by_test, by_option, eqb_same, not_some, some_inj, from_some_pair}
use Rattle.rules.proofs.Back.{All, all_map}
use Rattle.rules.proofs.Alls.{all_both}
use Rattle.rules.proofs.Places.{Avoids, from_differ, from_avoids, avoids_more, differ_more}
use Rattle.rules.proofs.Uses.{field_names, Picked, nothing_left, taken, left_out, picked_differ}
use Rattle.rules.proofs.Home.{home}
use Rattle.rules.proofs.Entries.{Sound}

unfoldable pub names_of : List Part → List ℕ
names_of [] = []
names_of (p ∷ ps) = field_names p.members ++ names_of ps

-- ---- the names of the parts are some of the table's, in their order

abbrev pub Outside : List Entry → Type 0
Outside es = Picked (names_of (parts_from false es)) (names es)

abbrev pub Inside : List Entry → Type 0
Inside es = Picked (field_names (fields_below 1 es) ++ names_of (parts_from true es)) (names es)

outside_more : (n level : ℕ) (w : What) (es : List Entry) → Outside es → Inside es → Outside (record { name = n; level = level; what = w } ∷ es)
unfolding parts_from part_of alone names_of names inside_of
outside_more n level (field f s m) es a b = taken a
outside_more n level (group true) es a b = left_out b
outside_more n level (group false) es a b = left_out a

inside_more : (n level : ℕ) (w : What) (es : List Entry) → Sound level w → Outside es → Inside es → Inside (record { name = n; level = level; what = w } ∷ es)
unfolding parts_from part_of alone names_of names inside_of fields_below
inside_more n level (field f s m) es o a b = by_test (ltb 1 level) (λ t. rw (t, fields_below, part_of) (taken b)) (λ t. rw (t, fields_below, part_of) (taken a))
inside_more n level (group true) es o a b = rw o (left_out b)
inside_more n level (group false) es o a b = by_test (ltb 1 level) (λ t. rw (t, fields_below) (left_out b)) (λ t. rw (t, fields_below) (left_out a))

pub parts_picked : (es : List Entry) → All (λ e. Sound e.level e.what) es → Outside es × Inside es
unfolding parts_from names_of names fields_below
parts_picked [] s = (nothing_left, nothing_left)
parts_picked (e ∷ es) s =
    let (a, b) = parts_picked es s.1 in
    (outside_more e.name e.level e.what es a b, inside_more e.name e.level e.what es s.0 a b)

-- ---- a field is found among fields whose names differ

all_left : (g : ℕ → Bool) (xs ys : List ℕ) → T (all g (xs ++ ys)) → T (all g xs)
unfolding all
all_left g [] ys a = tt
all_left g (x ∷ xs) ys a = and_intro (g x) _ (and_left (g x) (all g (xs ++ ys)) a) (all_left g xs ys (and_right (g x) (all g (xs ++ ys)) a))

all_right : (g : ℕ → Bool) (xs ys : List ℕ) → T (all g (xs ++ ys)) → T (all g ys)
unfolding all
all_right g [] ys a = a
all_right g (x ∷ xs) ys a = all_right g xs ys (and_right (g x) (all g (xs ++ ys)) a)

pub differ_left : (xs ys : List ℕ) → T (differ (xs ++ ys)) → T (differ xs)
unfolding differ
differ_left [] ys d = tt
differ_left (x ∷ xs) ys d = from_differ x (xs ++ ys) d λ v r. differ_more x xs (all_left _ xs ys v) (differ_left xs ys r)

pub differ_right : (xs ys : List ℕ) → T (differ (xs ++ ys)) → T (differ ys)
differ_right [] ys d = d
differ_right (x ∷ xs) ys d = from_differ x (xs ++ ys) d λ v r. differ_right xs ys r

pub member_none : (n : ℕ) (fs : List Field) → Avoids n (field_names fs) → member n fs ≡ none
unfolding member
member_none n [] a = refl
member_none n (f ∷ fs) a = from_avoids n f.name (field_names fs) a λ d b. rw (ne_eqb f.name n (λ q. d (sym q)), member) (member_none n fs b)

all_names : (g : ℕ → Bool) (fs : List Field) → T (all g (field_names fs)) → All (λ f. T (g f.name)) fs
unfolding all
all_names g [] a = tt
all_names g (f ∷ fs) a = (and_left (g f.name) (all g (field_names fs)) a, all_names g fs (and_right (g f.name) (all g (field_names fs)) a))

other_name : (a b : ℕ) → T (not (eqb a b)) → eqb b a ≡ false
other_name a b t = ne_eqb b a (λ q. T_not (eqb a b) t (rw q (eqb_refl a)))

members_found : (fs : List Field) → T (differ (field_names fs)) → All (λ f. member f.name fs ≡ some f) fs
unfolding member
members_found [] d = tt
members_found (g ∷ fs) d = from_differ g.name (field_names fs) d λ v r. (
  rw (eqb_same g.name, member),
  all_both (λ f. T (not (eqb f.name g.name))) (λ f. member f.name fs ≡ some f) _
      (λ f n h. rw (other_name f.name g.name n, member) h) fs (all_names (λ m. not (eqb m g.name)) fs v) (members_found fs r),
)

-- A name that is in the second list is not in the first.
pub apart : (xs ys : List ℕ) → T (differ (xs ++ ys)) → (k : ℕ) → T (not (all (λ m. not (eqb m k)) ys)) → Avoids k xs
unfolding all
apart [] ys d k t = tt
apart (x ∷ xs) ys d k t = from_differ x (xs ++ ys) d λ v r.
    avoids_more k x xs (λ q. T_not (all (λ m. not (eqb m k)) ys) t (rw q (all_right (λ m. not (eqb m x)) xs ys v))) (apart xs ys r k t)

there : (n : ℕ) (fs : List Field) (f : Field) (ns : List ℕ) → member n fs ≡ some f → T (not (all (λ m. not (eqb m n)) (field_names fs ++ ns)))
unfolding member all
there n [] f ns e = absurd (not_some e)
there n (g ∷ fs) f ns e = by_test (eqb g.name n)
    (λ t. rw t tt)
    (λ t. rw t (there n fs f ns (rw (t, member) at e)))

later : (xs ys : List ℕ) (k : ℕ) → T (not (all (λ m. not (eqb m k)) ys)) → T (not (all (λ m. not (eqb m k)) (xs ++ ys)))
unfolding all
later [] ys k t = t
later (x ∷ xs) ys k t = by_test (eqb x k) (λ e. rw e tt) (λ e. rw e (later xs ys k t))

pub home_there : (n : ℕ) (ps : List Part) (p : Part) (f : Field) → home n ps ≡ some (p, f) → T (not (all (λ m. not (eqb m n)) (names_of ps)))
unfolding home names_of
home_there n [] p f e = absurd (not_some e)
home_there n (q ∷ ps) p f e = by_option (member n q.members)
    (λ g t. there n q.members g (names_of ps) t)
    (λ t. later (field_names q.members) (names_of ps) n (home_there n ps p f (rw (t, home) at e)))

homes_found : (ps : List Part) → T (differ (names_of ps)) → All (λ p. All (λ f. home f.name ps ≡ some (p, f)) p.members) ps
unfolding names_of home
homes_found [] d = tt
homes_found (q ∷ ps) d = (
  all_map (λ f. member f.name q.members ≡ some f) _ (λ f e. rw (e, home)) q.members
      (members_found q.members (differ_left (field_names q.members) (names_of ps) d)),
  all_map (λ p. All (λ f. home f.name ps ≡ some (p, f)) p.members) _
      (λ p h. all_map (λ f. home f.name ps ≡ some (p, f)) _
      (λ f e. rw (member_none f.name q.members (apart (field_names q.members) (names_of ps) d f.name (home_there f.name ps p f e)), home) e)
      p.members h) ps
      (homes_found ps (differ_right (field_names q.members) (names_of ps) d)),
)

pub parts_found : (es : List Entry) → All (λ e. Sound e.level e.what) es → T (differ (names es))
    → All (λ p. All (λ f. home f.name (parts es) ≡ some (p, f)) p.members) (parts es)
unfolding parts
parts_found es s d = homes_found (parts_from false es) (picked_differ (parts_picked es s).0 d)

-- What holds of all fields of all parts holds of one that is found by its name.
member_all : (Q : Field → Type 0) (n : ℕ) (fs : List Field) (f : Field) → member n fs ≡ some f → All Q fs → Q f
unfolding member
member_all Q n [] f e a = absurd (not_some e)
member_all Q n (g ∷ fs) f e a = by_test (eqb g.name n)
    (λ t. let q : g ≡ f = some_inj (rw (t, member) at e) in subst Q q a.0)
    (λ t. member_all Q n fs f (rw (t, member) at e) a.1)

pub home_all : (Q : Field → Type 0) (n : ℕ) (ps : List Part) (p : Part) (f : Field) → home n ps ≡ some (p, f) → All (λ p. All Q p.members) ps → Q f
unfolding home
home_all Q n [] p f e a = absurd (not_some e)
home_all Q n (q ∷ ps) p f e a = by_option (member n q.members)
    (λ g t. from_some_pair (rw (t, home) at e) λ x y. member_all Q n q.members f (rw y at t) a.0)
    (λ t. home_all Q n ps p f (rw (t, home) at e) a.1)

-- ---- the names of parts

abbrev pub part_names : List Part → List ℕ
part_names ps = map (λ p. p.name) ps

parted : (inside : Bool) (k : ℕ) (w : What) (es : List Entry) (ps : List Part) (ns : List ℕ) → Picked (part_names ps) ns → Picked (part_names (part_of inside k w es ps)) (k ∷ ns)
unfolding part_of alone
parted inside k (group true) es ps ns a = taken a
parted inside k (group false) es ps ns a = left_out a
parted true k (field f s m) es ps ns a = left_out a
parted false k (field f s m) es ps ns a = taken a

pub parts_parted : (before : Bool) (es : List Entry) → Picked (part_names (parts_from before es)) (names es)
unfolding parts_from names
parts_parted before [] = nothing_left
parts_parted before (e ∷ es) = parted (is_inside before e) e.name e.what es (parts_from (is_inside before e) es) (names es) (parts_parted (is_inside before e) es)
