-- Entries by their numbers: the first with a name, by induction over the entries before it.
use mathlib.Core.Path.{◌≡◌}
use mathlib.Core.Bool.{Bool, true, false, not}
use mathlib.Core.List.{List, [], ◌∷◌}
use Prim.Native.Nat.{ℕ, zero, suc, ◌<◌}
use native.Mathlib.Nat.{not-suc-le-zero, le_of_suc-le-suc}
use native.Mathlib.Omega.{arith}
use borrow.Author.Tests.{ne_eqb}
use lib.Dec.{T, eqb, eqb_refl}
use lib.ListN.{length, get_or}
use Rattle.rules.specs.Lists.{all}
use Rattle.rules.specs.Table.{Entry, names, differ}
use Rattle.rules.proofs.Steps.{and_left, and_right, eqb_same}
use Rattle.records.specs.Where.{First}

pub never : {b : Bool} → b ≡ false → b ≡ true → ⊥
never p q = let z : ◌≡◌ {A = ℕ} 0 1 = cc in omega arith

pub first_within : (n : ℕ) (es : List Entry) (j : ℕ) → First n es j → j < length es
first_within n [] j f = absurd f
first_within n (e ∷ es) zero f = omega arith
first_within n (e ∷ es) (suc j) f = let l = first_within n es j f.1 in omega arith

pub first_name : (n : ℕ) (es : List Entry) (d : Entry) (j : ℕ) → First n es j → eqb (get_or es j d).name n ≡ true
first_name n [] d j f = absurd f
first_name n (e ∷ es) d zero f = f
first_name n (e ∷ es) d (suc j) f = first_name n es d j f.1

-- Where names differ, each entry is the first with its name.
other : (n : ℕ) (es : List Entry) (d : Entry) (j : ℕ) → j < length es → T (all (λ m. not (eqb m n)) (names es)) → eqb n (get_or es j d).name ≡ false
unfolding all names
other n [] d j l t = absurd (not-suc-le-zero l)
other n (e ∷ es) d zero l t = ne_eqb n e.name (λ q. apart (eqb e.name n) (rw q (eqb_refl e.name)) (and_left (not (eqb e.name n)) (all (λ m. not (eqb m n)) (names es)) t))
  where
    apart : (b : Bool) → T b → T (not b) → ⊥
    apart true s t = t
    apart false s t = s
other n (e ∷ es) d (suc j) l t = other n es d j (le_of_suc-le-suc l) (and_right (not (eqb e.name n)) (all (λ m. not (eqb m n)) (names es)) t)

pub differ_first : (es : List Entry) (d : Entry) (j : ℕ) → j < length es → T (differ (names es)) → First (get_or es j d).name es j
unfolding differ names
differ_first [] d j l t = absurd (not-suc-le-zero l)
differ_first (e ∷ es) d zero l t = eqb_same e.name
differ_first (e ∷ es) d (suc j) l t = (
  other e.name es d j (le_of_suc-le-suc l) (and_left (all (λ m. not (eqb m e.name)) (names es)) (differ (names es)) t),
  differ_first es d j (le_of_suc-le-suc l) (and_right (all (λ m. not (eqb m e.name)) (names es)) (differ (names es)) t),
)
