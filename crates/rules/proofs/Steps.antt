-- Taking a `do` block apart, and tests.
use mathlib.Core.Path.{◌≡◌, refl, ap}
use mathlib.Core.Bool.{Bool, true, false, ◌&&◌}
use mathlib.Core.List.{List, [], ◌∷◌}
use mathlib.Core.Option.{Option, none, some}
use Prim.Native.Nat.{ℕ}
use native.Mathlib.Omega.{arith}
use lib.Dec.{T, eqb, eqb→eq, eqb_refl}
use Rattle.rules.specs.Outcome.{Refusal, Outcome, done, refused, by, ◌>>=◌, need, refused_as, is_done}
use Rattle.rules.specs.Lists.{same, nothing}

pub done_inj : {A : Type 0} {a b : A} → done a ≡ done b → a ≡ b
done_inj p = cc

pub refused_inj : {A : Type 0} {m n : Refusal} → ◌≡◌ {A = Outcome A} (refused m) (refused n) → m ≡ n
refused_inj p = cc

pub not_done : {A : Type 0} {a : A} {n : Refusal} → ◌≡◌ {A = Outcome A} (refused n) (done a) → ⊥
not_done p = let z : ◌≡◌ {A = ℕ} 0 1 = cc in omega arith

pub and_left : (a b : Bool) → T (a && b) → T a
and_left true b t = tt
and_left false b t = t

pub and_right : (a b : Bool) → T (a && b) → T b
and_right true b t = t
and_right false b t = absurd t

pub same_eq : (xs ys : List ℕ) → T (same xs ys) → xs ≡ ys
unfolding same
same_eq [] [] t = refl
same_eq [] (y ∷ ys) t = absurd t
same_eq (x ∷ xs) [] t = absurd t
same_eq (x ∷ xs) (y ∷ ys) t =
    let p : x ≡ y = eqb→eq x y (and_left (eqb x y) (same xs ys) t) in
    let q : xs ≡ ys = same_eq xs ys (and_right (eqb x y) (same xs ys) t) in
    cc

-- the same with the parts bound by a λ: what a `let` binds is seen through, and `rw` then meets the proof inside it
pub from_bind : {A B C : Type 0} (m : Outcome A) (f : A → Outcome B) {b : B} → (m >>= f) ≡ done b → ((a : A) → m ≡ done a → f a ≡ done b → C) → C
from_bind (done a) f p k = k a refl p
from_bind (refused n) f p k = absurd (not_done p)

-- an answer of a reader, in its two parts
pub from_done : {A B C : Type 0} {a a' : A} {b b' : B} → ◌≡◌ {A = Outcome (A × B)} (done (a, b)) (done (a', b')) → (a ≡ a' → b ≡ b' → C) → C
from_done p k = let q = done_inj p in k (ap (λ r. r.0) q) (ap (λ r. r.1) q)

pub from_need : {B C : Type 0} (t : Bool) (n : ℕ) (f : Unit {0} → Outcome B) {b : B} → (need t n >>= f) ≡ done b → (T t → f tt ≡ done b → C) → C
from_need true n f p k = k tt p
from_need false n f p k = absurd (not_done p)

pub from_as : {A B C : Type 0} (n : ℕ) (m : Outcome A) (f : A → Outcome B) {b : B} → (refused_as n m >>= f) ≡ done b → ((a : A) → m ≡ done a → f a ≡ done b → C) → C
from_as n (done a) f p k = k a refl p
from_as n (refused j) f p k = absurd (not_done p)

pub nothing_eq : (bs : List ℕ) → T (nothing bs) → bs ≡ []
unfolding nothing
nothing_eq [] t = refl
nothing_eq (b ∷ bs) t = absurd t

-- by cases of a test, of an option
pub by_test : {C : Type 0} (b : Bool) → (b ≡ true → C) → (b ≡ false → C) → C
by_test true y n = y refl
by_test false y n = n refl

pub by_outcome : {A C : Type 0} (o : Outcome A) → ((a : A) → o ≡ done a → C) → ((n : Refusal) → o ≡ refused n → C) → C
by_outcome (done a) y n = y a refl
by_outcome (refused k) y n = n k refl

pub by_option : {A C : Type 0} (o : Option A) → ((a : A) → o ≡ some a → C) → (o ≡ none → C) → C
by_option none y n = n refl
by_option (some a) y n = y a refl

pub not_some : {A : Type 0} {a : A} → ◌≡◌ {A = Option A} none (some a) → ⊥
not_some p = let z : ◌≡◌ {A = ℕ} 0 1 = cc in omega arith

pub some_inj : {A : Type 0} {a b : A} → some a ≡ some b → a ≡ b
some_inj p = cc

pub from_some_pair : {A B C : Type 0} {a a' : A} {b b' : B} → ◌≡◌ {A = Option (A × B)} (some (a, b)) (some (a', b')) → (a ≡ a' → b ≡ b' → C) → C
from_some_pair p k = let q = some_inj p in k (ap (λ r. r.0) q) (ap (λ r. r.1) q)

pub not_both : ◌≡◌ {A = Bool} false true → ⊥
not_both p = let z : ◌≡◌ {A = ℕ} 0 1 = cc in omega arith

-- the value of an outcome that is done
pub from_is_done : {A C : Type 0} (o : Outcome A) → is_done o ≡ true → ((a : A) → o ≡ done a → C) → C
from_is_done (done a) e k = k a refl
from_is_done (refused n) e k = absurd (not_both e)

pub true_T : {b : Bool} → b ≡ true → T b
true_T e = rw e tt

pub T_true : (b : Bool) → T b → b ≡ true
T_true true t = refl
T_true false t = absurd t

pub eqb_same : (n : ℕ) → eqb n n ≡ true
eqb_same n = T_true (eqb n n) (eqb_refl n)

pub need_true : (t : Bool) (n : ℕ) → T t → need t n ≡ done tt
need_true true n h = refl
need_true false n h = absurd h

-- A test before a refusal of the same number.
pub still_refused : {A : Type 0} (t : Bool) (n : ℕ) → ◌≡◌ {A = Outcome A} (need t n >>= λ _. refused (by n)) (refused (by n))
still_refused true n = refl
still_refused false n = refl

pub same_same : (xs : List ℕ) → same xs xs ≡ true
unfolding same
same_same [] = refl
same_same (x ∷ xs) = rw (eqb_same x) (same_same xs)

pub and_intro : (a b : Bool) → T a → T b → T (a && b)
and_intro true b s t = t
and_intro false b s t = s
