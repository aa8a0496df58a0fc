-- Outcomes that are refused only with numbers of one kind, if at all: a `do` block keeps to the kind that its steps keep to.
use mathlib.Core.Path.{◌≡◌, sym, ap}
use mathlib.Core.Bool.{Bool, true, false}
use mathlib.Core.Option.{Option, none, some}
use Prim.Native.Nat.{ℕ}
use Rattle.rules.specs.Outcome.{Refusal, Outcome, done, refused, by, ◌>>=◌, need, refused_as, is_done}
use Rattle.rules.proofs.Steps.{not_both}

abbrev pub Only : {A : Type 0} → (Refusal → Type 0) → Outcome A → Type 0
Only P (done a) = Unit {0}
Only P (refused n) = P n

-- One number, with no length.
abbrev pub Is : ℕ → Refusal → Type 0
Is k n = n ≡ by k

module _ (P : Refusal → Type 0) where
  pub only_bind : {A B : Type 0} (m : Outcome A) (g : A → Outcome B) → Only P m → ((a : A) → Only P (g a)) → Only P (m >>= g)
  only_bind (done a) g h k = k a
  only_bind (refused n) g h k = h

  pub only_need : {B : Type 0} (t : Bool) {n : ℕ} → P (by n) → (g : Unit {0} → Outcome B) → Only P (g tt) → Only P (need t n >>= g)
  only_need true p g k = k
  only_need false p g k = p

  pub only_as : {A : Type 0} {n : ℕ} → P (by n) → (m : Outcome A) → Only P (refused_as n m)
  only_as p (done a) = tt
  only_as p (refused k) = p

  -- By cases of a test, of an option.
  pub only_pick : {B : Type 0} (t : Bool) (x y : Outcome B) → Only P x → Only P y → Only {A = B} P (elim t [ true ↦ x | false ↦ y ])
  only_pick true x y k l = k
  only_pick false x y k l = l

  pub only_option : {A B : Type 0} (o : Option A) (x : Outcome B) (g : A → Outcome B) → Only P x → ((a : A) → Only P (g a))
      → Only {A = B} P (elim o [ none ↦ x | some a ↦ g a ])
  only_option none x g k l = k
  only_option (some a) x g k l = l a

-- What is not done was refused with its one number.
pub refused_by : {A : Type 0} (k : ℕ) (o : Outcome A) → Only (Is k) o → is_done o ≡ false → o ≡ refused (by k)
refused_by k (done a) only h = absurd (not_both (sym h))
refused_by k (refused n) only h = ap refused only
