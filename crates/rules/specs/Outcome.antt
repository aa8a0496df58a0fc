-- What a step of a service answers: what was asked for, or a refusal by a number of document 01, "Numbers returned".
-- Steps are joined by `do`, so that the first refusal stands: the order of the lines is the order of the numbers.
use Rattle.std.specs.Prelude.{Bool, true, false, ℕ, eqb}

-- A refusal has a number, and document 02, M-103, gives it a length: how long a value is that a length does not hold.
pub record Refusal : Type 0 where
  pub number : ℕ
  pub length : ℕ

-- "All other answers carry 0 there."
abbrev pub by : ℕ → Refusal
by n = record { number = n; length = 0 }

pub data Outcome (A : Type 0) : Type 0 where
  done : A → Outcome A
  refused : Refusal → Outcome A

infixl 10 ◌>>=◌
abbrev pub ◌>>=◌ : {A B : Type 0} → Outcome A → (A → Outcome B) → Outcome B
done a >>= f = f a
refused n >>= f = refused n

-- Go on only where the test passes; else the number n.
abbrev pub need : Bool → ℕ → Outcome (Unit {0})
need true n = done tt
need false n = refused (by n)

-- Any refusal becomes the number n.
abbrev pub refused_as : {A : Type 0} → ℕ → Outcome A → Outcome A
refused_as n (done a) = done a
refused_as n (refused m) = refused (by n)

-- Document 02, M-103: "With 9, a read shall also return" a length.
abbrev pub with_needed : ℕ → Refusal → Refusal
with_needed n x = elim (eqb x.number 9) [ true ↦ record { number = 9; length = n } | false ↦ x ]

-- The same of an outcome.
abbrev pub needing : {A : Type 0} → ℕ → Outcome A → Outcome A
needing n (done a) = done a
needing n (refused x) = refused (with_needed n x)

-- Whether it was done.
abbrev pub is_done : {A : Type 0} → Outcome A → Bool
is_done (done a) = true
is_done (refused n) = false
