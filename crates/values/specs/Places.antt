-- Where a value lies in a run of bytes: the code's answer, as the outcome of `first_value`.
use Rattle.std.specs.Prelude.{◌≡◌, ℕ, ◌-◌, ◌≤◌, length, take, drop, Err, Ok, Result}
use Rattle.rules.specs.declared.Refusal.{Refusal}
use Rattle.rules.specs.Outcome.{Outcome, done, refused}
use Rattle.rules.specs.Lists.{Bytes}
use Rattle.rules.specs.Numbers.{refusal}

-- The content and what stands after the value, or a refusal.
abbrev pub found : Bytes → Result (ℕ × ℕ) Refusal → Outcome (Bytes × Bytes)
found s (Ok (from, next)) = done (take (next - from) (drop from s), drop next s)
found s (Err x) = refused (refusal x)

abbrev pub inside : Bytes → ℕ → Result (ℕ × ℕ) Refusal → Type 0
inside s at (Ok (from, next)) = (at ≤ from) × (from ≤ next) × (next ≤ length s)
inside s at (Err x) = Unit {0}

pub record Located (s : Bytes) (at : ℕ) (o : Outcome (Bytes × Bytes)) (r : Result (ℕ × ℕ) Refusal) : Type 0 where
  pub answer : found s r ≡ o
  pub place : inside s at r
