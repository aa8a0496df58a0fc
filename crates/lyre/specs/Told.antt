-- Where an element stops that was told: at its comma or period.
use Rattle.std.specs.Prelude.{ℕ, ◌≤◌, ◌<◌, length, Err, Ok, Result}
use Rattle.rules.specs.declared.Refusal.{Refusal}
use Rattle.uses.specs.declared.scopes.Scopes.{Scopes}
use Rattle.uses.specs.declared.Use.{Use}
use Rattle.rules.specs.Lists.{Bytes}

abbrev pub stops_within : Bytes → ℕ → Result (Use × Scopes × ℕ) Refusal → Type 0
stops_within f at (Ok (u, s, stop)) = (at ≤ stop) × (stop < length f)
stops_within f at (Err x) = Unit {0}
