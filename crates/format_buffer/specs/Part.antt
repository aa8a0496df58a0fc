-- Bytes of a slice by their places.
use Rattle.std.specs.Prelude.{ℕ, ◌-◌, take, drop}
use Rattle.rules.specs.Lists.{Bytes}

-- The bytes from one place up to another.
unfoldable pub part : Bytes → ℕ → ℕ → Bytes
part f from upto = take (upto - from) (drop from f)
