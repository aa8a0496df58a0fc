-- The digits that are still to be written, as they are read from the right.
use Rattle.std.specs.Prelude.{Bool, ℕ, take}
use Rattle.rules.specs.Lists.{Bytes, spelled}
use Rattle.decimals.specs.Decimals.{digits_of}

-- The number that the first j digits spell.
unfoldable pub first_spelled : Bool → Bytes → ℕ → ℕ
first_spelled p bs j = spelled 10 (take j (digits_of p bs)) 0
