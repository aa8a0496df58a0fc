-- A stored count: whether one stands at a place, and what it says.
use Rattle.std.specs.Prelude.{Bool, ◌&&◌, ℕ, leb, ltb, length, get_or}
use Rattle.rules.specs.Limits.{greatest_count}
use Rattle.rules.specs.Lists.{Bytes}

-- What the count at a place says; 0 where no byte stands there.
abbrev pub count_at : Bytes → ℕ → ℕ
count_at b at = get_or b at 0

-- A count and a standard length are one byte.
abbrev pub greatest_byte : ℕ
greatest_byte = 255

-- Whether a count stands at a place, and is not over its limit.
unfoldable pub has_count : Bytes → ℕ → Bool
has_count b at = ltb at (length b) && leb (count_at b at) greatest_count
