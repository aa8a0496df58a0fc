-- Formats P and U in one: the digits and the sign that bytes have, and the bytes that digits and a sign make.
-- A Bool selects the format: true is P (packed), false is U (unpacked).
use Rattle.std.specs.Prelude.{Bool, true, false, ◌&&◌, List, [], ◌∷◌, ◌++◌, map, ◌≡◌, ℕ, ◌+◌, ◌-◌, ◌*◌, ◌/◌, ◌%◌, ◌≤◌, ◌<◌, leb, ltb, length}
use Rattle.rules.specs.Limits.{longest_alpha}
use Rattle.rules.specs.Lists.{Bytes, all, spelled, digits, but_last, last}
use Rattle.rules.specs.Values.{Format, packed, unpacked, halves, pairs, zoned, accepted_minus, sign_written}

unfoldable pub decimal_format : Bool → Format
decimal_format true = packed
decimal_format false = unpacked

-- The digits, most significant first.
unfoldable pub digits_of : Bool → Bytes → List ℕ
digits_of true bs = but_last (halves bs)
digits_of false bs = map (λ b. b % 16) bs

unfoldable pub sign_half : Bool → Bytes → ℕ
sign_half true bs = last (halves bs)
sign_half false bs = last bs / 16

unfoldable pub magnitude_of : Bool → Bytes → ℕ
magnitude_of p bs = spelled 10 (digits_of p bs) 0

-- Below zero: a minus sign, but "zero with D means zero".
unfoldable pub is_negative : Bool → Bytes → Bool
is_negative p bs = accepted_minus (sign_half p bs) && ltb 0 (magnitude_of p bs)

-- Whether every digit is one: at most 9.
unfoldable pub all_digits : Bool → Bytes → Bool
all_digits p bs = all (λ d. leb d 9) (digits_of p bs)

-- Bytes whose digits can be read, few enough for their digits to be counted.
pub record Readable (p : Bool) (bs : Bytes) : Type 0 where
  pub some : 0 < length bs
  pub short : length bs ≤ longest_alpha
  pub nines : all_digits p bs ≡ true

-- How many digits n bytes hold.
unfoldable pub places : Bool → ℕ → ℕ
places true n = 2 * n - 1
places false n = n

-- The bytes that digits and a sign make.
unfoldable pub encoded : Bool → List ℕ → ℕ → Bytes
encoded true ds s = pairs (ds ++ (s ∷ []))
encoded false ds s = zoned ds s

-- The n bytes of a number in normal form.
unfoldable pub written : Bool → ℕ → Bool → ℕ → Bytes
written p n below x = encoded p (digits 10 (places p n) x) (sign_written below)

-- A byte before the last has two digits in P and one in U; `front` is m such bytes, with the last digits of a number.
unfoldable pub byte_base : Bool → ℕ
byte_base true = 100
byte_base false = 10

unfoldable pub inner_written : Bool → ℕ → ℕ
inner_written true d = d / 10 * 16 + d % 10
inner_written false d = 0xF0 + d

unfoldable pub front : Bool → ℕ → ℕ → Bytes
front p m x = map (inner_written p) (digits (byte_base p) m x)

-- The last byte has a digit and the sign.
unfoldable pub last_written : Bool → ℕ → ℕ → ℕ
last_written true d s = d * 16 + s
last_written false d s = s * 16 + d
