-- What a byte of P or U must be, before the last and as the last, and so whether bytes are a value.
use Rattle.std.specs.Prelude.{Bool, true, false, ◌&&◌, ◌||◌, [], ◌∷◌, ℕ, ◌/◌, ◌%◌, eqb, leb}
use Rattle.rules.specs.Lists.{Bytes}
use Rattle.rules.specs.Values.{accepted_plus, accepted_minus}

-- An accepted sign.
unfoldable pub is_sign : ℕ → Bool
is_sign s = accepted_plus s || accepted_minus s

-- What a byte before the last must be, and the last.
unfoldable pub inner_byte : Bool → ℕ → Bool
inner_byte true b = leb (b / 16) 9 && leb (b % 16) 9
inner_byte false b = eqb (b / 16) 0xF && leb (b % 16) 9

unfoldable pub last_byte : Bool → ℕ → Bool
last_byte true b = leb (b / 16) 9 && is_sign (b % 16)
last_byte false b = leb (b % 16) 9 && is_sign (b / 16)

-- Whether bytes are a value, byte after byte.
unfoldable pub value_bytes : Bool → Bytes → Bool
value_bytes p [] = false
value_bytes p (b ∷ []) = last_byte p b
value_bytes p (b ∷ c ∷ bs) = inner_byte p b && value_bytes p (c ∷ bs)
