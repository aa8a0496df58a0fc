-- Which bytes are in normal form whatever they are.
use Rattle.std.specs.Prelude.{◌≡◌, Bool, true, false, ℕ, ◌<◌, ltb, length, get_or}
use Rattle.rules.specs.Lists.{Bytes}
use Rattle.rules.specs.Values.{Format, alpha, binary, fixed, packed, unpacked, in_normal_form}

-- A length is not 0, and all bytes of that length are in normal form.
abbrev pub AnyNormal : Format → ℕ → Type 0
AnyNormal f n = (0 < n) × ((bs : Bytes) → ((i : ℕ) → get_or bs i 0 < 256) → length bs ≡ n → in_normal_form f n bs ≡ true)

-- Where that is so: A, B and F at a length of their own.
abbrev pub any_normal : Format → ℕ → Bool
any_normal alpha n = ltb 0 n
any_normal binary n = ltb 0 n
any_normal fixed n = ltb 0 n
any_normal packed n = false
any_normal unpacked n = false
