-- What is asked of the functions that convert a value to another format and length.
use Rattle.std.specs.Prelude.{◌≡◌, true, ℕ, zero, suc, ◌+◌, ◌≤◌, length}
use Rattle.rules.specs.Outcome.{is_done}
use Rattle.value_formats.specs.declared.Format.{Format}
use Rattle.rules.specs.Lists.{Bytes, bytes_of}
use Rattle.rules.specs.Values.{allowed, strip, meaning, converts, converted_bytes}
use Rattle.values.specs.Formats.{format_at}

-- The length of a value that is converted to length n.
unfoldable pub converted_length : ℕ → Bytes → ℕ
converted_length zero s = suc (length (strip s))
converted_length (suc n) s = suc n

-- s is a value of a format, to be converted to another at length n.
pub record Convertible (from to : Format) (n : ℕ) (s : Bytes) : Type 0 where
  pub size : allowed (format_at from) (length s) ≡ true
  pub length_there : allowed (format_at to) n ≡ true
  pub value : is_done (meaning (format_at from) s) ≡ true

-- s is a value of a format that converts to another, at some length.
abbrev pub Converts : Format → Format → Bytes → Type 0
Converts from to s = ((n : ℕ) × Convertible from to n s) × (converts (format_at from) (format_at to) ≡ true)

-- It is converted, and there is room for it at a place.
pub record Converting (from to : Format) (n : ℕ) (s : Bytes) (at room : ℕ) : Type 0 where
  pub asked : Convertible from to n s
  pub fits : is_done (converted_bytes (format_at from) (format_at to) n s) ≡ true
  pub enough : at + length (bytes_of (converted_bytes (format_at from) (format_at to) n s)) ≤ room
