-- The format and the length in effect.
use Rattle.std.specs.Prelude.{◌≡◌, ℕ, None, Some, Option as Optional}
use Rattle.std.proofs.Math.Option.{Option}
use Rattle.rules.specs.Outcome.{Outcome, done, refused}
use Rattle.rules.specs.Numbers.{refusal}
use Rattle.rules.specs.declared.Refusal.TheVariants.{UseRule}
use Rattle.rules.specs.Table.{Field}
use Rattle.rules.specs.Use.{Asked, format_in_effect, length_in_effect, asked}
use Rattle.value_formats.specs.Formats.{format_at, format_given}
use Rattle.value_formats.specs.declared.Format.{Format}
use Rattle.format_buffer.specs.Elements.{if_given}
use Rattle.format_buffer.specs.declared.Named.{Named}

-- The length and the letter that an element gives.
abbrev pub length_given : Named → Option ℕ
length_given n = if_given n.length

abbrev pub letter_given : Named → Option ℕ
letter_given n = if_given n.letter

-- The format in effect for any field of a format; there is none where the letter is no format's.
abbrev pub FormatInEffect : Format → Named → Optional Format → Type 0
FormatInEffect g x r = (f : Field) → f.format ≡ format_at g → format_in_effect f (letter_given x) ≡ format_given r

abbrev pub LengthInEffect : ℕ → Named → ℕ → Type 0
LengthInEffect s x k = (f : Field) → f.size ≡ s → length_in_effect f (length_given x) ≡ k

-- A field at the format and the length in effect.
abbrev pub asked_at : Field → Optional (Format × ℕ) → Outcome Asked
asked_at f (Some (g, n)) = done (record { field = f; format = format_at g; size = n })
asked_at f None = refused (refusal UseRule)

-- The same, of any field of a format and a standard length.
abbrev pub Asks : Format → ℕ → Named → Optional (Format × ℕ) → Type 0
Asks g n x r = (f : Field) → f.format ≡ format_at g → f.size ≡ n → asked_at f r ≡ asked f (length_given x) (letter_given x)
