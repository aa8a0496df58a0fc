-- What the code's formats and its kinds of conversion mean.
use Rattle.std.specs.Prelude.{None, Some, Option as Optional}
use Rattle.std.proofs.Math.Option.{Option, none, some}
use Rattle.rules.specs.Values.{alpha, binary, fixed, packed, unpacked, never, every, word, natural}
use Rattle.rules.specs.Values as Rules
use Rattle.value_formats.specs.declared.Format.{Format}
use Rattle.value_formats.specs.declared.Format.TheVariants.{Alpha, Binary, Fixed, Packed, Unpacked}
use Rattle.value_formats.specs.declared.Kind.{Kind}
use Rattle.value_formats.specs.declared.Kind.TheVariants.{Never, Every, Word, Natural}

-- "A .. B .. F .. P .. U"
unfoldable pub format_at : Format → Rules.Format
format_at Alpha = alpha
format_at Binary = binary
format_at Fixed = fixed
format_at Packed = packed
format_at Unpacked = unpacked

-- A format, if there is one.
abbrev pub format_given : Optional Format → Option Rules.Format
format_given (Some f) = some (format_at f)
format_given None = none

abbrev pub kind_of : Kind → Rules.Kind
kind_of Never = never
kind_of Every = every
kind_of Word = word
kind_of Natural = natural
