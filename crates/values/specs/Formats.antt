-- The formats are those of `value_formats`; here are the ranges that the code's conversions ask for.
use Rattle.std.specs.Prelude.{Bool, true, false}
use Rattle.rules.specs.Values.{word, natural}
use Rattle.rules.specs.Values as Rules
unfoldable pub use Rattle.value_formats.specs.Formats.{format_at}
pub use Rattle.value_formats.specs.Formats.{kind_of}

-- The conversion ranges: of words not below zero, and of words.
abbrev pub range_kind : Bool → Rules.Kind
range_kind true = natural
range_kind false = word
