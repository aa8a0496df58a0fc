-- What the code's numbers mean, as values of `rules`.
use Rattle.std.specs.Prelude.{Bool, true, false, [], leb, None, Option, Some}
use Rattle.rules.specs.Outcome.{Outcome, done, refused}
use Rattle.rules.specs.Limits.{lowest_word}
use Rattle.rules.specs.Values.{Value, text, number}
use Rattle.fixed.specs.declared.Signed.{Signed}

abbrev pub signed_value : Signed → Value
signed_value v = number v.negative v.magnitude

abbrev pub pick : Bool → Option Signed → Option Signed → Option Signed
pick true a b = a
pick false a b = b

-- The word that a value is: a number whose magnitude is at most lowest_word, or outside.
unfoldable pub word_of : Value → Option Signed
word_of (text t) = None
word_of (number below n) = pick (leb n lowest_word) (Some (record { negative = below; magnitude = n })) None

-- The value of an outcome; that of a refusal is of no use.
unfoldable pub value_of : Outcome Value → Value
value_of (done v) = v
value_of (refused n) = text []
