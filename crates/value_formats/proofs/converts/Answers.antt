-- `value_formats::converts` meets its contract: every kind but Never says that some convert.
use mathlib.Core.Bool.{not}
use mathlib.Core.Path.{◌≡◌, ◌∙◌, sym}
use denote.Enum.Bare.{sameb}
use Rattle.rules.specs.Values.{Format, conversion, converts}
use Rattle.value_formats.specs.contracts.Kind.{the_type}
use Rattle.value_formats.specs.Formats.{kind_of}
use Rattle.value_formats.specs.declared.Kind.{Kind}
use Rattle.value_formats.specs.declared.Kind.TheVariants.{Never, Every, Word, Natural}
use Rattle.value_formats.proofs.converts.Goals as goal

some_convert : (f g : Format) (k : Kind) → kind_of k ≡ conversion f g → not (sameb the_type k Never) ≡ converts f g
unfolding converts
some_convert f g Never e = rw (sym e, converts)
some_convert f g Every e = rw (sym e, converts)
some_convert f g Word e = rw (sym e, converts)
some_convert f g Natural e = rw (sym e, converts)

pub returns : goal.returns
returns c = c.ne.ensures ∙ some_convert _ _ _ c.conversion.ensures
