-- The occurrences and the values that the code's indexes mean, in the words of `rules`.
use Rattle.std.specs.Prelude.{◌≡◌, Bool, true, ◌&&◌, ℕ, None, Some, Option as Optional}
use Rattle.uses.specs.declared.spread.Ranges.{Ranges}
use Rattle.std.proofs.Math.Option.{Option, none, some}
use Rattle.rules.specs.Outcome.{Outcome, done, refused, ◌>>=◌, need}
use Rattle.rules.specs.Numbers.{refusal, refusal_number}
use Rattle.rules.specs.declared.Refusal.TheVariants.{UseRule}
use Rattle.rules.specs.Format.{Range}
use Rattle.rules.specs.Use.{Spread, in_order, spread}
use Rattle.format_buffer.specs.Elements.{range}
use Rattle.format_buffer.specs.declared.Indexing.{Indexing}
use Rattle.format_buffer.specs.declared.Named.{Named}

-- An index that is kept along a format is below this.
abbrev pub index_bound : ℕ
index_bound = 65536

-- What may stand after a name.
abbrev pub range_given : Optional Indexing → Option Range
range_given (Some x) = some (range x.from x.upto)
range_given None = none

abbrev pub occurrences : Named → Option Range
occurrences n = range_given n.occurrences

abbrev pub bracket : Named → Option Range
bracket n = range_given n.values

-- The occurrences and the values that an element means.
abbrev pub spread_of : Optional Ranges → Outcome Spread
spread_of (Some r) = done (record { occurrences = range r.from r.upto; values = range r.value_from r.value_upto; bare = r.bare })
spread_of None = refused (refusal UseRule)

-- In a periodic group, whatever the last index of a field is.
abbrev pub SpreadInside : Bool → Named → Optional Ranges → Type 0
SpreadInside mu n r = (last : ℕ) → spread_of r ≡ spread true mu last (occurrences n) (bracket n)

-- Some occurrences and values, where both ranges are in order.
unfoldable pub ranged : Range → Range → Bool → Outcome Spread
ranged os vs bare = do
  _ ← need (in_order os && in_order vs) (refusal_number UseRule)
  done (record { occurrences = os; values = vs; bare = bare })
