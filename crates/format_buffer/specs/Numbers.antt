-- Numbers in a format: what the code answers of them.
use Rattle.std.specs.Prelude.{◌≡◌, Bool, false, ◌&&◌, [], ◌∷◌, ℕ, ◌≤◌, ◌<◌, eqb, None, Option, Some}
use Rattle.format_buffer.specs.declared.Indexing.{Indexing}
use Rattle.rules.specs.Outcome.{Outcome, done, refused, by}
use Rattle.rules.specs.Lists.{Bytes, nothing}
use Rattle.rules.specs.Format as rules
use Rattle.format_buffer.specs.Part.{part}
use Rattle.format_buffer.specs.Elements.{number_bound, indexing_of, SmallIndexing}

-- A number and the bytes after it, up to a place.
abbrev pub number_and_rest : Bytes → ℕ → Option (ℕ × ℕ) → Outcome (ℕ × Bytes)
number_and_rest f upto (Some (n, p)) = done (n, part f p upto)
number_and_rest f upto None = refused (by 3)

-- Where the bytes after it begin, and how large a number is.
abbrev pub number_place : ℕ → ℕ → Option (ℕ × ℕ) → Type 0
number_place at upto (Some (n, p)) = (at ≤ p) × (p ≤ upto) × (n < number_bound)
number_place at upto None = Unit {0}

-- A number was read between two places, as o says.
pub record Numbered (f : Bytes) (at upto : ℕ) (o : Outcome (ℕ × Bytes)) (r : Option (ℕ × ℕ)) : Type 0 where
  pub answer : o ≡ number_and_rest f upto r
  pub place : number_place at upto r

-- Indexes and the bytes after them, up to a place; where those begin, and how large the numbers are.
abbrev pub indexes_and_rest : Bytes → ℕ → Option (Indexing × ℕ) → Outcome (rules.Indexing × Bytes)
indexes_and_rest f upto (Some (x, p)) = done (indexing_of x, part f p upto)
indexes_and_rest f upto None = refused (by 3)

abbrev pub indexes_place : ℕ → ℕ → Option (Indexing × ℕ) → Type 0
indexes_place at upto (Some (x, p)) = (at ≤ p) × (p ≤ upto) × SmallIndexing x
indexes_place at upto None = Unit {0}

-- Indexes were read between two places, as o says.
pub record ReadsIndexes (f : Bytes) (at upto : ℕ) (o : Outcome (rules.Indexing × Bytes)) (r : Option (Indexing × ℕ)) : Type 0 where
  pub answer : o ≡ indexes_and_rest f upto r
  pub place : indexes_place at upto r

-- One byte and nothing more.
unfoldable pub byte_alone : ℕ → Bytes → Bool
byte_alone c [] = false
byte_alone c (b ∷ bs) = eqb b c && nothing bs
