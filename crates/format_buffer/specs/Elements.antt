-- What the code's elements mean in the words of `rules`, and how large their numbers are.
use Rattle.std.specs.Prelude.{◌≡◌, Bool, true, false, None, Some, Option as Optional, ℕ, ◌≤◌, ◌<◌, ◌+◌, ◌^◌, length}
use Rattle.std.proofs.Math.Option.{Option, none, some}
use Rattle.rules.specs.Limits.{longest_blanks, longest_text, greatest_length, most_digits}
use Rattle.rules.specs.Lists.{Bytes}
use Rattle.rules.specs.Format as rules
use Rattle.rules.specs.Format.{Range}
use Rattle.format_buffer.specs.Part.{part}
use Rattle.format_buffer.specs.declared.Scope.{Scope}
use Rattle.format_buffer.specs.declared.Scope.TheVariants.{AsWritten, LastAlone, UpToLast}
use Rattle.format_buffer.specs.declared.Indexing.{Indexing}
use Rattle.format_buffer.specs.declared.Named.{Named}
use Rattle.format_buffer.specs.declared.Count.{Count}
use Rattle.format_buffer.specs.declared.Element.{Element}
use Rattle.format_buffer.specs.declared.Element.TheVariants as code

-- What may be given, as `rules` has it.
abbrev pub if_given : {A : Type 0} → Optional A → Option A
if_given (Some a) = some a
if_given None = none

abbrev pub range : ℕ → ℕ → Range
range from upto = record { from = from; upto = upto }

-- The indexes that reach so far.
abbrev pub reaching : Scope → Range → rules.Indexing
reaching AsWritten r = rules.these r
reaching LastAlone r = rules.the_last
reaching UpToLast r = rules.up_to_the_last

abbrev pub indexing_of : Indexing → rules.Indexing
indexing_of x = reaching x.scope (range x.from x.upto)

-- The occurrences that stand after a name, or the values in parentheses.
abbrev pub indexing_given : Optional Indexing → Option rules.Indexing
indexing_given (Some x) = some (indexing_of x)
indexing_given None = none

-- A name with its occurrences and values, at a length and a format.
abbrev pub named_of : Named → Option ℕ → Option ℕ → rules.Element
named_of n size format = rules.named n.name (indexing_given n.occurrences) (indexing_given n.values) size format

-- A count in the occurrence that is written, or in the last.
abbrev pub count_reaching : Scope → ℕ → ℕ → rules.Element
count_reaching AsWritten name i = rules.count name (some i)
count_reaching LastAlone name i = rules.count_in_last name
count_reaching UpToLast name i = rules.count_in_last name

abbrev pub count_given : ℕ → Optional Indexing → rules.Element
count_given name None = rules.count name none
count_given name (Some x) = count_reaching x.scope name x.from

abbrev pub count_of : Count → rules.Element
count_of c = count_given c.name c.index

-- The element of a format that the code's element stands for.
abbrev pub element_of : Bytes → Element → rules.Element
element_of f (code.Blanks n) = rules.blanks n
element_of f (code.Text from upto) = rules.quoted (part f from upto)
element_of f (code.Named n) = named_of n (if_given n.length) (if_given n.letter)
element_of f (code.Count c) = count_of c
element_of f (code.Series first last) = rules.series first last

-- An element has two characters or more: with its comma or period three bytes, so that 2,048 bytes have at most 682 elements.
abbrev pub shortest_element : ℕ
shortest_element = 2

-- The numbers of a format are below this, for they have no more digits.
abbrev pub number_bound : ℕ
number_bound = 10 ^ most_digits

-- How large the numbers of indexes are; with N they are 1.
pub record SmallIndexing (x : Indexing) : Type 0 where
  pub from : x.from < number_bound
  pub upto : x.upto < number_bound
  pub one : (x.scope ≡ AsWritten → ⊥) → (x.from ≡ 1) × (x.upto ≡ 1)

abbrev pub small_indexing : Optional Indexing → Type 0
small_indexing (Some x) = SmallIndexing x
small_indexing None = Unit {0}

abbrev pub small_length : Optional ℕ → Type 0
small_length (Some n) = n ≤ greatest_length
small_length None = Unit {0}

pub record Small (n : Named) : Type 0 where
  pub occurrences : small_indexing n.occurrences
  pub values : small_indexing n.values
  pub length : small_length n.length

-- A count is of one occurrence, or of the last.
abbrev pub small_count : Optional Indexing → Type 0
small_count (Some x) = SmallIndexing x × (x.scope ≡ UpToLast → ⊥)
small_count None = Unit {0}

-- How large the numbers of an element are.
abbrev pub sound : Bytes → Element → Type 0
sound f (code.Blanks n) = (1 ≤ n) × (n ≤ longest_blanks)
sound f (code.Text from upto) = (from < upto) × (upto ≤ length f) × (upto ≤ from + longest_text)
sound f (code.Named n) = Small n
sound f (code.Count c) = small_count c.index
sound f (code.Series first last) = Unit {0}

-- A name as it grows: alone, then with occurrences, values, a length and a format.
abbrev pub bare_name : ℕ → Named
bare_name n = record { name = n; occurrences = None; values = None; length = None; letter = None }

abbrev pub with_occurrences : Named → Indexing → Named
with_occurrences n x = record { name = n.name; occurrences = Some x; values = n.values; length = n.length; letter = n.letter }

abbrev pub with_values : Named → Indexing → Named
with_values n x = record { name = n.name; occurrences = n.occurrences; values = Some x; length = n.length; letter = n.letter }

abbrev pub with_length : Named → ℕ → Named
with_length n size = record { name = n.name; occurrences = n.occurrences; values = n.values; length = Some size; letter = n.letter }

abbrev pub with_format : Named → ℕ → Named
with_format n letter = record { name = n.name; occurrences = n.occurrences; values = n.values; length = n.length; letter = Some letter }
