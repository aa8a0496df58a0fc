-- The uses of a format's elements, kept one after the other as numbers.
use Rattle.std.specs.Prelude.{◌≡◌, Bool, cond, List, [], ◌∷◌, ℕ, ◌+◌, ◌*◌, ◌/◌, ◌%◌, ◌≤◌, ◌<◌, eqb, length, get_or, Err, Ok, Result}
use Rattle.rules.specs.declared.Refusal.{Refusal}
use Rattle.rules.specs.Outcome.{done, refused}
use Rattle.rules.specs.Lists.{Bytes, run}
use Rattle.rules.specs.Numbers.{refusal}
use Rattle.rules.specs.Table.{Entry}
use Rattle.rules.specs.Use as rules
use Rattle.value_formats.specs.declared.Format.{Format}
use Rattle.value_formats.specs.declared.Format.TheVariants.{Alpha, Binary, Fixed, Packed, Unpacked}
use Rattle.uses.specs.Spread.{index_bound}
use Rattle.uses.specs.Meant.{use_meant, uses_of, GoodUse}
use Rattle.uses.specs.declared.Span.{Span}
use Rattle.uses.specs.declared.Use.{Use}
use Rattle.uses.specs.declared.Use.TheVariants as code

-- How many numbers are kept of a use: what it is, and what it says.
abbrev pub numbers_kept : ℕ
numbers_kept = 4

-- The fewest bytes that an element takes of a format, with what ends it.
abbrev pub element_bytes : ℕ
element_bytes = 3

-- What a use is. Of the values that it names the fields are as they are stored, or one is at a format and a length in effect.
abbrev pub blanks_kept : ℕ
blanks_kept = 0

abbrev pub text_kept : ℕ
text_kept = 1

abbrev pub group_count_kept : ℕ
group_count_kept = 2

abbrev pub value_count_kept : ℕ
value_count_kept = 3

abbrev pub stored_kept : ℕ
stored_kept = 4

abbrev pub in_effect_kept : ℕ
in_effect_kept = 5

-- Two numbers below this are kept as one, a pair.
abbrev pub pair_base : ℕ
pair_base = 256

abbrev pub pair : ℕ → ℕ → ℕ
pair a b = pair_base * a + b

-- The first number of a use is its kind, which is below `bare_weight`. That of a span has more: to its kind is added whether its name
-- is bare, its format and its size, each times its weight. A format's number is below `formats_kept`.
abbrev pub bare_weight : ℕ
bare_weight = 8

abbrev pub format_weight : ℕ
format_weight = 16

abbrev pub size_weight : ℕ
size_weight = 128

abbrev pub formats_kept : ℕ
formats_kept = 8

-- A format as a number, and back.
abbrev pub format_number : Format → ℕ
format_number Alpha = 0
format_number Binary = 1
format_number Fixed = 2
format_number Packed = 3
format_number Unpacked = 4

unfoldable pub format_kept : ℕ → Format
format_kept n =
    cond (eqb n 0) Alpha (cond (eqb n 1) Binary (cond (eqb n 2) Fixed (cond (eqb n 3) Packed Unpacked)))

-- The kind of the use whose numbers are kept at a place.
abbrev pub kind_at : List ℕ → ℕ → ℕ
kind_at kept at = get_or kept at 0 % bare_weight

-- The span whose numbers are kept at a place: what it is, then its entries, its occurrences and its values, each as a pair.
abbrev pub span_at : List ℕ → ℕ → Span
span_at kept at = record {
  first = get_or kept (at + 1) 0 / pair_base;
  end = get_or kept (at + 1) 0 % pair_base;
  from = get_or kept (at + 2) 0 / pair_base;
  upto = get_or kept (at + 2) 0 % pair_base;
  value_from = get_or kept (at + 3) 0 / pair_base;
  value_upto = get_or kept (at + 3) 0 % pair_base;
  standard = eqb (kind_at kept at) stored_kept;
  format = format_kept (get_or kept at 0 / format_weight % formats_kept);
  size = get_or kept at 0 / size_weight;
  bare = eqb (get_or kept at 0 / bare_weight % 2) 1;
}

-- The use of a kind, with its first two numbers, or its span.
unfoldable pub use_of_kind : ℕ → ℕ → ℕ → Span → Use
use_of_kind kind a b s =
    cond (eqb kind blanks_kept) (code.Blanks a) (cond (eqb kind text_kept) (code.Text a b)
    (cond (eqb kind group_count_kept) (code.GroupCount a) (cond (eqb kind value_count_kept) (code.ValueCount a b) (code.Values s))))

-- The use with the number n.
unfoldable pub use_at : List ℕ → ℕ → Use
use_at kept n =
    let at = numbers_kept * n in
    use_of_kind (kind_at kept at) (get_or kept (at + 1) 0) (get_or kept (at + 2) 0) (span_at kept at)

-- The numbers of a use, which are small. Those of a span are packed; any other use has its kind and its own numbers, since the places
-- of a text are larger than one of a pair.
abbrev pub span_kind : Bool → ℕ
span_kind standard = cond standard stored_kept in_effect_kept

abbrev pub flag : Bool → ℕ
flag b = cond b 1 0

-- What a span is, in one number.
abbrev pub span_what : Span → ℕ
span_what s = span_kind s.standard + bare_weight * flag s.bare + format_weight * format_number s.format + size_weight * s.size

abbrev pub span_numbers : Span → List ℕ
span_numbers s = span_what s ∷ pair s.first s.end ∷ pair s.from s.upto ∷ pair s.value_from s.value_upto ∷ []

abbrev pub numbers : Use → List ℕ
numbers (code.Blanks n) = blanks_kept ∷ n ∷ 0 ∷ []
numbers (code.Text from upto) = text_kept ∷ from ∷ upto ∷ []
numbers (code.GroupCount i) = group_count_kept ∷ i ∷ 0 ∷ []
numbers (code.ValueCount i k) = value_count_kept ∷ i ∷ k ∷ []
numbers (code.Values s) = span_numbers s

abbrev pub SmallSpan : Span → Type 0
SmallSpan s =
    (s.first < pair_base) × (s.end < pair_base) × (s.from < pair_base) × (s.upto < pair_base) × (s.value_from < pair_base)
    × (s.value_upto < pair_base) × (s.size < pair_base)

abbrev pub small : Use → Type 0
small (code.Blanks n) = n < index_bound
small (code.Text from upto) = (from < index_bound) × (upto < index_bound)
small (code.GroupCount i) = i < index_bound
small (code.ValueCount i k) = (i < index_bound) × (k < index_bound)
small (code.Values s) = SmallSpan s

-- The first n uses, in the words of `rules`; and what is known of each.
unfoldable pub uses_kept : List Entry → Bytes → List ℕ → ℕ → List rules.Use
uses_kept es f kept n = run (λ i. use_meant es f (use_at kept i)) 0 n

abbrev pub GoodUses : List Entry → Bytes → List ℕ → ℕ → Type 0
GoodUses es f kept n = (i : ℕ) → i < n → GoodUse es f (use_at kept i)

-- The uses of a format were decoded, or it is refused.
abbrev pub Decodes : List Entry → Bytes → List ℕ → Result ℕ Refusal → Type 0
Decodes es f kept (Ok n) = (uses_of es f ≡ done (uses_kept es f kept n)) × GoodUses es f kept n × (numbers_kept * n ≤ length kept)
Decodes es f kept (Err x) = uses_of es f ≡ refused (refusal x)
