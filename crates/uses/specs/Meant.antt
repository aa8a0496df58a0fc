-- What the code's uses mean in the words of `rules`.
use Rattle.std.specs.Prelude.{◌≡◌, Bool, true, false, cond, List, [], ◌∷◌, map, ℕ, suc, ◌-◌, ◌+◌, ◌<◌, ◌≤◌, length, take, drop, get_or, Err, Ok, Result, None, Some, Option as Optional}
use Rattle.std.proofs.Math.Option.{Option, none, some}
use Rattle.format_buffer.specs.declared.Indexing.{Indexing}
use Rattle.rules.specs.declared.Refusal.{Refusal}
use Rattle.rules.specs.Outcome.{Outcome, done, refused, ◌>>=◌}
use Rattle.rules.specs.Limits.{highest_index, longest_blanks, longest_text}
use Rattle.rules.specs.Numbers.{refusal}
use Rattle.rules.specs.Lists.{Bytes, all, filter}
use Rattle.rules.specs.Values.{allowed, converts}
use Rattle.rules.specs.Table.{Field, Entry, group}
use Rattle.rules.specs.Format.{elements}
use Rattle.rules.specs.Use as rules
use Rattle.rules.specs.Use.{Asked, plain, as_stored, in_order}
use Rattle.value_formats.specs.Formats.{format_at}
use Rattle.value_formats.specs.declared.Format.{Format}
use Rattle.value_formats.specs.declared.Format.TheVariants.{Alpha}
use Rattle.tables.specs.Entries.{blank, is_group, is_multiple, is_periodic, what_at}
use Rattle.tables.specs.Places.{inside_at, found_at, Home}
use Rattle.tables.specs.Groups.{group_end, field_at, fields_in}
use Rattle.format_buffer.specs.Part.{part}
use Rattle.format_buffer.specs.Elements.{range}
use Rattle.format_buffer.specs.declared.Named.{Named}
use Rattle.format_buffer.specs.declared.Count.{Count}
use Rattle.uses.specs.Spread.{occurrences, bracket}
use Rattle.uses.specs.Effect.{length_given, letter_given}
use Rattle.uses.specs.declared.Span.{Span}
use Rattle.uses.specs.declared.Use.{Use}
use Rattle.uses.specs.declared.Use.TheVariants as code
use Rattle.uses.specs.declared.spread.Ranges.{Ranges}

-- The fields among the entries from one number up to another.
unfoldable pub fields_from : List Entry → ℕ → ℕ → List Field
fields_from es first end = fields_in (take (end - first) (drop first es))

-- The fields of a span, each as it is stored; or one, at the format and the length in effect.
abbrev pub asked_by : List Entry → Bool → Span → List Asked
asked_by es true s = map as_stored (fields_from es s.first s.end)
asked_by es false s = record { field = field_at es s.first; format = format_at s.format; size = s.size } ∷ []

abbrev pub asked_of : List Entry → Span → List Asked
asked_of es s = asked_by es s.standard s

-- The use that the code's use stands for, by the entries and the format.
abbrev pub use_meant : List Entry → Bytes → Use → rules.Use
use_meant es f (code.Blanks n) = rules.one (rules.blanks_item n)
use_meant es f (code.Text from upto) = rules.one (rules.text_item (part f from upto))
use_meant es f (code.GroupCount i) = rules.one (rules.group_count (get_or es i blank).name)
use_meant es f (code.ValueCount i k) = rules.one (rules.value_count (get_or es i blank).name k)
use_meant es f (code.Values s) =
    rules.values (asked_of es s) (range s.from s.upto) (range s.value_from s.value_upto) s.bare

abbrev pub outcome_of : List Entry → Bytes → Result Use Refusal → Outcome rules.Use
outcome_of es f (Ok u) = done (use_meant es f u)
outcome_of es f (Err x) = refused (refusal x)

-- A span of one field, at a length and a format that are right for it.
pub record OneField (es : List Entry) (s : Span) : Type 0 where
  pub next : s.end ≡ s.first + 1
  pub field : is_group (what_at es s.first) ≡ false
  pub allowed : allowed (format_at s.format) s.size ≡ true
  pub converts : converts (field_at es s.first).format (format_at s.format) ≡ true
  -- A field that is not MU has value 1 alone.
  pub value : (field_at es s.first).multiple ≡ false → (s.value_from ≡ 1) × (s.value_upto ≡ 1)

-- What is known of a span, beside what it means: its entries and indexes lie in their bounds, and fields at their standard are not MU.
pub record GoodSpan (es : List Entry) (s : Span) : Type 0 where
  pub ordered : s.first < s.end
  pub upto : s.end ≤ length es
  pub occurrences : in_order (range s.from s.upto) ≡ true
  pub values : in_order (range s.value_from s.value_upto) ≡ true
  pub single : s.standard ≡ true → filter (λ a. a.field.multiple) (map as_stored (fields_from es s.first s.end)) ≡ []
  pub alone : s.standard ≡ false → OneField es s
  -- What lies outside periodic groups has occurrence 1 alone.
  pub only : (j : ℕ) → s.first ≤ j → j < s.end → inside_at es j ≡ false → s.upto ≡ 1
  -- A span does not begin with a periodic group itself.
  pub begins : is_periodic (what_at es s.first) ≡ false
  -- Fields at their standard have value 1 alone.
  pub once : s.standard ≡ true → (s.value_from ≡ 1) × (s.value_upto ≡ 1)
  -- They name no format and no length in effect.
  pub unasked : s.standard ≡ true → (s.format ≡ Alpha) × (s.size ≡ 0)
  -- Where the first entry lies in a periodic group, all do, in the same, and their fields are of fixed length.
  pub one_group : s.standard ≡ true → (g : ℕ) → Home es s.first g → (s.end ≤ group_end es g) × (all plain (fields_from es s.first s.end) ≡ true)
  -- Where it lies outside, all do.
  pub outside : s.standard ≡ true → inside_at es s.first ≡ false → (j : ℕ) → s.first ≤ j → j < s.end → inside_at es j ≡ false
  -- Where it lies in one, they are the members of the group that the entry before the first is.
  pub grouped : s.standard ≡ true → inside_at es s.first ≡ true → (i : ℕ) × (s.first ≡ suc i) × (is_group (what_at es i) ≡ true) × (s.end ≡ group_end es i)

abbrev pub GoodUse : List Entry → Bytes → Use → Type 0
GoodUse es f (code.Blanks n) = n ≤ longest_blanks
GoodUse es f (code.Text from upto) = (from < upto) × (upto ≤ length f) × (upto ≤ from + longest_text)
GoodUse es f (code.GroupCount i) = (i < length es) × (what_at es i ≡ group true)
GoodUse es f (code.ValueCount i k) =
    (i < length es) × (is_multiple (what_at es i) ≡ true) × (1 ≤ k) × (k ≤ highest_index) × (inside_at es i ≡ false → k ≡ 1)
GoodUse es f (code.Values s) = GoodSpan es s

abbrev pub GoodMeaning : List Entry → Bytes → Result Use Refusal → Type 0
GoodMeaning es f (Ok u) = GoodUse es f u
GoodMeaning es f (Err x) = Unit {0}

-- The answer is the rules' outcome, whatever the format's bytes are.
pub record Settles (es : List Entry) (o : Outcome rules.Use) (r : Result Use Refusal) : Type 0 where
  pub answer : (f : Bytes) → outcome_of es f r ≡ o
  pub held : (f : Bytes) → GoodMeaning es f r

-- The span of a name is its entry's: of the field alone, or of the members of the group.
pub record EntrySpan (es : List Entry) (i : ℕ) (u : Use) : Type 0 where
  pub span : Span
  pub is : u ≡ code.Values span
  pub standard : span.standard ≡ is_group (what_at es i)
  pub first : span.first ≡ cond (is_group (what_at es i)) (i + 1) i

abbrev pub EntrySpanOf : List Entry → ℕ → Result Use Refusal → Type 0
EntrySpanOf es i (Ok u) = EntrySpan es i u
EntrySpanOf es i (Err x) = Unit {0}

pub record SettlesEntry (es : List Entry) (i : ℕ) (o : Outcome rules.Use) (r : Result Use Refusal) : Type 0 where
  pub settles : Settles es o r
  pub spans : EntrySpanOf es i r

-- The rules for a name, a count and a series, by the entries that are named.
abbrev pub field_use : List Entry → ℕ → ℕ → Named → Outcome rules.Use
field_use es i last n =
    rules.use_of_field (field_at es i) (inside_at es i) last (occurrences n) (bracket n) (length_given n) (letter_given n)

abbrev pub group_use : List Entry → ℕ → Named → Outcome rules.Use
group_use es i n = rules.use_of_group (found_at es i) (occurrences n) (bracket n) (length_given n) (letter_given n)

-- The occurrence that a count names, where it names one.
abbrev pub index_given : Optional Indexing → Option ℕ
index_given (Some x) = some x.from
index_given None = none

abbrev pub count_use : List Entry → ℕ → Count → Outcome rules.Use
count_use es i c = rules.use_of_count (get_or es i blank).name (what_at es i) (inside_at es i) (index_given c.index)

abbrev pub series_use : List Entry → ℕ → ℕ → Outcome rules.Use
series_use es i j = rules.use_of_series (found_at es i) (get_or es j blank).name

-- The rules for an entry, a group or a field; and for a count and a series by their names.
abbrev pub entry_use : List Entry → ℕ → ℕ → Named → Outcome rules.Use
entry_use es i last n = cond (is_group (what_at es i)) (group_use es i n) (field_use es i last n)

abbrev pub count_named : List Entry → Count → Outcome rules.Use
count_named es c = rules.find c.name es >>= λ x. rules.use_of_count c.name x.entry.what x.inside (index_given c.index)

abbrev pub series_named : List Entry → ℕ → ℕ → Outcome rules.Use
series_named es n m = rules.find n es >>= λ x. rules.find m es >>= λ _. rules.use_of_series x m

-- Fields at their own formats and lengths; one at the format and the length in effect.
abbrev pub stored_span : ℕ → ℕ → Ranges → Span
stored_span first end r = record {
  first = first;
  end = end;
  from = r.from;
  upto = r.upto;
  value_from = r.value_from;
  value_upto = r.value_upto;
  standard = true;
  format = Alpha;
  size = 0;
  bare = r.bare;
}

abbrev pub field_span : ℕ → Ranges → Format → ℕ → Span
field_span i r format size = record {
  first = i;
  end = i + 1;
  from = r.from;
  upto = r.upto;
  value_from = r.value_from;
  value_upto = r.value_upto;
  standard = false;
  format = format;
  size = size;
  bare = r.bare;
}

-- The span of a use, if it has one, is well formed.
abbrev pub GoodSpanOf : List Entry → Use → Type 0
GoodSpanOf es (code.Blanks n) = Unit {0}
GoodSpanOf es (code.Text from upto) = Unit {0}
GoodSpanOf es (code.GroupCount i) = Unit {0}
GoodSpanOf es (code.ValueCount i k) = Unit {0}
GoodSpanOf es (code.Values s) = GoodSpan es s

-- What the use rules say of the format of an update.
unfoldable pub uses_of : List Entry → Bytes → Outcome (List rules.Use)
uses_of es f = elements f >>= rules.uses es []
