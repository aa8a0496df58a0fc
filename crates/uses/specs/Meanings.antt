-- What an element of a read means, with the scopes of its indexes, and what is remembered from one element to the next.
use Rattle.std.specs.Prelude.{◌≡◌, Bool, true, false, cond, not, is_none, ◌&&◌, List, [], ℕ, ◌+◌, ◌≤◌, ◌<◌, eqb, length, get_or, Err, Ok, Result}
use Rattle.rules.specs.declared.Refusal.{Refusal}
use Rattle.rules.specs.Outcome.{Outcome, done, refused, ◌>>=◌}
use Rattle.rules.specs.Limits.{most_entries, highest_index}
use Rattle.rules.specs.Numbers.{refusal}
use Rattle.rules.specs.Lists.{Bytes}
use Rattle.rules.specs.Table.{Entry}
use Rattle.rules.specs.Format.{elements}
use Rattle.rules.specs.Use.{Indexes, last_index, indexes_after}
use Rattle.rules.specs.Last as rules
use Rattle.rules.specs.Last.{Lasts, after_N, lasts_by, meaning_of}
use Rattle.tables.specs.Entries.{blank, is_multiple, what_at}
use Rattle.tables.specs.Places.{inside_at}
use Rattle.format_buffer.specs.Elements.{element_of, sound, with_occurrences}
use Rattle.format_buffer.specs.declared.Scope.{Scope}
use Rattle.format_buffer.specs.declared.Scope.TheVariants.{AsWritten, LastAlone, UpToLast}
use Rattle.format_buffer.specs.declared.Indexing.{Indexing}
use Rattle.format_buffer.specs.declared.Named.{Named}
use Rattle.format_buffer.specs.declared.Element.{Element}
use Rattle.format_buffer.specs.declared.Element.TheVariants as element
use Rattle.uses.specs.Meant.{use_meant, GoodMeaning}
use Rattle.uses.specs.Scopes.{scope_at, both_written}
use Rattle.uses.specs.declared.scopes.Scopes.{Scopes}
use Rattle.uses.specs.declared.Span.{Span}
use Rattle.uses.specs.declared.Use.{Use}
use Rattle.uses.specs.declared.Use.TheVariants as code
use Rattle.uses.specs.declared.scopes.Meaning.{Meaning}

-- The meaning that the code's stands for, by the entries and the format.
abbrev pub meaning_meant : List Entry → Bytes → Use → Scopes → rules.Meaning
meaning_meant es f u s = record { meant = use_meant es f u; occurrences = scope_at s.occurrences; values = scope_at s.values }

abbrev pub scoped_outcome : List Entry → Bytes → Result Use Refusal → Scopes → Outcome rules.Meaning
scoped_outcome es f (Ok u) s = done (meaning_meant es f u s)
scoped_outcome es f (Err x) s = refused (refusal x)

-- What has no N.
abbrev pub unscoped : Result Use Refusal → Meaning
unscoped m = record { meant = m; scopes = both_written }

-- What is known of scopes, beside what they mean: of occurrences there is a last one in periodic groups only, and of values in MU fields only.
pub record SpanScoped (es : List Entry) (s : Span) (x : Scopes) : Type 0 where
  pub occurrences : (x.occurrences ≡ AsWritten → ⊥) → inside_at es s.first ≡ true
  pub values : (x.values ≡ AsWritten → ⊥) → (s.standard ≡ false) × (is_multiple (what_at es s.first) ≡ true)

abbrev pub GoodScopes : List Entry → Use → Scopes → Type 0
GoodScopes es (code.Blanks n) x = Unit {0}
GoodScopes es (code.Text from upto) x = Unit {0}
GoodScopes es (code.GroupCount i) x = Unit {0}
GoodScopes es (code.ValueCount i k) x = ((x.occurrences ≡ AsWritten → ⊥) → inside_at es i ≡ true) × (x.occurrences ≡ UpToLast → ⊥)
GoodScopes es (code.Values s) x = SpanScoped es s x

abbrev pub GoodScopesOf : List Entry → Result Use Refusal → Scopes → Type 0
GoodScopesOf es (Ok u) x = GoodScopes es u x
GoodScopesOf es (Err n) x = Unit {0}

-- How many numbers are kept: an index for each entry, and after them where the next name is looked for first.
abbrev pub indexes_kept : ℕ
indexes_kept = most_entries + 1

-- What is kept as the last index of a field after N, which no index is; and what is kept of any field.
abbrev pub kept_after_N : ℕ
kept_after_N = 1000

abbrev pub kept_index : ℕ → Indexes → Lasts → ℕ
kept_index n ls ns = cond (after_N n ns) kept_after_N (last_index n ls)

-- The last index so far of each entry outside periodic groups; in them there are no bare names.
pub record KeptOf (es : List Entry) (last : List ℕ) (ls : Indexes) (ns : Lasts) (i : ℕ) : Type 0 where
  pub kept : get_or last i 0 ≡ kept_index (get_or es i blank).name ls ns
  pub bound : last_index (get_or es i blank).name ls ≤ highest_index

abbrev pub Remembers : List Entry → List ℕ → Indexes → Lasts → Type 0
Remembers es last ls ns = (i : ℕ) → i < length es → inside_at es i ≡ false → KeptOf es last ls ns i

-- The bare name of an entry after N is that name with N.
abbrev pub last_indexing : Indexing
last_indexing = record { from = 1; upto = 1; scope = LastAlone }

abbrev pub name_in_full : Bool → ℕ → Named → Named
name_in_full inside last n = cond (eqb last kept_after_N && is_none n.occurrences && not inside) (with_occurrences n last_indexing) n

-- What an element means, after the indexes so far.
pub record Means (es : List Entry) (last : List ℕ) (e : Element) (r : Meaning) : Type 0 where
  pub answer : (f : Bytes) (ls : Indexes) (ns : Lasts) → sound f e → Remembers es last ls ns
      → scoped_outcome es f r.meant r.scopes ≡ meaning_of es ls ns (element_of f e)
  pub held : (f : Bytes) → sound f e → GoodMeaning es f r.meant
  pub scoped : (f : Bytes) → sound f e → GoodScopesOf es r.meant r.scopes

abbrev pub NameMeans : List Entry → List ℕ → Named → Meaning → Type 0
NameMeans es last n r = Means es last (element.Named n) r

-- The indexes after a use whose values reach so far.
pub record Remembered (es : List Entry) (u : Use) (scope : Scope) (before after : List ℕ) : Type 0 where
  pub same : length after ≡ length before
  pub indexes : (f : Bytes) (ls : Indexes) (ns : Lasts) → Remembers es before ls ns
      → Remembers es after (indexes_after (use_meant es f u) ls) (lasts_by (use_meant es f u) (scope_at scope) ns)

-- What the use rules say of the format of a read.
unfoldable pub meanings_of : List Entry → Bytes → Outcome (List rules.Meaning)
meanings_of es f = elements f >>= rules.meanings es [] []
