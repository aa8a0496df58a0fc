-- The occurrences of a span: their items filled into room for whatever record the bytes hold, and those that stand one after the other.
use Rattle.std.specs.Prelude.{◌≡◌, Bool, true, false, List, map, ℕ, ◌+◌, ◌-◌, ◌≤◌, ◌<◌, length, get_or, Result}
use Rattle.rules.specs.declared.Refusal.{Refusal}
use Rattle.std.proofs.Math.Seq.{slice}
use Rattle.rules.specs.Outcome.{Outcome, done}
use Rattle.rules.specs.Lists.{Bytes}
use Rattle.rules.specs.Values.{null}
use Rattle.rules.specs.Table.{Entry, Field, parts, part_holding}
use Rattle.rules.specs.Record.{Record, group_count_at, value_count_at}
use Rattle.rules.specs.Use.{Item, items_over, value_items, just}
use Rattle.rules.specs.Last.{resolved, counts_in, occurrences_stored}
use Rattle.rules.specs.Services.{filled}
use Rattle.tables.specs.Entries.{blank, is_group, is_multiple, what_at}
use Rattle.tables.specs.Places.{inside_at, Home}
use Rattle.format_buffer.specs.Elements.{range}
use Rattle.format_buffer.specs.declared.Scope.{Scope}
use Rattle.format_buffer.specs.declared.Scope.TheVariants.{AsWritten}
use Rattle.uses.specs.Meant.{asked_of, GoodSpan}
use Rattle.uses.specs.Scopes.{scope_at}
use Rattle.uses.specs.declared.Span.{Span}
use Rattle.records.specs.Paths.{Wide, Leads}
use Rattle.records.specs.Places.{IsRecord}
use Rattle.records.specs.declared.paths.Path.{Path}
use Rattle.filling.specs.Filling.{Filling}
use Rattle.tables.specs.Groups.{group_end, fields_in}

-- A span with other occurrences.
abbrev pub with_rows : Span → ℕ → ℕ → Span
with_rows s from upto = record {
  first = s.first;
  end = s.end;
  from = from;
  upto = upto;
  value_from = s.value_from;
  value_upto = s.value_upto;
  standard = s.standard;
  format = s.format;
  size = s.size;
  bare = s.bare;
}

-- The items end and write as they are to; items that depend on the record do.
abbrev pub Fills : List Entry → Bytes → List ℕ → List Item → ℕ → ℕ → Bool → Bytes → Bytes → Result ℕ Refusal → Type 0
Fills es b places xs at end write entry exit n =
    (r : Record) → IsRecord es b places r → Filling (filled (parts es) r (end - at) xs) at write entry exit n

abbrev pub FillsBy : List Entry → Bytes → List ℕ → (Record → List Item) → ℕ → ℕ → Bool → Bytes → Bytes → Result ℕ Refusal → Type 0
FillsBy es b places xs at end write entry exit n =
    (r : Record) → IsRecord es b places r → Filling (filled (parts es) r (end - at) (xs r)) at write entry exit n

-- Some numbers are those of entries that are fields.
abbrev pub FieldsNumbered : List Entry → List ℕ → Type 0
FieldsNumbered es ns = (k : ℕ) → k < length ns → (get_or ns k 0 < length es) × (is_group (what_at es (get_or ns k 0)) ≡ false)

-- Null for each of some fields, at its own format and length.
abbrev pub nulls_of : List Field → List (Outcome Bytes)
nulls_of fs = map (λ (f : Field). done (null f.format f.size)) fs

-- The items of a span in one occurrence; in those from one up to another; and in those from one on.
abbrev pub occurrence_items : List Entry → Span → ℕ → List Item
occurrence_items es s o = value_items (asked_of es s) (just o) (range s.value_from s.value_upto) false

abbrev pub occurrences_items : List Entry → Span → ℕ → ℕ → List Item
occurrences_items es s o last = value_items (asked_of es s) (range o last) (range s.value_from s.value_upto) false

abbrev pub span_items : List Entry → Span → ℕ → List Item
span_items es s o = occurrences_items es s o s.upto

-- The items of a span from an occurrence on, by how far its values reach, which each occurrence of a field says for itself.
abbrev pub scoped_items : List Entry → Record → Span → Scope → ℕ → List Item
scoped_items es r s scope o =
    items_over (asked_of es s) (range o s.upto)
    (λ f i. resolved (scope_at scope) (range s.value_from s.value_upto) (value_count_at (parts es) r f.name i)) false

-- Only of one MU field at a format and a length do values reach to the last.
abbrev pub ScopedValues : List Entry → Span → Scope → Type 0
ScopedValues es s scope = (scope ≡ AsWritten → ⊥) → (s.standard ≡ false) × (is_multiple (what_at es s.first) ≡ true)

-- n occurrences are stored of the periodic group in which entry i lies.
abbrev pub StoredCount : List Entry → Bytes → List ℕ → ℕ → ℕ → Type 0
StoredCount es b places i n = (g : ℕ) → Home es i g → (r : Record) → IsRecord es b places r → n ≡ group_count_at (parts es) r (get_or es g blank).name

-- Only in a periodic group can the occurrences of entry i reach to the last.
abbrev pub ReachesInside : List Entry → ℕ → Scope → Type 0
ReachesInside es i scope = (scope ≡ AsWritten → ⊥) → inside_at es i ≡ true

-- The occurrence of entry i that is meant, o or the last.
pub record OccurrenceMeant (es : List Entry) (b : Bytes) (places : List ℕ) (i o : ℕ) (scope : Scope) (k : ℕ) : Type 0 where
  pub first : 1 ≤ k
  pub only : inside_at es i ≡ false → k ≡ 1
  pub meant : (r : Record) → IsRecord es b places r
      → k ≡ (resolved (scope_at scope) (just o) (group_count_at (parts es) r (part_holding (get_or es i blank).name (parts es)))).upto

-- The occurrences that are meant, by how far they reach: the span has them, and is otherwise the one given.
pub record MeantSpan (es : List Entry) (b : Bytes) (places : List ℕ) (s : Span) (scope : Scope) (s' : Span) : Type 0 where
  pub same : s' ≡ with_rows s s'.from s'.upto
  pub good : s'.from ≤ s'.upto → GoodSpan es s'
  pub meant : (r : Record) → IsRecord es b places r
      → range s'.from s'.upto ≡ resolved (scope_at scope) (range s.from s.upto) (occurrences_stored (parts es) (counts_in (parts es) r) (asked_of es s))

-- The way to the first entry of a span, and where that lies in a periodic group, the width of the span's fields.
pub record Way (es : List Entry) (s : Span) (path : Path) (width : ℕ) : Type 0 where
  pub entry : path.entry ≡ s.first
  pub leads : Leads es path
  pub wide : path.inside ≡ true → Wide (fields_in (slice s.first s.end es)) width

-- The span is the whole of the periodic group in which its first entry lies, and n of its occurrences exist, from its first on.
pub record Whole (es : List Entry) (b : Bytes) (places : List ℕ) (s : Span) (path : Path) (n : ℕ) : Type 0 where
  pub inside : path.inside ≡ true
  pub first : s.first ≡ path.group + 1
  pub end : s.end ≡ group_end es path.group
  pub exist : (r : Record) → IsRecord es b places r → s.from + n ≤ group_count_at (parts es) r (get_or es path.group blank).name + 1

-- n occurrences of a span, from its first on, stand one after the other: the span is whole and they exist, unless there are none.
pub record Adjacent (es : List Entry) (b : Bytes) (places : List ℕ) (s : Span) (path : Path) (n : ℕ) : Type 0 where
  pub upto : s.from + n ≤ s.upto + 1
  pub whole : 1 ≤ n → Whole es b places s path n
