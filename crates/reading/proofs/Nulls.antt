-- An occurrence that does not exist: each field of the group is null at its own format and length, one after the other.
use Rattle.std.specs.Prelude.{Err, None, Ok, Result}
use mathlib.Core.Path.{◌≡◌, refl, sym, ◌∙◌, ap, subst}
use mathlib.Core.Bool.{Bool, true, false}
use mathlib.Core.List.{List, [], ◌∷◌, ◌++◌, map}
use Prim.Native.Nat.{ℕ, suc, ◌+◌, ◌-◌, ◌≤◌, ◌<◌}
use native.Mathlib.Numerals.{add-one}
use native.Mathlib.Omega.{arith}
use lib.ListN.{length, take, drop, get_or, replicate, length-drop, drop_of_length-le}
use lib.Seq.{drop-cons}
use Rattle.rules.specs.Outcome.{Outcome, done}
use Rattle.rules.specs.Limits.{most_entries}
use Rattle.rules.specs.Lists.{Bytes, join, run}
use Rattle.rules.specs.Values.{allowed, null}
use Rattle.rules.proofs.Lengths.{read_done}
use Rattle.rules.specs.Table.{What, Entry, Field, parts, fields_below}
use Rattle.rules.specs.Record.{Record, values_at, value_at}
use Rattle.rules.specs.Use.{as_stored}
use Rattle.rules.specs.Services.{item_bytes, filled}
use Rattle.rules.specs.declared.Refusal.{Refusal}
use Rattle.rules.proofs.Ranges.{one_field}
use Rattle.buffer.proofs.Laws.{take_splice}
use Rattle.values.proofs.Meant.{null_converted}
use Rattle.tables.specs.Entries.{Valid, entries_of, blank, is_group, field_format, size_of}
use Rattle.tables.specs.Places.{inside_at}
use Rattle.tables.specs.Groups.{group_end, numbers_below, field_at, FieldsOf}
use Rattle.tables.proofs.Tables.{valid_most}
use Rattle.tables.proofs.Nesting.{numbers_short, numbers_each, run_short}
use Rattle.format_buffer.specs.Elements.{range}
use Rattle.uses.specs.Meant.{fields_from, GoodSpan}
use Rattle.uses.specs.declared.Span.{Span}
use Rattle.uses.proofs.Fields.{group_fields, format_of_field, size_at}
use Rattle.records.specs.Places.{IsRecord, PieceOf}
use Rattle.filling.specs.Filling.{in_room, Filling, Continues, together}
use Rattle.reading.specs.Spans.{Fills, FieldsNumbered, nulls_of, occurrence_items}
use Rattle.filling.proofs.Continues.{continues_end, turn, turn_within, stop}
use Rattle.reading.proofs.Items.{filled_together}
use Rattle.filling.proofs.Together.{together_copies}
use Rattle.reading.proofs.SpanItems.{stored_items, row_once, each_field}
use Rattle.tables.proofs.EntryFields.{name_at}
use Rattle.tables.proofs.Known.{field_known}
use Rattle.uses.proofs.Effects.{converts_itself}

-- A loop over the numbers of fields: what is left of their nulls ends and writes as all of them do from the start.
pub record Nulling (es : List Entry) (fields : List ℕ) (end k start at : ℕ) (write : Bool) (out₀ out : Bytes) : Type 0 where
  pub fits : at ≤ end
  pub room : end ≤ length out
  pub continues : Continues (together (end - start) (nulls_of (map (field_at es) fields))) (together (end - at) (nulls_of (map (field_at es) (drop k fields)))) start at write out₀ out

module _ (t : Bytes) (v : Valid t) {fields : List ℕ} {end k start at : ℕ} {write : Bool} {out₀ out : Bytes} (g : Nulling (entries_of t) fields end k start at write out₀ out) where
  abbrev es : List Entry
  es = entries_of t

  pub null_end : length fields ≤ k → Filling (together (end - start) (nulls_of (map (field_at es) fields))) start write out₀ out (Ok at)
  null_end h =
      let z : drop k fields ≡ [] = drop_of_length-le fields h in
      continues_end (end - at) (subst (λ (ns : List ℕ). Continues (together (end - start) (nulls_of (map (field_at es) fields))) (together (end - at) (nulls_of (map (field_at es) ns))) start at write out₀ out) z g.continues)

  -- What the entry of the next field says. A turn puts its null.
  abbrev e : What
  e = (get_or es (get_or fields k 0) blank).what

  module _ (less : k < length fields) (here : (get_or fields k 0 < length es) × (is_group (get_or es (get_or fields k 0) blank).what ≡ false))
      {out' : Bytes} {m : (Result ℕ Refusal)} (f : Filling (in_room (end - at) (done (join (replicate 1 (null (field_format e) (size_of e)))))) at write out out' m) where
    abbrev ahead : List (Outcome Bytes)
    ahead = nulls_of (map (field_at es) (drop (suc k) fields))

    abbrev own : List (Outcome Bytes)
    own = done (null (field_format e) (size_of e)) ∷ []

    opened : nulls_of (map (field_at es) (drop k fields)) ≡ own ++ ahead
    opened = ap (λ (ns : List ℕ). nulls_of (map (field_at es) ns)) (drop-cons fields k 0 less)
        ∙ rw (format_of_field es (get_or fields k 0), size_at es (get_or fields k 0)) refl

    left : Continues (together (end - start) (nulls_of (map (field_at es) fields))) (together (end - at) (own ++ ahead)) start at write out₀ out
    left = subst (λ (os : List (Outcome Bytes)). Continues (together (end - start) (nulls_of (map (field_at es) fields))) (together (end - at) os) start at write out₀ out) opened g.continues

    put : Filling (together (end - at) own) at write out out' m
    put = subst (λ (o : Outcome Bytes). Filling o at write out out' m) (sym (together_copies 1 (null (field_format e) (size_of e)) (end - at))) f

    pub null_on : (at' : ℕ) → m ≡ Ok at' → Nulling es fields end (k + 1) start at' write out₀ out'
    null_on at' p =
        let x = turn end own ahead left put g.fits g.room at' p in
        rw (add-one k) (record { fits = (turn_within end own ahead left put g.fits g.room at' p).1; room = omega (arith, f.same, g.room); continues = x })

    pub null_off : (i : Refusal) → m ≡ Err i → Filling (together (end - start) (nulls_of (map (field_at es) fields))) start write out₀ out' (Err i)
    null_off i p = stop end own ahead left put g.fits g.room i p

-- The numbers that the expansion of a group leaves are those of its fields: for a span in a periodic group, of the span's.
module _ (t : Bytes) (v : Valid t) (s : Span) (held : GoodSpan (entries_of t) s) {before after : List ℕ} {n : ℕ} (x : FieldsOf (entries_of t) (s.first - 1) before after n) where
  abbrev i : ℕ
  i = s.first - 1

  abbrev level : ℕ
  level = (get_or (entries_of t) i blank).level

  abbrev later : List Entry
  later = drop (i + 1) (entries_of t)

  pub fields_few : n ≤ most_entries
  fields_few = omega (arith, x.counted, numbers_short level (i + 1) later, run_short level later, length-drop (i + 1) (entries_of t), valid_most t v)

  module _ (standard : s.standard ≡ true) (inside : inside_at (entries_of t) s.first ≡ true) where
    known : i + 1 ≤ length (entries_of t)
    known = omega (arith, (held.grouped standard inside).1, held.ordered, held.upto)

    pub fields_numbered : FieldsNumbered (entries_of t) (take n after)
    fields_numbered k less =
        let numbers = numbers_below level (i + 1) later in
        let e : take n after ≡ numbers = ap (take n) x.written ∙ take_splice numbers before n x.counted in
        let m = numbers_each (entries_of t) level (i + 1) k known (omega (arith, ap length e)) in
        rw e (omega (arith, m.below, known, run_short level later, length-drop (i + 1) (entries_of t)), m.field)

    fields_row : map (field_at (entries_of t)) (take n after) ≡ fields_from (entries_of t) s.first s.end
    fields_row =
        let g = held.grouped standard inside in
        let own : i ≡ g.0 = omega (arith, g.1) in
        let first : i + 1 ≡ s.first = omega (arith, g.1) in
        x.fields ∙ ap (λ (k : ℕ). fields_below level (drop k (entries_of t))) (add-one i) ∙ group_fields (entries_of t) i (omega (arith, known))
        ∙ ap (λ (k : ℕ). fields_from (entries_of t) k (group_end (entries_of t) i)) first
        ∙ ap (fields_from (entries_of t) s.first) (ap (group_end (entries_of t)) own ∙ sym g.3)

    pub nulls_row : (at end : ℕ) (write : Bool) {out out' : Bytes} {m : (Result ℕ Refusal)} → Filling (together (end - at) (nulls_of (map (field_at (entries_of t)) (take n after)))) at write out out' m
        → Filling (together (end - at) (nulls_of (fields_from (entries_of t) s.first s.end))) at write out out' m
    nulls_row at end write {out} {out'} {m} = subst (λ (fs : List Field). Filling (together (end - at) (nulls_of fs)) at write out out' m) fields_row

-- A row of fields that have no value is null for each.
module _ (t b : Bytes) (places : List ℕ) (v : Valid t) (s : Span) (held : GoodSpan (entries_of t) s) (standard : s.standard ≡ true) (o : ℕ) where
  null_item : (r : Record) (f : Field) → allowed f.format f.size ≡ true → values_at (parts (entries_of t)) r f.name o ≡ []
      → map (item_bytes (parts (entries_of t)) r) (stored_items o (f ∷ [])) ≡ done (null f.format f.size) ∷ []
  unfolding item_bytes value_at as_stored run
  null_item r f a e =
      ap (map (item_bytes (parts (entries_of t)) r)) (one_field o (range 1 1) false (as_stored f))
      ∙ rw (e, read_done f.format f.format f.size _ (null_converted f.format f.format f.size f.size (converts_itself f.format) a a)) refl

  own_fits : (k : ℕ) → k < length (entries_of t) → is_group (get_or (entries_of t) k blank).what ≡ false → allowed (field_at (entries_of t) k).format (field_at (entries_of t) k).size ≡ true
  own_fits k known single =
      rw (format_of_field (entries_of t) k, size_at (entries_of t) k) (field_known t v k known single)

  pub row_null : ((r : Record) → IsRecord (entries_of t) b places r → PieceOf (entries_of t) b s.first s.end o r None) → (at end : ℕ) (write : Bool) {out out' : Bytes} {m : (Result ℕ Refusal)}
      → Filling (together (end - at) (nulls_of (fields_from (entries_of t) s.first s.end))) at write out out' m
      → Fills (entries_of t) b places (occurrence_items (entries_of t) s o) at end write out out' m
  row_null found at end write {out} {out'} {m} f r h =
      let fs = fields_from (entries_of t) s.first s.end in
      let none = each_field (entries_of t) o (item_bytes (parts (entries_of t)) r) (λ (x : Field). done (null x.format x.size)) (s.end - s.first) s.first s.end (omega (arith, held.ordered)) held.upto
      λ k low high g. null_item r (field_at (entries_of t) k) (own_fits k (omega (arith, held.upto)) g)
      (ap (λ (n : ℕ). values_at (parts (entries_of t)) r n o) (name_at (entries_of t) k) ∙ (found r h).1 k low high g) in
      subst (λ (x : Outcome Bytes). Filling x at write out out' m)
      (sym (ap (filled (parts (entries_of t)) r (end - at)) (row_once (entries_of t) s held standard o) ∙ filled_together (parts (entries_of t)) r (stored_items o fs) (end - at) ∙ ap (together (end - at)) none))
      f
