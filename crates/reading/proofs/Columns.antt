-- What is wanted of a span's one field is what its items ask for: in each occurrence as many values are meant as the field's cell tells.
use Rattle.std.specs.Prelude.{None, Option, Result, Some}
use Rattle.rules.specs.declared.Refusal.{Refusal}
use mathlib.Core.Path.{◌≡◌, refl, sym, ◌∙◌, ap, subst}
use mathlib.Core.Bool.{Bool, true, false}
use mathlib.Core.List.{List, [], ◌∷◌, ◌++◌, map, append-nil}
use Prim.Native.Nat.{ℕ, zero, suc, pred, ◌+◌, ◌-◌, ◌≤◌, ◌<◌}
use native.Mathlib.Omega.{arith}
use lib.ListN.{length, get_or, drop}
use Rattle.rules.specs.Outcome.{Outcome}
use Rattle.rules.specs.Lists.{Bytes, join, run}
use Rattle.rules.specs.Values.{allowed, converts, null}
use Rattle.rules.specs.Values as Rules
use Rattle.rules.specs.Table.{What, Entry, Field, parts}
use Rattle.rules.specs.Format.{Range}
use Rattle.rules.specs.Last.{resolved}
use Rattle.rules.specs.Record.{Record, values_at, value_at, value_count_at}
use Rattle.rules.specs.Use.{Asked, Item, over}
use Rattle.rules.specs.Services.{item_bytes}
use Rattle.rules.proofs.Ranges.{item_at, field_items}
use Rattle.value_formats.specs.Formats.{format_at}
use Rattle.tables.specs.Entries.{Valid, entries_of, blank, is_multiple, field_format, coded, size_of}
use Rattle.tables.specs.Groups.{field_at}
use Rattle.format_buffer.specs.Elements.{range}
use Rattle.format_buffer.specs.declared.Scope.{Scope}
use Rattle.uses.specs.Meant.{asked_of, GoodSpan, OneField}
use Rattle.uses.specs.Scopes.{scope_at}
use Rattle.uses.specs.declared.Span.{Span}
use Rattle.uses.proofs.Fields.{format_of_field, size_at}
use Rattle.uses.proofs.SpanFields.{asked_one}
use Rattle.records.specs.Places.{IsRecord, CellOf}
use Rattle.records.proofs.Placed.{cell_numbers}
use Rattle.filling.specs.Filling.{Filling, together}
use Rattle.reading.specs.Cells.{Wants, converted_to, values_meant, wanted, wanted_at, CellHolds}
use Rattle.reading.specs.Spans.{FillsBy, scoped_items, ScopedValues}
use Rattle.reading.specs.declared.cells.Wanted.{Wanted}
use Rattle.reading.proofs.Items.{filled_together}
use Rattle.reading.proofs.SpanItems.{row_items, no_row, first_row, bounds}
use Rattle.tables.proofs.EntryFields.{name_at, at_coded}
use Rattle.tables.proofs.Known.{field_known}

map_run : {X Y : Type 0} (h : X → Y) (f : ℕ → X) (g : ℕ → Y) → ((k : ℕ) → h (f k) ≡ g k) → (i n : ℕ) → map h (run f i n) ≡ run g i n
unfolding run
map_run h f g e i zero = refl
map_run {Y = Y} h f g e i (suc n) = ap (λ (y : Y). y ∷ map h (run f (suc i) n)) (e i) ∙ ap (λ (ys : List Y). g i ∷ ys) (map_run h f g e (suc i) n)

-- The values of a field that are meant in an occurrence of a span, and the items of a row.
abbrev values_there : List Entry → Record → Span → Scope → Field → ℕ → Range
values_there es r s scope f i = resolved (scope_at scope) (range s.value_from s.value_upto) (value_count_at (parts es) r f.name i)

abbrev pub scoped_row : List Entry → Span → Scope → ℕ → Record → List Item
scoped_row es s scope o r = row_items (asked_of es s) (values_there es r s scope) false o

module _ (es : List Entry) (s : Span) (scope : Scope) (o : ℕ) where
  pub no_scoped : s.upto < o → (r : Record) → scoped_items es r s scope o ≡ []
  no_scoped h r = no_row (asked_of es s) (values_there es r s scope) false o s.upto h

  pub first_scoped : o ≤ s.upto → (r : Record) → scoped_items es r s scope o ≡ scoped_row es s scope o r ++ scoped_items es r s scope (o + 1)
  first_scoped h r = first_row (asked_of es s) (values_there es r s scope) false o s.upto h

module _ (t : Bytes) (v : Valid t) {s : Span} (h : GoodSpan (entries_of t) s) (alone : s.standard ≡ false) {scope : Scope} (scoped : ScopedValues (entries_of t) s scope) (o : ℕ) where
  abbrev es : List Entry
  es = entries_of t

  one : OneField es s
  one = h.alone alone

  known : s.first < length es
  known = omega (arith, h.ordered, h.upto)

  abbrev row : What
  row = (get_or es s.first blank).what

  own_is : (field_at es s.first).format ≡ format_at (coded (field_format row))
  own_is = format_of_field es s.first ∙ sym (at_coded (field_format row))

  abbrev asks : Asked
  asks = record { field = field_at es s.first; format = format_at s.format; size = s.size }

  abbrev wants : Wanted
  wants = wanted_at es s.first s.value_from s.value_upto scope s.format s.size

  abbrev values_of : Record → List Bytes
  values_of r = values_at (parts es) r (get_or es s.first blank).name o

  item_found : (r : Record) (k : ℕ) → item_bytes (parts es) r (item_at false asks o k) ≡ converted_to wants (get_or (values_of r) (pred k) (null (format_at (coded (field_format row))) (size_of row)))
  unfolding item_bytes value_at
  item_found r k = rw (own_is, size_at es s.first, name_at es s.first)

  -- As many are meant as the cell tells.
  meant_found : (r : Record) → values_there es r s scope (field_at es s.first) o ≡ values_meant wants (length (values_of r))
  unfolding value_count_at
  meant_found r = rw (name_at es s.first) refl

  items_found : (r : Record) → map (item_bytes (parts es) r) (scoped_row es s scope o r) ≡ wanted wants (values_of r)
  unfolding join
  items_found r =
      let m = values_meant wants (length (values_of r)) in
      ap (λ (fs : List Asked). map (item_bytes (parts es) r) (row_items fs (values_there es r s scope) false o)) (asked_one es s s.standard alone)
      ∙ ap (map (item_bytes (parts es) r)) (append-nil (field_items false (values_there es r s scope asks.field o) o asks))
      ∙ ap (λ (x : Range). map (item_bytes (parts es) r) (over x (item_at false asks o))) (meant_found r)
      ∙ map_run (item_bytes (parts es) r) _ _ (item_found r) m.from (suc m.upto - m.from)

  module _ {w : Wanted} (q : w ≡ wants) where
    pub column_wants : Wants w
    column_wants =
        let m = bounds s.value_from s.value_upto h.values in
        subst Wants (sym q) (record {
          standard = subst (λ (x : Rules.Format). allowed x (size_of row) ≡ true) (sym (at_coded (field_format row))) (field_known t v s.first known one.field);
          size = one.allowed;
          converts = subst (λ (x : Rules.Format). converts x (format_at s.format) ≡ true) own_is one.converts;
          first = m.0;
          ordered = m.1;
          last = m.2;
          scope = λ n. (scoped n).1;
        })

    -- The cell is found by the number of its entry.
    module _ {b : Bytes} {places : List ℕ} {i : ℕ} (e : i ≡ s.first) (cell : Option ℕ) (found : (r : Record) → IsRecord es b places r → CellOf es b i o r cell) where
      holds : (r : Record) → IsRecord es b places r → CellHolds b (format_at w.own) w.standard w.multiple (values_of r) cell
      holds r k =
          subst (λ (x : Wanted). CellHolds b (format_at x.own) x.standard x.multiple (values_of r) cell) (sym q)
          (held cell (subst (λ (j : ℕ). CellOf es b j o r cell) e (found r k)))
        where
          held : (c : Option ℕ) → CellOf es b s.first o r c → CellHolds b (format_at (coded (field_format row))) (size_of row) (is_multiple row) (values_of r) c
          held (Some p) x = (x.0, x.1, rw (at_coded (field_format row)) (sym (cell_numbers es s.first (drop p b) one.field) ∙ x.2))
          held None x = x

      pub column_holds : (r : Record) → IsRecord es b places r → (vs : List Bytes) × CellHolds b (format_at w.own) w.standard w.multiple vs cell
      column_holds r k = (_, holds r k)

      pub column_fills : {at : ℕ} (end : ℕ) {write : Bool} {out out' : Bytes} {m : (Result ℕ Refusal)}
          → ((vs : List Bytes) → CellHolds b (format_at w.own) w.standard w.multiple vs cell → Filling (together (end - at) (wanted w vs)) at write out out' m)
          → FillsBy es b places (scoped_row es s scope o) at end write out out' m
      column_fills {at} end {write} {out} {out'} {m} f r k = subst (λ (x : Outcome Bytes). Filling x at write out out' m)
          (ap (λ (x : Wanted). together (end - at) (wanted x (values_of r))) q
          ∙ sym (filled_together (parts es) r (scoped_row es s scope o r) (end - at) ∙ ap (together (end - at)) (items_found r)))
          (f (values_of r) (holds r k))
