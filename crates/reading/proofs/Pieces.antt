-- A row of fields as they are stored is put in one piece: each field has one value, converted to its own format and length it is itself, and they stand one after the other.
use Rattle.std.specs.Prelude.{Result, Some}
use Rattle.rules.specs.declared.Refusal.{Refusal}
use mathlib.Core.Path.{◌≡◌, refl, sym, ◌∙◌, ap, subst}
use mathlib.Core.Bool.{Bool, true, false, false≢true}
use mathlib.Core.List.{List, [], ◌∷◌, ◌++◌, map, map-map, append-nil}
use Prim.Native.Nat.{ℕ, zero, suc, ◌+◌, ◌-◌, ◌≤◌, ◌<◌}
use native.Mathlib.Omega.{arith}
use lib.ListN.{length, take, drop, get_or}
use lib.Seq.{slice}
use Rattle.rules.specs.Outcome.{Outcome, done}
use Rattle.rules.specs.Lists.{Bytes, all, join, filter, run}
use Rattle.rules.specs.Values.{converted_bytes, read_value, content}
use Rattle.rules.proofs.Lengths.{read_done}
use Rattle.rules.specs.Table.{What, field, group, Entry, Field, parts}
use Rattle.rules.specs.Record.{Record, stored_cell, stored_value, values_at, value_at}
use Rattle.rules.specs.Use.{Asked, plain, as_stored}
use Rattle.rules.specs.Services.{item_bytes, filled}
use Rattle.rules.proofs.Ranges.{one_field}
use Rattle.rules.proofs.Steps.{by_test}
use Rattle.buffer.proofs.Cases.{by_order}
use Rattle.values.proofs.Meant.{converted_itself}
use Rattle.tables.specs.Entries.{blank, is_group, is_multiple}
use Rattle.tables.specs.Groups.{field_at, fields_in}
use Rattle.tables.specs.Places.{Home}
use Rattle.format_buffer.specs.Elements.{range}
use Rattle.uses.specs.Meant.{fields_from, GoodSpan}
use Rattle.uses.specs.declared.Span.{Span}
use Rattle.uses.proofs.Fields.{multiple_at}
use Rattle.uses.proofs.SpanFields.{field_entry, group_entry}
use Rattle.records.specs.Paths.{Wide, Leads}
use Rattle.records.specs.Places.{IsRecord, values_of, Celled, PieceOf}
use Rattle.records.specs.declared.paths.Path.{Path}
use Rattle.records.proofs.Cells.{counted_once, value_first}
use Rattle.records.proofs.Ends.{slice_run}
use Rattle.filling.specs.Filling.{in_room, Filling, together}
use Rattle.reading.specs.Spans.{Fills, Way, occurrence_items}
use Rattle.reading.proofs.Items.{filled_together}
use Rattle.filling.proofs.Together.{together_done}
use Rattle.reading.proofs.SpanItems.{stored_items, row_once, each_field}
use Rattle.tables.proofs.EntryFields.{name_at}

multiple_group : (w : What) → is_group w ≡ true → is_multiple w ≡ false
multiple_group (field f s m) e = absurd (false≢true e)
multiple_group (group p) e = refl

module _ (es : List Entry) where
  -- The fields of a span are those among its entries.
  pub same_fields : (j end : ℕ) → j ≤ end → fields_from es j end ≡ fields_in (slice j end es)
  unfolding fields_from
  same_fields j end l = let z : j + (end - j) ≡ end = omega arith in ap fields_in (sym (slice_run j (end - j) es) ∙ ap (λ (k : ℕ). slice j k es) z)

  -- None of the entries is MU where none of their fields is.
  one_single : (a : Asked) (more : List Asked) → filter (λ (x : Asked). x.field.multiple) (a ∷ more) ≡ []
      → (a.field.multiple ≡ false) × (filter (λ (x : Asked). x.field.multiple) more ≡ [])
  unfolding filter
  one_single a more h = by_test a.field.multiple (λ t. absurd (not_nil (rw (t, filter) at h))) (λ t. (t, rw (t, filter) at h))
    where
      not_nil : {x : Asked} {xs : List Asked} → ◌≡◌ {A = List Asked} (x ∷ xs) [] → ⊥
      not_nil p = let z : ◌≡◌ {A = ℕ} 0 1 = cc in omega arith

  pub none_multiple : (n j end : ℕ) → j + n ≡ end → end ≤ length es → filter (λ (x : Asked). x.field.multiple) (map as_stored (fields_from es j end)) ≡ []
      → (k : ℕ) → j ≤ k → k < end → is_multiple (get_or es k blank).what ≡ false
  unfolding as_stored
  none_multiple zero j end e l h k low high = absurd (omega arith)
  none_multiple (suc n) j end e l h k low high =
      let less : j < end = omega arith in
      let left : is_multiple (get_or es j blank).what ≡ false → filter (λ (x : Asked). x.field.multiple) (map as_stored (fields_from es (j + 1) end)) ≡ [] → is_multiple (get_or es k blank).what ≡ false
      = λ q r. by_order j k
      (λ o. none_multiple n (j + 1) end (omega arith) l r k (omega arith) high)
      (λ o. let z : k ≡ j = omega arith in rw z q) in
      by_test (is_group (get_or es j blank).what)
      (λ g. left (multiple_group (get_or es j blank).what g) (rw (group_entry es j end less l g) at h))
      (λ g. let x = one_single (as_stored (field_at es j)) (map as_stored (fields_from es (j + 1) end)) (rw (field_entry es j end less l g) at h) in
      left (sym (multiple_at es j) ∙ x.0) x.1)

-- A field that has one value, at its own format and length: its item is that value.
module _ (es : List Entry) (r : Record) (o : ℕ) where
  abbrev value_of : Field → Bytes
  value_of f = join (values_at (parts es) r f.name o)

  own_item : (f : Field) (bs rest : Bytes) → f.multiple ≡ false → stored_cell f bs ≡ done (values_at (parts es) r f.name o, rest)
      → map (item_bytes (parts es) r) (stored_items o (f ∷ [])) ≡ done (value_of f) ∷ []
  unfolding stored_cell item_bytes value_at as_stored run join
  own_item f bs rest m h =
      counted_once (stored_value f.format f.size) bs (rw m at h) λ v e q.
      value_first f.format f.size bs q λ c g k l i s.
      let w : read_value f.format f.format f.size (content f.size v) ≡ done v =
      read_done f.format f.format f.size (content f.size v) (ap (converted_bytes f.format f.format f.size) i ∙ converted_itself f.format f.size c k ∙ ap done (sym l)) in
      ap (map (item_bytes (parts es) r)) (one_field o (range 1 1) false (as_stored f)) ∙ rw (e, w, append-nil v) refl

  values_joined : (fs : List Field) → join (map value_of fs) ≡ values_of es r o fs
  unfolding join values_of
  values_joined [] = refl
  values_joined (f ∷ fs) = ap (λ (bs : Bytes). value_of f ++ bs) (values_joined fs)

  pub row_filled : (first end : ℕ) → first ≤ end → end ≤ length es → ((k : ℕ) → first ≤ k → k < end → is_multiple (get_or es k blank).what ≡ false) → Celled es first end o r → (room : ℕ)
      → filled (parts es) r room (stored_items o (fields_from es first end)) ≡ in_room room (done (values_of es r o (fields_in (slice first end es))))
  row_filled first end h l single cells room =
      let fs = fields_from es first end in
      filled_together (parts es) r (stored_items o fs) room
      ∙ ap (together room) (each_field es o (item_bytes (parts es) r) (λ (f : Field). done (value_of f)) (end - first) first end (omega arith) l λ k low high g.
      let c = cells k low high g in
      own_item (field_at es k) c.0 c.1 (multiple_at es k ∙ single k low high) (subst (λ (m : ℕ). stored_cell (field_at es k) c.0 ≡ done (values_at (parts es) r m o, c.1)) (sym (name_at es k)) c.2))
      ∙ ap (together room) (sym (map-map done value_of fs))
      ∙ together_done (map value_of fs) room
      ∙ ap (λ (bs : Bytes). in_room room (done bs)) (values_joined fs ∙ ap (values_of es r o) (same_fields es first end h))

module _ (es : List Entry) (b : Bytes) (places : List ℕ) (s : Span) (held : GoodSpan es s) (standard : s.standard ≡ true) (o : ℕ) where
  pub row_single : (k : ℕ) → s.first ≤ k → k < s.end → is_multiple (get_or es k blank).what ≡ false
  row_single = none_multiple es (s.end - s.first) s.first s.end (omega (arith, held.ordered)) held.upto (held.single standard)

  -- What is found in one piece is put so.
  module _ (from upto : ℕ) (found : (r : Record) → IsRecord es b places r → PieceOf es b s.first s.end o r (Some (from, upto))) where
    pub row_put : (at end : ℕ) (write : Bool) {out out' : Bytes} {m : (Result ℕ Refusal)} → Filling (in_room (end - at) (done (take (upto - from) (drop from b)))) at write out out' m
        → Fills es b places (occurrence_items es s o) at end write out out' m
    row_put at end write {out} {out'} {m} f r h =
        let p = found r h in
        subst (λ (x : Outcome Bytes). Filling x at write out out' m)
        (ap (λ (bs : Bytes). in_room (end - at) (done bs)) p.2
        ∙ sym (ap (filled (parts es) r (end - at)) (row_once es s held standard o)
        ∙ row_filled es r o s.first s.end (omega (arith, held.ordered)) held.upto row_single p.3 (end - at)))
        f

-- The way to a span.
pub way : (es : List Entry) (s : Span) → GoodSpan es s → s.standard ≡ true → (path : Path) (width : ℕ) → path.entry ≡ s.first → Leads es path
    → (all plain (fields_in (slice s.first s.end es)) ≡ true → Wide (fields_in (slice s.first s.end es)) width) → Way es s path width
way es s held standard path width e leads wide = record {
  entry = e;
  leads = leads;
  wide = λ i. wide (ap (all plain) (sym (same_fields es s.first s.end (omega (arith, held.ordered))))
      ∙ (held.one_group standard path.group (subst (λ (j : ℕ). Home es j path.group) e (leads.home i))).1);
}
