-- What is put of an element, by what its items are; those of N are told by the record.
use Rattle.std.specs.Prelude.{Ok, Result}
use Rattle.rules.specs.declared.Refusal.{Refusal}
use mathlib.Core.Path.{◌≡◌, refl, sym, ◌∙◌, ap, subst}
use mathlib.Core.Bool.{Bool, true, false}
use mathlib.Core.List.{List, [], ◌∷◌}
use Prim.Native.Nat.{ℕ, ◌-◌, ◌≤◌, ◌<◌}
use lib.ListN.{length, take, drop, get_or, replicate}
use Rattle.rules.specs.Outcome.{Outcome, done}
use Rattle.rules.specs.Lists.{Bytes}
use Rattle.rules.specs.Characters.{space}
use Rattle.rules.specs.Format.{Range}
use Rattle.rules.specs.Table.{Entry, Field, parts}
use Rattle.rules.specs.Record.{Record, group_count_at, value_count_at}
use Rattle.rules.specs.Use.{Item, blanks_item, text_item, group_count, Asked, items_over}
use Rattle.rules.specs.Last.{resolved, counts_in, item_resolved, use_resolved}
use Rattle.rules.specs.Services.{item_bytes, filled}
use Rattle.tables.specs.Entries.{blank}
use Rattle.format_buffer.specs.Part.{part}
use Rattle.format_buffer.specs.Elements.{range}
use Rattle.format_buffer.specs.declared.Scope.{Scope}
use Rattle.uses.specs.Meant.{asked_by, asked_of}
use Rattle.uses.specs.Scopes.{scope_at}
use Rattle.uses.specs.Meanings.{SpanScoped}
use Rattle.uses.specs.declared.scopes.Scopes.{Scopes}
use Rattle.uses.specs.declared.Span.{Span}
use Rattle.uses.specs.declared.Use.{Use}
use Rattle.uses.specs.declared.Use.TheVariants.{Blanks, Text, GroupCount, ValueCount, Values}
use Rattle.records.specs.Places.{IsRecord, HasRecord}
use Rattle.filling.specs.Filling.{in_room, Filling}
use Rattle.reading.specs.Spans.{FillsBy, with_rows, scoped_items, ScopedValues, OccurrenceMeant, MeantSpan}
use Rattle.reading.specs.Scan.{meaning_items}
use Rattle.reading.proofs.Running.{filled_one, fills_none}
use Rattle.reading.proofs.SpanItems.{no_row}
use Rattle.reading.proofs.Unbare.{filled_bare}

-- One item, by its bytes.
single : (es : List Entry) (b : Bytes) (places : List ℕ) (at end : ℕ) (write : Bool) {out out' : Bytes} {m : (Result ℕ Refusal)} (x : Record → Item) (o : Outcome Bytes)
    → ((r : Record) → IsRecord es b places r → item_bytes (parts es) r (x r) ≡ o) → Filling (in_room (end - at) o) at write out out' m
    → FillsBy es b places (λ r. x r ∷ []) at end write out out' m
single es b places at end write {out} {out'} {m} x o e g r h =
    subst (λ (z : Outcome Bytes). Filling z at write out out' m) (sym (filled_one (parts es) r (end - at) (x r) ∙ ap (in_room (end - at)) (e r h))) g

-- The items of a span with other occurrences.
rows_asked : (es : List Entry) (s : Span) (from upto : ℕ) (c : Bool) → asked_by es c (with_rows s from upto) ≡ asked_by es c s
rows_asked es s from upto true = refl
rows_asked es s from upto false = refl

module _ (es : List Entry) (s : Span) (scope : Scope) (r : Record) where
  -- The values that are meant of a field in an occurrence.
  abbrev values_meant : Field → ℕ → Range
  values_meant f i = resolved (scope_at scope) (range s.value_from s.value_upto) (value_count_at (parts es) r f.name i)

  rows_items : (from upto : ℕ) → scoped_items es r (with_rows s from upto) scope from ≡ items_over (asked_of es s) (range from upto) values_meant false
  rows_items from upto = ap (λ (fs : List Asked). items_over fs (range from upto) values_meant false) (rows_asked es s from upto s.standard)

  meant_items : (s' : Span) → s' ≡ with_rows s s'.from s'.upto → scoped_items es r s' scope s'.from ≡ items_over (asked_of es s) (range s'.from s'.upto) values_meant false
  meant_items s' e = ap (λ (z : Span). scoped_items es r z scope s'.from) e ∙ rows_items s'.from s'.upto

pub rows_scoped : {es : List Entry} {b : Bytes} {places : List ℕ} {s s' : Span} {scope : Scope} (x : Scopes) → MeantSpan es b places s scope s' → SpanScoped es s x → ScopedValues es s' x.values
rows_scoped {es} x q h = subst (λ (z : Span). ScopedValues es z x.values) (sym q.same) h.values

-- An element that is known by an equation.
module _ (es : List Entry) (b : Bytes) (places : List ℕ) (f : Bytes) (x : Scopes) (at end : ℕ) (write : Bool) where
  abbrev Put : Bytes → Bytes → Result ℕ Refusal → Use → Type 0
  Put out out' m u = FillsBy es b places (meaning_items es f u x) at end write out out' m

  -- The items of a span in a record, with the occurrences that are meant.
  items_meant : (s s' : Span) → MeantSpan es b places s x.occurrences s' → (r : Record) → IsRecord es b places r
      → filled (parts es) r (end - at) (meaning_items es f (Values s) x r) ≡ filled (parts es) r (end - at) (items_over (asked_of es s) (range s'.from s'.upto) (values_meant es s x.values r) false)
  unfolding use_resolved counts_in
  items_meant s s' q r h =
      ap (λ (y : Range). filled (parts es) r (end - at) (items_over (asked_of es s) y (values_meant es s x.values r) s.bare)) (sym (q.meant r h))
      ∙ filled_bare (parts es) r (end - at) (asked_of es s) (range s'.from s'.upto) (values_meant es s x.values r) s.bare

  module _ {out out' : Bytes} {m : (Result ℕ Refusal)} where
    meant : {u : Use} (u' : Use) → u ≡ u' → Put out out' m u' → Put out out' m u
    meant {u} u' e = subst (Put out out' m) (sym e)

    pub use_blanks : {u : Use} {n : ℕ} → u ≡ Blanks n → Filling (in_room (end - at) (done (replicate n space))) at write out out' m → Put out out' m u
    unfolding use_resolved item_resolved item_bytes
    use_blanks {n = n} e g = meant (Blanks n) e (single es b places at end write (λ r. blanks_item n) _ (λ r h. refl) g)

    pub use_text : {u : Use} {from upto : ℕ} → u ≡ Text from upto → Filling (in_room (end - at) (done (take (upto - from) (drop from f)))) at write out out' m → Put out out' m u
    unfolding use_resolved item_resolved item_bytes part
    use_text {from = from} {upto} e g = meant (Text from upto) e (single es b places at end write (λ r. text_item (part f from upto)) _ (λ r h. refl) g)

    pub use_group_count : {u : Use} {i n : ℕ} → u ≡ GroupCount i → ((r : Record) → IsRecord es b places r → n ≡ group_count_at (parts es) r (get_or es i blank).name)
        → Filling (in_room (end - at) (done (n ∷ []))) at write out out' m → Put out out' m u
    unfolding use_resolved item_resolved item_bytes
    use_group_count {i = i} {n} e c g = meant (GroupCount i) e (single es b places at end write (λ r. group_count (get_or es i blank).name) _ (λ r h. ap (λ (k : ℕ). done (k ∷ [])) (sym (c r h))) g)

    pub use_value_count : {u : Use} {i k o n : ℕ} → u ≡ ValueCount i k → OccurrenceMeant es b places i k x.occurrences o
        → ((r : Record) → IsRecord es b places r → n ≡ value_count_at (parts es) r (get_or es i blank).name o) → Filling (in_room (end - at) (done (n ∷ []))) at write out out' m → Put out out' m u
    unfolding use_resolved item_resolved item_bytes counts_in
    use_value_count {i = i} {k} {o} {n} e q c g = meant (ValueCount i k) e
        (single es b places at end write _ _
        (λ r h. ap (λ (j : ℕ). done (j ∷ [])) (ap (value_count_at (parts es) r (get_or es i blank).name) (sym (q.meant r h)) ∙ sym (c r h))) g)

    -- A span, with the occurrences that are meant.
    module _ {u : Use} {s : Span} (e : u ≡ Values s) {s' : Span} (q : MeantSpan es b places s x.occurrences s') where
      as_items : ((r : Record) → IsRecord es b places r → Filling (filled (parts es) r (end - at) (items_over (asked_of es s) (range s'.from s'.upto) (values_meant es s x.values r) false)) at write out out' m)
          → Put out out' m u
      as_items g = meant (Values s) e (λ r h. subst (λ (z : Outcome Bytes). Filling z at write out out' m) (sym (items_meant s s' q r h)) (g r h))

      pub use_span : FillsBy es b places (λ r. scoped_items es r s' x.values s'.from) at end write out out' m → Put out out' m u
      use_span g = as_items (λ r h. subst (λ (z : List Item). Filling (filled (parts es) r (end - at) z) at write out out' m) (meant_items es s x.values r s' q.same) (g r h))

  -- A span of which no occurrence is meant.
  pub use_nothing : {out : Bytes} {u : Use} {s : Span} → u ≡ Values s → {s' : Span} → MeantSpan es b places s x.occurrences s' → s'.upto < s'.from
      → HasRecord es b places → at ≤ end → end ≤ length out → Put out out (Ok at) u
  use_nothing {s = s} e {s'} q l k low room = as_items e q
      (λ r h. fills_none es b places (no_row (asked_of es s) (values_meant es s x.values r) false s'.from s'.upto l) at end write k low room r h)
