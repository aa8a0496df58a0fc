-- Occurrences of a span that stand one after the other are put in one piece: each fills the buffer by its bytes, and so do all by theirs together.
use Rattle.std.specs.Prelude.{Err, Ok, Result}
use mathlib.Core.Path.{◌≡◌, refl, sym, ◌∙◌, ap, subst}
use mathlib.Core.Bool.{Bool, true, false}
use mathlib.Core.List.{List, [], ◌++◌, map, append_assoc}
use Prim.Native.Nat.{ℕ, zero, suc, ◌+◌, ◌*◌, ◌-◌, ◌≤◌, ◌<◌, min}
use native.Mathlib.Numerals.{add-one}
use native.Mathlib.Omega.{arith}
use lib.Dec.{leb}
use lib.ListN.{length, take, drop, get_or}
use lib.Seq.{slice}
use Rattle.rules.specs.Outcome.{Outcome, done}
use Rattle.rules.specs.Lists.{Bytes, join, run}
use Rattle.rules.specs.Table.{group, Entry, Field, parts}
use Rattle.rules.specs.Record.{Record, group_count_at}
use Rattle.rules.specs.Use.{Item}
use Rattle.rules.specs.Services.{filled}
use Rattle.rules.specs.declared.Refusal.{Refusal}
use Rattle.rules.proofs.Ranges.{first_occurrence, no_occurrence, filled_append}
use Rattle.rules.proofs.Steps.{by_test}
use Rattle.format_buffer.specs.Elements.{range}
use Rattle.uses.specs.Meant.{asked_of, GoodSpan}
use Rattle.uses.specs.declared.Span.{Span}
use Rattle.tables.specs.Entries.{blank}
use Rattle.tables.specs.Groups.{group_end, fields_in}
use Rattle.records.specs.Paths.{Wide, Leads}
use Rattle.records.specs.Places.{IsRecord, HasRecord, values_of, Celled, OccurrencesOf}
use Rattle.records.specs.declared.paths.Path.{Path}
use Rattle.filling.specs.Filling.{in_room, Filling, together}
use Rattle.reading.specs.Spans.{Fills, occurrence_items, span_items, occurrences_items, Whole, Adjacent}
use Rattle.reading.proofs.Running.{Running, run_start, run_on, run_off}
use Rattle.filling.proofs.Together.{together_done}
use Rattle.reading.proofs.SpanItems.{bounds, row_once}
use Rattle.reading.proofs.Pieces.{row_single, row_filled}

module _ (es : List Entry) (s : Span) where
  pub rows_first : (o last : ℕ) → o ≤ last → occurrences_items es s o last ≡ occurrence_items es s o ++ occurrences_items es s (o + 1) last
  rows_first o last h = first_occurrence (asked_of es s) (range s.value_from s.value_upto) false o last h

  pub rows_none : (o last : ℕ) → last < o → occurrences_items es s o last ≡ []
  rows_none o last h = no_occurrence (asked_of es s) (range s.value_from s.value_upto) false o last h

  -- Those of the first n occurrences, and those after them.
  rows_split : (n o : ℕ) → 1 ≤ o → o + n ≤ s.upto + 1 → span_items es s o ≡ occurrences_items es s o (o + n - 1) ++ span_items es s (o + n)
  rows_split zero o some h =
      let z : o + 0 ≡ o = omega arith in
      rw (z, rows_none o (o - 1) (omega arith)) refl
  rows_split (suc n) o some h =
      let z : o + 1 + n ≡ o + suc n = omega arith in
      rows_first o s.upto (omega arith)
      ∙ ap (λ (xs : List Item). occurrence_items es s o ++ xs) (rows_split n (o + 1) (omega arith) (omega arith))
      ∙ sym (append_assoc (occurrence_items es s o) (occurrences_items es s (o + 1) (o + 1 + n - 1)) (span_items es s (o + 1 + n)))
      ∙ rw (z, rows_first o (o + suc n - 1) (omega arith)) refl

whole_fields : {es : List Entry} {b : Bytes} {places : List ℕ} {s : Span} {path : Path} {n : ℕ} → Whole es b places s path n
    → fields_in (slice (path.group + 1) (group_end es path.group) es) ≡ fields_in (slice s.first s.end es)
whole_fields whole = rw (whole.first, whole.end) refl

module _ (es : List Entry) (b : Bytes) (places : List ℕ) (s : Span) (held : GoodSpan es s) (standard : s.standard ≡ true) where
  abbrev row_bytes : Record → ℕ → Bytes
  row_bytes r k = values_of es r k (fields_in (slice s.first s.end es))

  one_filled : (r : Record) (o : ℕ) → Celled es s.first s.end o r → (room : ℕ) → filled (parts es) r room (occurrence_items es s o) ≡ in_room room (done (row_bytes r o))
  one_filled r o cells room =
      ap (filled (parts es) r room) (row_once es s held standard o)
      ∙ row_filled es r o s.first s.end (omega (arith, held.ordered)) held.upto (row_single es b places s held standard o) cells room

  rows_filled : (r : Record) (n o : ℕ) → 1 ≤ o → ((k : ℕ) → o ≤ k → k < o + n → Celled es s.first s.end k r) → (room : ℕ)
      → filled (parts es) r room (occurrences_items es s o (o + n - 1)) ≡ together room (map done (run (row_bytes r) o n))
  unfolding together in_room run filled
  rows_filled r zero o some cells room = ap (filled (parts es) r room) (rows_none es s o (o + 0 - 1) (omega arith))
  rows_filled r (suc n) o some cells room =
      let u = row_bytes r o in
      let z : o + suc n - 1 ≡ suc o + n - 1 = omega arith in
      let rest = rows_filled r n (suc o) (omega arith) (λ k low high. cells k (omega arith) (omega arith)) in
      ap (filled (parts es) r room) (rows_first es s o (o + suc n - 1) (omega arith))
      ∙ filled_append (parts es) r (occurrence_items es s o) (occurrences_items es s (o + 1) (o + suc n - 1)) room
      ∙ by_test (leb (length u) room)
      (λ t. rw (one_filled r o (cells o (omega arith) (omega arith)) room, t, z, add-one o, rest (room - length u)) refl)
      (λ t. rw (one_filled r o (cells o (omega arith) (omega arith)) room, t) refl)

  -- What is found in one piece is put so.
  module _ {path : Path} {n : ℕ} (some : 1 ≤ s.from) (whole : Whole es b places s path n) (width from : ℕ)
      (found : (r : Record) → IsRecord es b places r → OccurrencesOf es b path.group s.from n width r from) where
    pub rows_put : (upto : ℕ) → upto ≡ from + n * width → (at end : ℕ) (write : Bool) {out out' : Bytes} {m : (Result ℕ Refusal)}
        → Filling (in_room (end - at) (done (take (upto - from) (drop from b)))) at write out out' m → Fills es b places (occurrences_items es s s.from (s.from + n - 1)) at end write out out' m
    rows_put upto u at end write {out} {out'} {m} f r h =
        let x = found r h in
        let z : upto - from ≡ n * width = omega (arith, u) in
        let bytes = ap (λ (k : ℕ). take k (drop from b)) z ∙ x.bytes ∙ ap (λ (fs : List Field). join (run (λ (k : ℕ). values_of es r k fs) s.from n)) (whole_fields whole) in
        let cells : (k : ℕ) → s.from ≤ k → k < s.from + n → Celled es s.first s.end k r = λ k low high. rw (whole.first, whole.end) (x.cells k low high) in
        subst (λ (o : Outcome Bytes). Filling o at write out out' m)
        (ap (λ (bs : Bytes). in_room (end - at) (done bs)) bytes
        ∙ sym (rows_filled r n s.from some cells (end - at) ∙ together_done (run (row_bytes r) s.from n) (end - at)))
        f

-- The periodic group in which a span's first entry lies.
pub group_of : {es : List Entry} {s : Span} → GoodSpan es s → {path : Path} → path.entry ≡ s.first → Leads es path → path.inside ≡ true
    → (path.group < length es) × ((get_or es path.group blank).what ≡ group true)
group_of held e leads inside = let home = leads.home inside in (omega (arith, home.upto, e, held.ordered, held.upto), home.periodic)

-- The width of the whole group is the span's.
pub whole_width : {es : List Entry} {b : Bytes} {places : List ℕ} {s : Span} {path : Path} {n w : ℕ} → Whole es b places s path n → Wide (fields_in (slice s.first s.end es)) w
    → Wide (fields_in (slice (path.group + 1) (group_end es path.group) es)) w
whole_width {es} {b} {places} {s} {path} {n} {w} whole wide = subst (λ (fs : List Field). Wide fs w) (sym (whole_fields whole)) wide

-- None of the occurrences stand together, or those that exist do.
module _ {es : List Entry} (b : Bytes) (places : List ℕ) {s : Span} (held : GoodSpan es s) (path : Path) where
  pub adjacent_none : Adjacent es b places s path 0
  adjacent_none = let u = bounds s.from s.upto held.occurrences in record { upto = omega (arith, u.1); whole = λ some. absurd (omega arith) }

  pub adjacent_some : (count : ℕ) → ((r : Record) → IsRecord es b places r → count ≡ group_count_at (parts es) r (get_or es path.group blank).name)
      → path.inside ≡ true → s.first ≡ path.group + 1 → s.end ≡ group_end es path.group → Adjacent es b places s path (min count s.upto + 1 - s.from)
  adjacent_some count counted inside first end =
      let u = bounds s.from s.upto held.occurrences in
      record {
        upto = omega (arith, u.1);
        whole = λ some. record { inside = inside; first = first; end = end; exist = λ r h. omega (arith, counted r h) };
      }

-- A span whose first n occurrences are put.
module _ {es : List Entry} {b : Bytes} {places : List ℕ} {s : Span} (held : GoodSpan es s) (n : ℕ) (fit : s.from + n ≤ s.upto + 1)
    {at end : ℕ} {write : Bool} {out out' : Bytes} {m : (Result ℕ Refusal)} (holds : HasRecord es b places) (h : at ≤ end) (l : end ≤ length out)
    (f : Fills es b places (occurrences_items es s s.from (s.from + n - 1)) at end write out out' m) where
  start : Running es b places end (λ r. span_items es s s.from) (λ r. span_items es s s.from) at at write out out
  start = run_start es b places end (λ r. span_items es s s.from) at write out holds h l

  split : span_items es s s.from ≡ occurrences_items es s s.from (s.from + n - 1) ++ span_items es s (s.from + n)
  split = rows_split es s n s.from (bounds s.from s.upto held.occurrences).0 fit

  pub rows_begun : (p : ℕ) → m ≡ Ok p → Running es b places end (λ r. span_items es s s.from) (λ r. span_items es s (s.from + n)) at p write out out'
  rows_begun p q = run_on start (λ r. occurrences_items es s s.from (s.from + n - 1)) (λ r. span_items es s (s.from + n)) (λ r. split) f p q

  pub rows_refused : (k : Refusal) → m ≡ Err k → Fills es b places (span_items es s s.from) at end write out out' (Err k)
  rows_refused k q = run_off start (λ r. occurrences_items es s s.from (s.from + n - 1)) (λ r. span_items es s (s.from + n)) (λ r. split) f k q
