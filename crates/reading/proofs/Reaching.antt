-- How far indexes reach, by what is stored: as they are written the items stay, and the occurrences up to the last are those of the one periodic group in which the entries of a span lie.
use Rattle.std.specs.Prelude.{Result}
use Rattle.rules.specs.declared.Refusal.{Refusal}
use mathlib.Core.Path.{◌≡◌, refl, sym, ◌∙◌, ap}
use mathlib.Core.Bool.{Bool, true, false, true≢false, false≢true}
use mathlib.Core.List.{List, ◌∷◌, map}
use Prim.Native.Nat.{ℕ, zero, suc, ◌+◌, ◌-◌, ◌≤◌, ◌<◌}
use native.Mathlib.Numerals.{add-one}
use native.Mathlib.Omega.{arith}
use lib.ListN.{length, get_or, drop, length-drop}
use Rattle.rules.specs.Limits.{highest_index}
use Rattle.rules.specs.Lists.{Bytes}
use Rattle.rules.specs.Table.{Entry, Field, parts, part_holding}
use Rattle.rules.specs.Format.{Range}
use Rattle.rules.specs.Record.{Record, group_count_at}
use Rattle.rules.specs.Use.{as_stored, in_order, value_items, just}
use Rattle.rules.specs.Last.{resolved, counts_in, occurrences_stored}
use Rattle.rules.proofs.Steps.{by_test}
use Rattle.tables.specs.Entries.{Valid, entries_of, blank, is_group, is_multiple}
use Rattle.tables.specs.Places.{inside_at, Home}
use Rattle.tables.specs.Groups.{run_below, group_end, field_at}
use Rattle.tables.proofs.Climbs.{homed}
use Rattle.tables.proofs.EntryFields.{name_at}
use Rattle.tables.proofs.Known.{member_next}
use Rattle.tables.proofs.Nesting.{run_more, run_short, members_inside}
use Rattle.tables.proofs.Tables.{valid_levels, valid_names, valid_sound}
use Rattle.records.proofs.Holding.{holding}
use Rattle.records.proofs.Placed.{multiple_field}
use Rattle.format_buffer.specs.Elements.{range}
use Rattle.format_buffer.specs.declared.Scope.{Scope}
use Rattle.format_buffer.specs.declared.Scope.TheVariants.{AsWritten, LastAlone, UpToLast}
use Rattle.uses.specs.Meant.{fields_from, asked_of, GoodSpan}
use Rattle.uses.specs.Scopes.{scope_at}
use Rattle.uses.specs.declared.Span.{Span}
use Rattle.uses.proofs.SpanFields.{asked_one, asked_stored, field_entry, group_entry}
use Rattle.reading.specs.Spans.{Fills, FillsBy, with_rows, span_items, scoped_items, ScopedValues, StoredCount, OccurrenceMeant, MeantSpan}
use Rattle.reading.proofs.SpanItems.{in_bounds}

-- The values of fields as they are stored are as written, whatever is stored.
pub fills_written : {es : List Entry} {b : Bytes} {places : List ℕ} (s : Span) (scope : Scope) (at end : ℕ) {write : Bool} {out out' : Bytes} {n : (Result ℕ Refusal)} → ScopedValues es s scope → s.standard ≡ true
    → Fills es b places (span_items es s s.from) at end write out out' n → FillsBy es b places (λ r. scoped_items es r s scope s.from) at end write out out' n
unfolding value_items
fills_written s AsWritten at end h standard f = f
fills_written s LastAlone at end h standard f = absurd (true≢false (sym standard ∙ (h λ e. cc).0))
fills_written s UpToLast at end h standard f = absurd (true≢false (sym standard ∙ (h λ e. cc).0))

-- With N, indexes begin at 1 or above, and end within their bound where the number of the stored ones does.
with_last : (scope : Scope) → (scope ≡ AsWritten → ⊥) → (x : Range) (n : ℕ) → n ≤ highest_index
    → (1 ≤ (resolved (scope_at scope) x n).from) × ((resolved (scope_at scope) x n).upto ≤ highest_index)
with_last AsWritten d x n h = absurd (d refl)
with_last LastAlone d x n h = (omega arith, omega arith)
with_last UpToLast d x n h = (omega arith, h)

-- The last one, N.
last_from : (scope : Scope) → (scope ≡ AsWritten → ⊥) → (scope ≡ UpToLast → ⊥) → (x : Range) (n : ℕ) → 1 ≤ (resolved (scope_at scope) x n).upto
last_from AsWritten d last x n = absurd (d refl)
last_from LastAlone d last x n = omega arith
last_from UpToLast d last x n = absurd (last refl)

-- The first field among the entries from one on.
record FirstField (es : List Entry) (k end : ℕ) : Type 0 where
  entry : ℕ
  low : k ≤ entry
  high : entry < end
  field : is_group (get_or es entry blank).what ≡ false
  others : List Field
  is : fields_from es k end ≡ field_at es entry ∷ others

first_later : (es : List Entry) (k end : ℕ) → k < end → end ≤ length es → is_group (get_or es k blank).what ≡ true → FirstField es (k + 1) end → FirstField es k end
first_later es k end h l g x =
    record { entry = x.entry; low = omega (arith, x.low); high = x.high; field = x.field; others = x.others; is = group_entry es k end h l g ∙ x.is }

module _ (t : Bytes) (v : Valid t) where
  abbrev es : List Entry
  es = entries_of t

  -- Among those that are deeper than a level there is one, since a group is followed by what is deeper still.
  first_from : (l end n k : ℕ) → k + n ≡ length es → k < length es → l < (get_or es k blank).level → k + run_below l (drop k es) ≡ end → FirstField es k end
  first_from l end zero k e less deep q = absurd (omega arith)
  first_from l end (suc n) k e less deep q =
      let more = run_more es l k less deep in
      let here : k < end = omega arith in
      let most : end ≤ length es = omega (arith, run_short l (drop k es), length-drop k es) in
      by_test (is_group (get_or es k blank).what)
      (λ g.
      let m = member_next t v k less g in
      first_later es k end here most g (first_from l end n (k + 1) (omega arith) (omega (arith, m.0)) (rw (add-one k) (omega (arith, m.1))) (omega arith)))
      (λ g. record { entry = k; low = omega arith; high = here; field = g; others = fields_from es (k + 1) end; is = field_entry es k end here most g })

  -- A span whose first entry lies in the periodic group that entry g is.
  module _ (s : Span) (held : GoodSpan es s) (g : ℕ) (home : Home es s.first g) where
    first_within : s.first < group_end es g
    unfolding group_end
    first_within = rw home.level (omega (arith, home.within))

    all_within : s.end ≤ group_end es g
    all_within = by_test s.standard (λ e. (held.one_group e g home).0) (λ e. omega (arith, (held.alone e).next, first_within))

    span_home : (j : ℕ) → s.first ≤ j → j < s.end → Home es j g
    unfolding group_end
    span_home j low high =
        let inside = members_inside es (valid_sound t v) g (omega (arith, home.level)) in
        record {
          upto = omega (arith, home.upto);
          level = home.level;
          periodic = home.periodic;
          within = let z = rw home.level at all_within in omega arith;
          inside = inside j (omega (arith, home.upto)) (omega (arith, all_within)) ∙ sym (inside s.first home.upto first_within) ∙ home.inside;
        }

    span_first : s.standard ≡ true → FirstField es s.first s.end
    unfolding group_end
    span_first standard =
        let (i, e, what, end) = held.grouped standard home.inside in
        let m = member_next t v i (omega (arith, e, held.ordered, held.upto)) what in
        first_from (get_or es i blank).level s.end (length es - s.first) s.first (omega (arith, held.ordered, held.upto)) (omega (arith, held.ordered, held.upto))
        (rw e (omega (arith, m.1))) (rw e (sym end))

    -- Its occurrences are stored as often as the group's are.
    span_stored : (r : Record) → occurrences_stored (parts es) (counts_in (parts es) r) (asked_of es s) ≡ group_count_at (parts es) r (get_or es g blank).name
    unfolding occurrences_stored counts_in as_stored
    span_stored r = by_test s.standard
        (λ e. let x = span_first e in
        ap (occurrences_stored (parts es) (counts_in (parts es) r)) (asked_stored es s s.standard e ∙ ap (map as_stored) x.is) ∙ counted x.entry x.low x.high x.field)
        (λ e. ap (occurrences_stored (parts es) (counts_in (parts es) r)) (asked_one es s s.standard e) ∙ counted s.first (omega arith) held.ordered (held.alone e).field)
      where
        counted : (j : ℕ) → s.first ≤ j → j < s.end → is_group (get_or es j blank).what ≡ false
            → group_count_at (parts es) r (part_holding (field_at es j).name (parts es)) ≡ group_count_at (parts es) r (get_or es g blank).name
        counted j low high single =
            ap (group_count_at (parts es) r)
            (ap (λ (n : ℕ). part_holding n (parts es)) (name_at es j) ∙ holding es (valid_names t v) j g (omega (arith, held.upto)) single (span_home j low high))

    -- It is as good with other occurrences, for none of its entries lies outside.
    good_rows : (from upto : ℕ) → in_order (range from upto) ≡ true → GoodSpan es (with_rows s from upto)
    good_rows from upto ordered = record {
      ordered = held.ordered;
      upto = held.upto;
      occurrences = ordered;
      values = held.values;
      single = held.single;
      alone = λ e. let x = held.alone e in record { next = x.next; field = x.field; allowed = x.allowed; converts = x.converts; value = x.value };
      only = λ j low high out. absurd (false≢true (sym out ∙ (span_home j low high).inside));
      begins = held.begins;
      once = held.once;
      unasked = held.unasked;
      one_group = held.one_group;
      outside = held.outside;
      grouped = held.grouped;
    }

module _ (t : Bytes) {b : Bytes} {places : List ℕ} (v : Valid t) {scope : Scope} where
  -- The occurrences of a span that are meant.
  module _ {s : Span} (held : GoodSpan (entries_of t) s) where
    pub meant_last : (scope ≡ AsWritten → ⊥) → inside_at (entries_of t) s.first ≡ true → {n : ℕ} → n ≤ highest_index → StoredCount (entries_of t) b places s.first n
        → {from upto : ℕ} → from ≡ (resolved (scope_at scope) (range s.from s.upto) n).from → upto ≡ (resolved (scope_at scope) (range s.from s.upto) n).upto
        → MeantSpan (entries_of t) b places s scope (with_rows s from upto)
    meant_last d inside {n} most counted {from} {upto} p q =
        let (g, home) = homed (entries_of t) (valid_levels t v) (valid_sound t v) s.first (omega (arith, held.ordered, held.upto)) inside in
        let x = with_last scope d (range s.from s.upto) n most in
        record {
          same = refl;
          good = λ h. good_rows t v s held g home from upto (in_bounds from upto (omega (arith, x.0)) h (omega (arith, x.1)));
          meant = λ r k. rw (p, q, span_stored t v s held g home r, ← counted g home r k) refl;
        }

  -- The occurrence of an MU field that is meant.
  module _ {i o : ℕ} where
    pub occurrence_last : (scope ≡ AsWritten → ⊥) → (scope ≡ UpToLast → ⊥) → i < length (entries_of t) → is_multiple (get_or (entries_of t) i blank).what ≡ true → inside_at (entries_of t) i ≡ true
        → {n : ℕ} → StoredCount (entries_of t) b places i n → {k : ℕ} → k ≡ (resolved (scope_at scope) (just o) n).upto → OccurrenceMeant (entries_of t) b places i o scope k
    occurrence_last d last less mu inside {n} counted e =
        let (g, home) = homed (entries_of t) (valid_levels t v) (valid_sound t v) i less inside in
        record {
          first = rw e (last_from scope d last (just o) n);
          only = λ out. absurd (false≢true (sym out ∙ inside));
          meant = λ r h. rw (holding (entries_of t) (valid_names t v) i g less (multiple_field (get_or (entries_of t) i blank).what mu) home, ← counted g home r h) e;
        }
