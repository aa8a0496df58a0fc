-- Where the values that a use gives to one field in one occurrence stand: after those of the occurrences before, and of the fields before in
-- that occurrence. A use of one field has as many values of that field before them as (o - from) times its values; one of several fields lies
-- in a periodic group and has fields of fixed length, so that the bytes before are counted by widths.
use mathlib.Core.Path.{◌≡◌, sym, ◌∙◌, ap, subst}
use mathlib.Core.Bool.{true}
use mathlib.Core.Logic.{⊎_elim}
use mathlib.Core.List.{List, [], ◌++◌, map, append_assoc}
use Prim.Native.Nat.{ℕ, suc, ◌+◌, ◌-◌, ◌*◌, ◌≤◌, ◌<◌}
use native.Mathlib.Omega.{arith}
use native.Mathlib.Nat.{add_assoc, mul-one, one-mul}
use borrow.Author.Tests.{eq-eqb}
use lib.Dec.{eqb}
use lib.ListN.{length, drop, get_or, length-drop, length-map}
use Rattle.rules.specs.Outcome.{done}
use Rattle.rules.specs.Lists.{Bytes, filter}
use Rattle.rules.specs.Table.{Entry}
use Rattle.rules.specs.Record.{times, stored_value}
use Rattle.rules.specs.Format.{Range}
use Rattle.rules.specs.Use.{Item, as_stored, items, items_of}
use Rattle.rules.specs.Update.{Assignment}
use Rattle.rules.proofs.Steps.{by_test, done_inj, true_T}
use Rattle.rules.proofs.Back.{All}
use Rattle.rules.proofs.Alls.{all_parts, all_of_map}
use Rattle.rules.proofs.Places.{places_of, range_length}
use Rattle.rules.proofs.Ranges.{taking, field_items, occurrence_items}
use Rattle.buffer.proofs.Cases.{by_order}
use Rattle.tables.specs.Entries.{blank, is_multiple}
use Rattle.tables.specs.Groups.{field_at}
use Rattle.tables.specs.Places.{inside_at}
use Rattle.format_buffer.specs.Elements.{range}
use Rattle.records.specs.Walk.{rest_of, Ends, EndsAt}
use Rattle.uses.specs.Kept.{numbers_kept, span_at, use_at, uses_kept}
use Rattle.uses.specs.Meant.{fields_from, asked_of, use_meant, GoodSpan, GoodUse}
use Rattle.uses.specs.declared.Span.{Span}
use Rattle.uses.specs.declared.Use.TheVariants as code
use Rattle.uses.proofs.Fields.{multiple_at}
use Rattle.uses.proofs.SpanFields.{span_items}
use Rattle.assignments.specs.Notes.{start_noted, group_chain, width_before, use_names, use_chain, chained, bytes_given}
use Rattle.assignments.specs.Answers.{NamedBy, Block, ReadsBack}
use Rattle.assignments.proofs.Given.{AsLong, taking_long, given_append, given_length, stage_after, stage_length}
use Rattle.assignments.proofs.Splitting.{items_about, later, earlier_occurrences, value_items_about, AskedAbout, asked_about, home_of}
use Rattle.assignments.proofs.Weights.{weight, weight_asked, weight_fields, weight_earlier, fields_of_places, earlier_of_places, size_field, width_between, given_weight, weight_number, times_given}
use Rattle.assignments.proofs.Tabled.{listed_allowed, listed_top}
use Rattle.assignments.proofs.Giving.{all_read_back}
use Rattle.assignments.proofs.Chained.{chained_end}
use Rattle.assignments.proofs.CellParts.{values_before, use_named, cell_inside, Parted, places_own, from_parts, first_given, regroup, grouped, nothing_mapped, no_places, nothing_given, one_weight, several_chain, not_filtered, not_filtered_of, plain_sized}

module _ {es : List Entry} {f : Bytes} {kept : List ℕ} {count : ℕ} {list : List ℕ} {stage : Bytes} {ws : List Assignment} {n i o size : ℕ}
    (b : NamedBy es f kept count list stage ws n i o size) where
  abbrev span : Span
  span = span_at kept (numbers_kept * n)

  -- It is a use of values, whose span is good and has the entry and the occurrence.
  pub block_use : use_at kept n ≡ code.Values span
  block_use = use_named kept n i o b.names

  pub block_span : GoodSpan es span
  block_span = subst (GoodUse es f) block_use (b.indexed.listed.uses n b.known)

  pub block_inside : (span.from ≤ o) × (o ≤ span.upto) × (span.first ≤ i) × (i < span.end)
  block_inside = cell_inside span i o (subst (λ u. use_names u i o ≡ true) block_use b.names)

  abbrev about : AskedAbout es span i
  about = asked_about es span block_span i block_inside.2 block_inside.3 b.field

  abbrev values : Range
  values = range span.value_from span.value_upto

  parted : Parted es ws i o span (start_noted list n) about
  parted =
      let l = b.indexed.listed in
      let earlier = earlier_occurrences values span.bare (asked_of es span) span.from o in
      let others = occurrence_items about.before values span.bare o in
      let own = field_items span.bare values o about.own in
      let (after, e) = value_items_about values span.bare (asked_of es span) span.from span.upto o block_inside.0 block_inside.1 about.before about.own about.after about.is in
      let whole : items (uses_kept es f kept count) ≡ items (uses_kept es f kept n) ++ (earlier ++ (others ++ (own ++ (after ++ later es f kept n count)))) =
      items_about es f kept n count b.known
      ∙ ap (λ (xs : List Item). items (uses_kept es f kept n) ++ xs)
      (ap (λ u. items_of (use_meant es f u) ++ later es f kept n count) block_use
      ∙ ap (λ (xs : List Item). xs ++ later es f kept n count) (span_items es f span ∙ e)
      ∙ regroup earlier others own after (later es f kept n count)) in
      from_parts (items (uses_kept es f kept n)) earlier others own (after ++ later es f kept n count) l.buffer ws l.rest
      (ap (λ xs. taking xs l.buffer) (sym whole) ∙ l.given) λ a p q r z mid t w ep eq er.
      record {
        before = a;
        occurrences = p;
        fields = q;
        block = r;
        after = z;
        is = w;
        bytes = l.starts n b.known ∙ ap (λ x. length (bytes_given x)) (first_given es f kept l.buffer n a mid t);
        of_occurrences = ep;
        of_fields = eq;
        places = er ∙ places_own span.bare about.own (field_at es i) o span.value_from (suc span.value_upto - span.value_from) about.field;
      }

  -- A use of one field: the values before are passed over one by one.
  pub single_starts : start_noted list n ≤ length stage
  single_starts = omega (arith, parted.bytes, stage_length b.indexed.listed.stands parted.before (parted.occurrences ++ (parted.fields ++ (parted.block ++ parted.after))) parted.is)

  reads : All ReadsBack parted.before × All ReadsBack parted.occurrences × All ReadsBack parted.fields × All ReadsBack parted.block
  reads =
      let x = all_parts ReadsBack parted.before _ (subst (All ReadsBack) parted.is (all_read_back b.indexed.listed)) in
      let y = all_parts ReadsBack parted.occurrences _ x.1 in
      let z = all_parts ReadsBack parted.fields _ y.1 in
      (x.0, y.0, z.0, (all_parts ReadsBack parted.block parted.after z.1).0)

  -- The block, after the bytes before it.
  block_there : (r : ℕ) → r ≡ start_noted list n + (length (bytes_given parted.occurrences) + length (bytes_given parted.fields)) → Block es ws i o span r
  block_there r e = record {
    before = parted.before ++ (parted.occurrences ++ parted.fields);
    block = parted.block;
    after = parted.after;
    is = parted.is ∙ sym (grouped parted.before parted.occurrences parted.fields (parted.block ++ parted.after));
    bytes = omega (arith, e, parted.bytes, given_length parted.before (parted.occurrences ++ parted.fields), given_length parted.occurrences parted.fields);
    places = parted.places;
    reads = reads.3;
  }

  module _ (e : span.first + 1 ≡ span.end) where
    no_fields_before : parted.fields ≡ []
    no_fields_before = nothing_mapped (λ a. a.place) parted.fields (parted.of_fields ∙ ap (λ fs. places_of (occurrence_items fs values span.bare o)) (about.single e).0 ∙ no_places values span.bare o)

    occurrences_number : length parted.occurrences ≡ values_before span o
    occurrences_number =
        sym (length-map parted.occurrences (λ a. a.place))
        ∙ sym (weight_number (map (λ a. a.place) parted.occurrences))
        ∙ ap (weight (λ f. 1)) parted.of_occurrences
        ∙ weight_earlier (λ f. 1) values span.bare (asked_of es span) span.from o
        ∙ ap (λ x. (o - span.from) * x) (ap (λ fs. range_length values * weight_asked (λ f. 1) fs) (about.single e).1 ∙ one_weight about.own (range_length values) ∙ omega arith)

    occurrences_field : All (λ p. p.field ≡ field_at es i) (map (λ a. a.place) parted.occurrences)
    occurrences_field = subst (All (λ p. p.field ≡ field_at es i)) (sym parted.of_occurrences)
        (earlier_of_places (λ g. g ≡ field_at es i) values span.bare (asked_of es span) span.from o
        (subst (All (λ a. a.field ≡ field_at es i)) (sym (about.single e).1) (about.field, tt)))

    abbrev left : Bytes
    left = bytes_given (parted.fields ++ (parted.block ++ parted.after)) ++ drop b.indexed.listed.stands.staged stage

    passed : times (values_before span o) (stored_value (field_at es i).format size) (drop (start_noted list n) stage) ≡ done (map (λ a. a.bytes) parted.occurrences, left)
    passed =
        let there : drop (start_noted list n) stage ≡ bytes_given parted.occurrences ++ left =
        ap (λ k. drop k stage) parted.bytes
        ∙ stage_after b.indexed.listed.stands parted.before (parted.occurrences ++ (parted.fields ++ (parted.block ++ parted.after))) parted.is
        ∙ ap (λ (xs : Bytes). xs ++ drop b.indexed.listed.stands.staged stage) (given_append parted.occurrences (parted.fields ++ (parted.block ++ parted.after)))
        ∙ append_assoc (bytes_given parted.occurrences) (bytes_given (parted.fields ++ (parted.block ++ parted.after))) (drop b.indexed.listed.stands.staged stage) in
        ap (λ k. times (values_before span o) (stored_value (field_at es i).format k) (drop (start_noted list n) stage)) b.size_is
        ∙ ap (times (values_before span o) (stored_value (field_at es i).format (field_at es i).size)) there
        ∙ ap (λ k. times k (stored_value (field_at es i).format (field_at es i).size) (bytes_given parted.occurrences ++ left)) (sym occurrences_number)
        ∙ times_given (field_at es i) parted.occurrences left occurrences_field reads.1

  pub single_ends : span.first + 1 ≡ span.end → Ends (rest_of (times (values_before span o) (stored_value (field_at es i).format size) (drop (start_noted list n) stage)))
  single_ends e = (left e, ap rest_of (passed e))

  pub single_block : span.first + 1 ≡ span.end → (r : ℕ)
      → EndsAt stage (rest_of (times (values_before span o) (stored_value (field_at es i).format size) (drop (start_noted list n) stage))) r → Block es ws i o span r
  single_block e r h =
      let w = h (single_ends e) in
      let d : drop r stage ≡ left e = done_inj (w.answer ∙ ap rest_of (passed e)) in
      let c = ap length d in
      let x = stage_length b.indexed.listed.stands (parted.before ++ parted.occurrences) (parted.fields ++ (parted.block ++ parted.after))
      (parted.is ∙ sym (append_assoc parted.before parted.occurrences (parted.fields ++ (parted.block ++ parted.after)))) in
      let z = ap (λ xs. length (bytes_given xs)) (no_fields_before e) ∙ nothing_given in
      block_there r (omega (arith, w.place, c, length-drop r stage, x, z, parted.bytes, given_length parted.before parted.occurrences))

  -- A use of several fields: they are counted by widths.
  module _ (e : span.first + 1 < span.end) where
    pub group_headed : 0 < get_or list group_chain 0
    group_headed = by_order 0 (get_or list group_chain 0) (λ h. h) (λ h.
        let z : get_or list group_chain 0 ≡ 0 = omega arith in
        let none : chained list count (get_or list group_chain 0) ≡ [] = ap (chained list count) z ∙ chained_end list count in
        let chain : use_chain (use_at kept n) ≡ group_chain = ap use_chain block_use ∙ several_chain span e in
        absurd (not_filtered (λ m. eqb (use_chain (use_at kept m)) group_chain) 0 (count - 0) n (omega arith) (omega (arith, b.known)) (eq-eqb (use_chain (use_at kept n)) group_chain chain)
        (sym (b.indexed.chains.members group_chain (omega arith)) ∙ none)))

    pub several_widths : (width_before es span.first ≤ width_before es i) × (width_before es i ≤ width_before es span.end)
    several_widths =
        let h = block_inside in
        let l = block_span.upto in (
          omega (arith, width_between es span.first i h.2 (omega (arith, h.3, l))),
          omega (arith, width_between es i span.end (omega (arith, h.3)) l),
        )

    -- Each periodic group has level 1, as in a table; so fields of fixed length are meant.
    stored : span.standard ≡ true
    stored = by_test span.standard (λ q. q) (λ q. absurd (omega (arith, e, (block_span.alone q).next)))

    not_multiple : is_multiple (get_or es i blank).what ≡ true → ⊥
    not_multiple h =
        not_filtered_of (λ a. a.field.multiple) about.before about.own about.after (ap (λ g. g.multiple) about.field ∙ multiple_at es i ∙ h)
        (ap (filter (λ a. a.field.multiple)) (sym about.is ∙ (about.several e).1) ∙ block_span.single stored)

    inside_group : inside_at es span.first ≡ true
    inside_group = by_test (inside_at es span.first) (λ q. q) (λ q.
        let u : span.upto ≡ 1 = block_span.only span.first (omega arith) block_span.ordered q in
        absurd (⊎_elim (λ two. omega (arith, two, u, block_inside.1)) not_multiple b.inside))

    sized : All (λ a. 0 < a.field.size) (asked_of es span)
    unfolding as_stored
    sized =
        let (g, home) = home_of es (listed_allowed b.indexed.listed) (listed_top b.indexed.listed) span.first (omega (arith, block_span.ordered, block_span.upto)) inside_group in
        subst (All (λ a. 0 < a.field.size)) (sym (about.several e).1)
        (all_of_map (λ a. 0 < a.field.size) as_stored (fields_from es span.first span.end)
        (plain_sized (fields_from es span.first span.end) (true_T (block_span.one_group stored g home).1)))

    long : All AsLong parted.occurrences × All AsLong parted.fields
    long =
        let l = b.indexed.listed in
        let w = subst (All AsLong) parted.is (taking_long (items (uses_kept es f kept count)) l.buffer ws l.rest l.given) in
        let y = all_parts AsLong parted.occurrences _ (all_parts AsLong parted.before _ w).1 in
        (y.0, (all_parts AsLong parted.fields _ y.1).0)

    occurrences_width : length (bytes_given parted.occurrences) ≡ (o - span.from) * (range_length values * weight_asked size_field (asked_of es span))
    occurrences_width =
        given_weight parted.occurrences long.0
        (subst (All (λ p. 0 < p.field.size)) (sym parted.of_occurrences) (earlier_of_places (λ g. 0 < g.size) values span.bare (asked_of es span) span.from o sized))
        ∙ ap (weight size_field) parted.of_occurrences
        ∙ weight_earlier size_field values span.bare (asked_of es span) span.from o

    fields_width : length (bytes_given parted.fields) ≡ range_length values * weight_asked size_field about.before
    fields_width =
        given_weight parted.fields long.1
        (subst (All (λ p. 0 < p.field.size)) (sym parted.of_fields) (fields_of_places (λ g. 0 < g.size) values span.bare about.before o
        (all_parts (λ a. 0 < a.field.size) about.before _ (subst (All (λ a. 0 < a.field.size)) about.is sized)).0))
        ∙ ap (weight size_field) parted.of_fields
        ∙ weight_fields size_field values span.bare about.before o

    pub several_block : Block es ws i o span (start_noted list n + values_before span o * (width_before es span.end - width_before es span.first) + (width_before es i - width_before es span.first))
    several_block =
        let once = block_span.once stored in
        let one : range_length values ≡ 1 = omega (arith, once.0, once.1) in
        let one' : span.value_upto + 1 - span.value_from ≡ 1 = omega (arith, once.0, once.1) in
        let h = block_inside in
        let all-width : weight_asked size_field (asked_of es span) ≡ width_before es span.end - width_before es span.first =
        ap (weight_asked size_field) (about.several e).1 ∙ omega (arith, width_between es span.first span.end (omega (arith, e)) block_span.upto) in
        let some-width : weight_asked size_field about.before ≡ width_before es i - width_before es span.first =
        ap (weight_asked size_field) (about.several e).0 ∙ omega (arith, width_between es span.first i h.2 (omega (arith, h.3, block_span.upto))) in
        let p : length (bytes_given parted.occurrences) ≡ values_before span o * (width_before es span.end - width_before es span.first) =
        occurrences_width
        ∙ ap (λ x. (o - span.from) * (x * weight_asked size_field (asked_of es span))) one
        ∙ ap (λ x. (o - span.from) * x) (one-mul (weight_asked size_field (asked_of es span)) ∙ all-width)
        ∙ ap (λ x. x * (width_before es span.end - width_before es span.first)) (sym (ap (λ x. (o - span.from) * x) one' ∙ mul-one (o - span.from))) in
        let q : length (bytes_given parted.fields) ≡ width_before es i - width_before es span.first =
        fields_width ∙ ap (λ x. x * weight_asked size_field about.before) one ∙ one-mul (weight_asked size_field about.before) ∙ some-width in
        block_there _ (rw (p, q) (add_assoc (start_noted list n) _ _))
