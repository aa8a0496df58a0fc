-- The use rules of fields, groups, counts and series, by the tests that the code makes.
use Rattle.std.specs.Prelude.{Err, Ok, Result, None, Some, Option as Optional, is_some, is_none}
use Rattle.rules.specs.declared.Refusal.{Refusal}
use Rattle.tables.proofs.Tables.{valid_most}
use Rattle.tables.proofs.Known.{field_known}
use Rattle.uses.specs.declared.Use.{Use}
use mathlib.Core.Path.{◌≡◌, refl, sym, ap, ◌∙◌}
use mathlib.Core.Bool.{Bool, true, false, cond, not, ◌&&◌, true≢false, false≢true}
use mathlib.Core.List.{List, [], ◌∷◌, map}
use mathlib.Core.Option.{Option, none, some}
use Prim.Native.Nat.{ℕ, suc, ◌+◌, ◌<◌}
use native.Mathlib.Numerals.{add-one}
use native.Mathlib.Omega.{arith}
use lib.ListN.{length, get_or, drop}
use lib.Seq.{drop-cons}
use Rattle.rules.specs.Outcome.{Outcome, done, refused, by}
use Rattle.rules.specs.Numbers.{refusal}
use Rattle.rules.specs.declared.Refusal.TheVariants.{UseRule}
use Rattle.rules.specs.Lists.{Bytes, absent, all}
use Rattle.rules.specs.Table.{What, field, group, Field, Entry, fields_below}
use Rattle.rules.specs.Format.{Range}
use Rattle.rules.specs.Use as rules
use Rattle.rules.specs.Use.{Found, Spread, Asked, spread, asked, plain, just, as_stored, in_order, fields_to, use_of_field, use_of_group, use_of_count, use_of_series, values, one, group_count, value_count}
use Rattle.rules.proofs.Steps.{T_true, by_test}
use Rattle.rules.proofs.Uses.{spread_in_order}
use Rattle.tables.specs.Entries.{Valid, entries_of, blank, is_group, is_multiple, is_periodic, size_of, field_format}
use Rattle.tables.specs.Places.{inside_at, found_at}
use Rattle.tables.specs.Groups.{field_at, group_end, Spanned}
use Rattle.tables.proofs.EntryFields.{field_periodic}
use Rattle.tables.proofs.LevelSteps.{periodic_what}
use Rattle.format_buffer.specs.Elements.{if_given}
use Rattle.format_buffer.specs.declared.Indexing.{Indexing}
use Rattle.format_buffer.specs.declared.Named.{Named}
use Rattle.format_buffer.specs.declared.Count.{Count}
use Rattle.value_formats.specs.Formats.{format_at}
use Rattle.value_formats.specs.declared.Format.{Format}
use Rattle.uses.specs.Spread.{occurrences, bracket, spread_of}
use Rattle.uses.specs.Effect.{length_given, letter_given, asked_at, Asks}
use Rattle.uses.specs.Meant.{fields_from, Settles, SettlesEntry, field_use, group_use, entry_use, index_given, count_use, series_use, field_span, stored_span}
use Rattle.uses.specs.declared.Span.{Span}
use Rattle.uses.specs.declared.spread.Ranges.{Ranges}
use Rattle.uses.specs.declared.Use.TheVariants as code
use Rattle.uses.proofs.Spreading.{one_ordered, ordered_within, upto_one, value_one}
use Rattle.uses.proofs.Together.{group_some, group_begins, group_inside, group_together, series_outside}
use Rattle.uses.proofs.Effects.{asked_right}
use Rattle.uses.proofs.Fields.{multiple_at, size_at, format_of_field, group_fields, group_upto, plain_none_multiple, series_none_multiple, series_five}

pub refuse : (es : List Entry) (o : Outcome rules.Use) → o ≡ refused (refusal UseRule) → Settles es o (Err UseRule)
refuse es o e = record { answer = λ f. sym e; held = λ f. tt }

pub refuse_entry : (es : List Entry) (i : ℕ) (o : Outcome rules.Use) → o ≡ refused (refusal UseRule) → SettlesEntry es i o (Err UseRule)
refuse_entry es i o e = record { settles = refuse es o e; spans = tt }

-- A field, by its indexes, then its length and format.
module _ (f : Field) (inside : Bool) (last : ℕ) (os vs : Option Range) (l g : Option ℕ) where
  astray_field : spread inside f.multiple last os vs ≡ refused (by 5) → use_of_field f inside last os vs l g ≡ refused (by 5)
  unfolding use_of_field
  astray_field p = rw p

  module _ (s : Spread) (p : spread inside f.multiple last os vs ≡ done s) where
    unfit_field : asked f l g ≡ refused (by 5) → use_of_field f inside last os vs l g ≡ refused (by 5)
    unfolding use_of_field
    unfit_field q = rw (p, q)

    done_field : (a : Asked) → asked f l g ≡ done a → use_of_field f inside last os vs l g ≡ done (values (a ∷ []) s.occurrences s.values s.bare)
    unfolding use_of_field
    done_field a q = rw (p, q)

-- Whether a length or a format is if_given.
absent_given : (o : Optional ℕ) → absent (if_given o) ≡ not (is_some o)
unfolding absent
absent_given None = refl
absent_given (Some n) = refl

with_false : (a b : Bool) → (a && false && b) ≡ false
with_false true b = refl
with_false false b = refl

-- A group is refused by a length, a format or a field that is not plain; or by its indexes.
module _ (x : Found) (os vs : Option Range) (l g : Option ℕ) where
  unfit_group : (absent l && absent g && all plain (fields_below x.entry.level x.after)) ≡ false → use_of_group x os vs l g ≡ refused (by 5)
  unfolding use_of_group
  unfit_group e = rw e

  module _ (e : (absent l && absent g && all plain (fields_below x.entry.level x.after)) ≡ true) where
    astray_group : spread x.inside false 0 os vs ≡ refused (by 5) → use_of_group x os vs l g ≡ refused (by 5)
    unfolding use_of_group
    astray_group p = rw (e, p)

    group_done : (s : Spread) → spread x.inside false 0 os vs ≡ done s
        → use_of_group x os vs l g ≡ done (values (map as_stored (fields_below x.entry.level x.after)) s.occurrences s.values s.bare)
    unfolding use_of_group
    group_done s p = rw (e, p)

-- A count.
module _ (n : ℕ) where
  neither_counted : (w : What) (b : Bool) (i : Option ℕ) → is_multiple w ≡ false → is_periodic w ≡ false → use_of_count n w b i ≡ refused (by 5)
  unfolding use_of_count
  neither_counted (field f s m) b none e p = rw e
  neither_counted (field f s m) b (some i) e p = rw e
  neither_counted (group p) b i e q = rw q

  group_counted : (w : What) (b : Bool) (x : Optional Indexing) → is_periodic w ≡ true → use_of_count n w b (index_given x) ≡ cond (is_none x) (done (one (group_count n))) (refused (by 5))
  unfolding use_of_count absent
  group_counted (field f s m) b x e = absurd (false≢true e)
  group_counted (group p) b None e = rw e
  group_counted (group p) b (Some x) e = rw e

  -- of an MU field
  bare_counted : (w : What) (b : Bool) → is_multiple w ≡ true → use_of_count n w b none ≡ cond b (refused (by 5)) (done (one (value_count n 1)))
  unfolding use_of_count
  bare_counted (field f s m) true e = rw e
  bare_counted (field f s m) false e = rw e
  bare_counted (group p) b e = absurd (false≢true e)

  indexed_counted : (w : What) (b : Bool) (i : ℕ) → is_multiple w ≡ true
      → use_of_count n w b (some i) ≡ cond (b && in_order (just i)) (done (one (value_count n i))) (refused (by 5))
  unfolding use_of_count
  indexed_counted (field f s m) true i e = rw e (by_test (in_order (just i)) (λ o. rw o refl) (λ o. rw o refl))
  indexed_counted (field f s m) false i e = rw e
  indexed_counted (group p) b i e = absurd (false≢true e)

module _ (es : List Entry) (i : ℕ) (c : Count) where
  pub count_neither : is_multiple (get_or es i blank).what ≡ false → is_periodic (get_or es i blank).what ≡ false → Settles es (count_use es i c) (Err UseRule)
  count_neither e p = refuse es _ (neither_counted _ _ _ _ e p)

  pub count_group : i < length es → is_periodic (get_or es i blank).what ≡ true → is_none c.index ≡ true → Settles es (count_use es i c) (Ok (code.GroupCount i))
  count_group h e o = record { answer = λ f. sym (group_counted _ _ _ c.index e ∙ rw o refl); held = λ f. (h, periodic_what _ e) }

  pub count_group_at : is_periodic (get_or es i blank).what ≡ true → is_none c.index ≡ false → Settles es (count_use es i c) (Err UseRule)
  count_group_at e o = refuse es _ (group_counted _ _ _ c.index e ∙ rw o refl)

  module _ (m : is_multiple (get_or es i blank).what ≡ true) where
    pub count_outside : c.index ≡ None → i < length es → inside_at es i ≡ false → Settles es (count_use es i c) (Ok (code.ValueCount i 1))
    count_outside e h o = record { answer = λ f. rw e (sym (bare_counted _ _ _ m ∙ rw o refl)); held = λ f. (h, m, omega arith, omega arith, λ e. refl) }

    pub count_inside_bare : c.index ≡ None → inside_at es i ≡ true → Settles es (count_use es i c) (Err UseRule)
    count_inside_bare e o = refuse es _ (rw e (bare_counted _ _ _ m ∙ rw o refl))

    module _ (x : Indexing) (e : c.index ≡ Some x) where
      counted : use_of_count (get_or es i blank).name (get_or es i blank).what (inside_at es i) (index_given c.index)
          ≡ cond (inside_at es i && in_order (just x.from)) (done (one (value_count (get_or es i blank).name x.from))) (refused (by 5))
      counted = rw e (indexed_counted _ _ _ x.from m)

      pub count_inside : i < length es → inside_at es i ≡ true → in_order (just x.from) ≡ true → Settles es (count_use es i c) (Ok (code.ValueCount i x.from))
      count_inside h t o = record {
        answer = λ f. sym (counted ∙ rw (t, o) refl);
        held = λ f. let w = ordered_within (just x.from) o in (h, m, w.0, w.2, λ z. absurd (true≢false (sym t ∙ z)));
      }

      pub count_outside_at : inside_at es i ≡ false → Settles es (count_use es i c) (Err UseRule)
      count_outside_at t = refuse es _ (counted ∙ rw t refl)

      pub count_broken : inside_at es i ≡ true → in_order (just x.from) ≡ false → Settles es (count_use es i c) (Err UseRule)
      count_broken t o = refuse es _ (counted ∙ rw (t, o) refl)

-- A series.
first_group : {A : Type 0} (w : What) (o : Outcome A) → is_group w ≡ true
    → ◌≡◌ {A = Outcome A} (elim w [ group p ↦ refused (by 5) | field f s mu ↦ o ]) (refused (by 5))
first_group (field f s m) o e = absurd (false≢true e)
first_group (group p) o e = refl

first_field : {A : Type 0} (w : What) (o : Outcome A) → is_group w ≡ false
    → ◌≡◌ {A = Outcome A} (elim w [ group p ↦ refused (by 5) | field f s mu ↦ o ]) o
first_field (field f s m) o e = refl
first_field (group p) o e = absurd (true≢false e)

module _ (x : Found) (n : ℕ) where
  group_first : is_group x.entry.what ≡ true → use_of_series x n ≡ refused (by 5)
  unfolding use_of_series
  group_first e = first_group x.entry.what _ e

  module _ (e : is_group x.entry.what ≡ false) where
    inside_first : x.inside ≡ true → use_of_series x n ≡ refused (by 5)
    unfolding use_of_series
    inside_first i = first_field x.entry.what _ e ∙ rw i

    module _ (i : x.inside ≡ false) where
      series_broken : fields_to n (x.entry ∷ x.after) ≡ refused (by 5) → use_of_series x n ≡ refused (by 5)
      unfolding use_of_series
      series_broken p = first_field x.entry.what _ e ∙ rw (i, p)

      series_done : (fs : List Field) → fields_to n (x.entry ∷ x.after) ≡ done fs
          → use_of_series x n ≡ done (values (map as_stored fs) (just 1) (just 1) false)
      unfolding use_of_series
      series_done fs p = first_field x.entry.what _ e ∙ rw (i, p)

module _ (es : List Entry) (i j : ℕ) where
  pub series_group : is_group (get_or es i blank).what ≡ true → Settles es (series_use es i j) (Err UseRule)
  unfolding found_at
  series_group e = refuse es _ (group_first (found_at es i) _ e)

  pub series_inside : is_group (get_or es i blank).what ≡ false → inside_at es i ≡ true → Settles es (series_use es i j) (Err UseRule)
  unfolding found_at
  series_inside e o = refuse es _ (inside_first (found_at es i) _ e o)

-- An entry, which is a group or a field.
module _ (es : List Entry) (i last : ℕ) (n : Named) (r : Result Use Refusal) where
  pub group_entry : is_group (get_or es i blank).what ≡ true → SettlesEntry es i (group_use es i n) r → SettlesEntry es i (entry_use es i last n) r
  group_entry e s = rw e s

  pub field_entry : is_group (get_or es i blank).what ≡ false → SettlesEntry es i (field_use es i last n) r → SettlesEntry es i (entry_use es i last n) r
  field_entry e s = rw e s

-- The span of a field.
module _ (es : List Entry) (i last : ℕ) (n : Named) (h : i < length es) (g : is_group (get_or es i blank).what ≡ false) where
  abbrev Spreads : Optional Ranges → Type 0
  Spreads o = spread_of o ≡ spread (inside_at es i) (is_multiple (get_or es i blank).what) last (occurrences n) (bracket n)

  abbrev Asked_of : Format → Optional (Format × ℕ) → Type 0
  Asked_of c o = Asks c (size_of (get_or es i blank).what) n o

  abbrev Formatted : Format → Type 0
  Formatted c = format_at c ≡ field_format (get_or es i blank).what

  field_asked : (c : Format) → Formatted c → (o : Optional (Format × ℕ)) → Asked_of c o
      → asked_at (field_at es i) o ≡ asked (field_at es i) (length_given n) (letter_given n)
  field_asked c e o q = q (field_at es i) (format_of_field es i ∙ sym e) (size_at es i)

  pub field_astray : Spreads None → SettlesEntry es i (field_use es i last n) (Err UseRule)
  field_astray p = refuse_entry es i _ (astray_field (field_at es i) _ _ _ _ _ _ (ap (λ m. spread (inside_at es i) m last (occurrences n) (bracket n)) (multiple_at es i) ∙ sym p))

  spread_done : (r : Ranges) → Spreads (Some r) → spread (inside_at es i) (field_at es i).multiple last (occurrences n) (bracket n) ≡ spread_of (Some r)
  spread_done r p = ap (λ m. spread (inside_at es i) m last (occurrences n) (bracket n)) (multiple_at es i) ∙ sym p

  pub field_unfit : (o : Optional Ranges) (c : Format) → Formatted c → Spreads o → Asked_of c None → SettlesEntry es i (field_use es i last n) (Err UseRule)
  field_unfit None c e p q = field_astray p
  field_unfit (Some r) c e p q = refuse_entry es i _ (unfit_field (field_at es i) _ _ _ _ _ _ _ (spread_done r p) (sym (field_asked c e None q)))

  pub field_as : (r : Ranges) (c k : Format) (m : ℕ) → Formatted c → Spreads (Some r) → Asked_of c (Some (k, m)) → SettlesEntry es i (field_use es i last n) (Ok (code.Values (field_span i r k m)))
  field_as r c k m y w q =
      let p = spread_done r w in
      let o = spread_in_order (inside_at es i) (field_at es i).multiple last (occurrences n) (bracket n) _ p in
      let a = asked_right (field_at es i) (length_given n) (letter_given n) _ (sym (field_asked c y (Some (k, m)) q)) in
      record {
        settles = record {
          answer = λ f. sym (done_field (field_at es i) _ _ _ _ _ _ _ p _ (sym (field_asked c y (Some (k, m)) q)));
          held = λ f. record {
            ordered = omega arith;
            upto = omega arith;
            occurrences = T_true _ o.0;
            values = T_true _ o.1;
            single = λ e. absurd (false≢true e);
            alone = λ e. record {
              next = refl;
              field = g;
              allowed = a.0;
              converts = a.1;
              value = λ m. let v = value_one (inside_at es i) last (occurrences n) (bracket n) _ (rw m at p) in (ap (λ (x : Range). x.from) v, ap (λ (x : Range). x.upto) v);
            };
            only = λ j low high e. let z : j ≡ i = omega arith in upto_one (inside_at es i) (field_at es i).multiple last (occurrences n) (bracket n) _ p (rw z at e);
            begins = field_periodic (get_or es i blank).what g;
            once = λ e. absurd (false≢true e);
            unasked = λ e. absurd (false≢true e);
            one_group = λ e. absurd (false≢true e);
            outside = λ e. absurd (false≢true e);
            grouped = λ e. absurd (false≢true e);
          };
        };
        spans = record { span = field_span i r k m; is = refl; standard = sym g; first = rw g refl };
      }

-- The span of a group.
module _ (t : Bytes) (v : Valid t) (i : ℕ) (n : Named) (h : i < length (entries_of t)) (g : is_group (get_or (entries_of t) i blank).what ≡ true) where
  abbrev es : List Entry
  es = entries_of t

  abbrev all_plain : Bool
  all_plain = all plain (fields_below (get_or es i blank).level (drop (i + 1) es))

  abbrev Spread_of : Optional Ranges → Type 0
  Spread_of o = spread_of o ≡ spread (inside_at es i) false 0 (occurrences n) (bracket n)

  pub group_sized : is_some n.length ≡ true → SettlesEntry es i (group_use es i n) (Err UseRule)
  group_sized e = refuse_entry es i _ (unfit_group (found_at es i) _ _ _ _ (rw (absent_given n.length, e) refl))

  pub group_lettered : is_some n.letter ≡ true → SettlesEntry es i (group_use es i n) (Err UseRule)
  group_lettered e = refuse_entry es i _ (unfit_group (found_at es i) _ _ _ _ (rw (absent_given n.letter, e) (with_false (absent (length_given n)) _)))

  module _ (z : is_some n.length ≡ false) (l : is_some n.letter ≡ false) where
    tested : (absent (length_given n) && absent (letter_given n) && all plain (fields_below (found_at es i).entry.level (found_at es i).after)) ≡ all_plain
    unfolding found_at
    tested = rw (absent_given n.length, absent_given n.letter, z, l, add-one) refl

    pub group_unnamed : all_plain ≡ false → SettlesEntry es i (group_use es i n) (Err UseRule)
    group_unnamed a = refuse_entry es i _ (unfit_group (found_at es i) _ _ _ _ (tested ∙ a))

    pub group_astray : all_plain ≡ true → Spread_of None → SettlesEntry es i (group_use es i n) (Err UseRule)
    unfolding found_at
    group_astray a p = refuse_entry es i _ (astray_group (found_at es i) _ _ _ _ (tested ∙ a) (sym p))

    pub group_as : all_plain ≡ true → (r : Ranges) → Spread_of (Some r) → SettlesEntry es i (group_use es i n) (Ok (code.Values (stored_span (i + 1) (group_end es i) r)))
    unfolding found_at
    group_as b r p =
        let a = rw add-one at b in
        let o = spread_in_order (inside_at es i) false 0 (occurrences n) (bracket n) _ (sym p) in
        let fs = group_fields es i h in
        record {
          settles = record {
            answer = λ f. rw (← fs) (sym (group_done (found_at es i) (occurrences n) (bracket n) _ _ (tested ∙ b) _ (sym p)));
            held = λ f. record {
              ordered = group_some t v i h g;
              upto = (group_upto es i h).1;
              occurrences = T_true _ o.0;
              values = T_true _ o.1;
              single = λ e. rw (← fs) (plain_none_multiple _ a);
              alone = λ e. absurd (true≢false e);
              only = λ j low high e. upto_one (inside_at es i) false 0 (occurrences n) (bracket n) _ (sym p) (sym (group_inside t v i h g j (omega arith) high) ∙ e);
              begins = group_begins t v i h g;
              once = λ e. let one = value_one (inside_at es i) 0 (occurrences n) (bracket n) _ (sym p) in (ap (λ (x : Range). x.from) one, ap (λ (x : Range). x.upto) one);
              unasked = λ e. (refl, refl);
              one_group = λ e k home. (group_together t v i h g k home, rw (← fs) a);
              outside = λ e out j low high. group_inside t v i h g j (omega arith) high ∙ sym (group_inside t v i h g (i + 1) (omega arith) (group_some t v i h g)) ∙ out;
              grouped = λ e inside. (i, add-one i, g, refl);
            };
          };
          spans = record { span = stored_span (i + 1) (group_end es i) r; is = refl; standard = sym g; first = rw g refl };
        }

-- The span of a series.
module _ (t : Bytes) (v : Valid t) (i j : ℕ) (h : i < length (entries_of t)) (k : j < length (entries_of t)) (g : is_group (get_or (entries_of t) i blank).what ≡ false)
    (o : inside_at (entries_of t) i ≡ false) where
  abbrev entries : List Entry
  entries = entries_of t

  opened : drop i entries ≡ get_or entries i blank ∷ drop (suc i) entries
  opened = drop-cons entries i blank h

  pub series_as : (b : Bool) → Spanned entries i j b → b ≡ true → (x : Span) → x ≡ stored_span i (j + 1) (record { from = 1; upto = 1; value_from = 1; value_upto = 1; bare = false })
      → Settles entries (series_use entries i j) (Ok (code.Values x))
  unfolding found_at fields_from
  series_as b w z x q =
      let d = w.fields z in
      let u = w.upto z in
      rw (q, add-one j) (record {
        answer = λ f. sym (series_done (found_at entries i) _ g o _ (ap (fields_to (get_or entries j blank).name) (sym opened) ∙ d));
        held = λ f. record {
          ordered = omega arith;
          upto = omega arith;
          occurrences = one_ordered;
          values = one_ordered;
          single = λ e. series_none_multiple _ _ _ d;
          alone = λ e. absurd (true≢false e);
          only = λ k low high e. refl;
          begins = field_periodic (get_or entries i blank).what g;
          once = λ e. (refl, refl);
          unasked = λ e. (refl, refl);
          one_group = λ e m home. absurd (true≢false (sym home.inside ∙ o));
          outside = λ e out m low high. series_outside t v i j h k o _ d m low (omega arith);
          grouped = λ e inside. absurd (true≢false (sym inside ∙ o));
        };
      })

  pub series_fails : (b : Bool) → Spanned entries i j b → b ≡ false → Settles entries (series_use entries i j) (Err UseRule)
  unfolding found_at
  series_fails b w z = let d = sym w.answer ∙ z in refuse entries _ (series_broken (found_at entries i) _ g o (series_five _ _ (rw opened at d)))

-- What settles a field, a group, the count of an MU field, any count and a series.
pub ruleset field_laws = (valid_most, field_known, field_astray)

pub ruleset group_laws = (valid_most, group_sized, group_lettered, group_unnamed, group_astray, group_as)

pub ruleset value_count_laws = (count_outside, count_inside_bare, count_inside)

pub ruleset count_laws = (count_neither, count_group, count_group_at)

pub ruleset series_laws = (valid_most, series_group, series_inside, series_as, series_fails)
