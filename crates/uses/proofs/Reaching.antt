-- N is only where there is a last one: among occurrences in periodic groups, among values in MU fields. The use rules let no other index pass.
use Rattle.std.specs.Prelude.{Err, Ok, Result, None, Some, Option as Optional}
use Rattle.rules.specs.declared.Refusal.{Refusal}
use Rattle.uses.specs.declared.Use.{Use}
use mathlib.Core.Path.{◌≡◌, refl, sym, ap, ◌∙◌}
use mathlib.Core.Bool.{Bool, true, false, cond, ◌&&◌}
use mathlib.Core.List.{List, []}
use mathlib.Core.Option.{some}
use Prim.Native.Nat.{ℕ, ◌+◌, ◌<◌}
use native.Mathlib.Omega.{arith}
use lib.ListN.{length, get_or}
use Rattle.rules.specs.Outcome.{done}
use Rattle.rules.specs.Lists.{Bytes, absent, all}
use Rattle.rules.specs.Table.{What, field, group, Entry, fields_below}
use Rattle.rules.specs.Use as rules
use Rattle.rules.specs.Use.{Found, Spread, just, in_order, spread, plain, find, use_of_count, use_of_group, use_of_field}
use Rattle.rules.proofs.Steps.{from_bind, from_need, done_inj, not_done, not_both, by_test, and_left, and_right, T_true}
use Rattle.tables.specs.Entries.{Valid, entries_of, blank, is_group, is_multiple}
use Rattle.tables.specs.Places.{inside_at, found_at}
use Rattle.tables.specs.Groups.{field_at}
use Rattle.tables.proofs.Known.{name_finds}
use Rattle.format_buffer.specs.Elements.{range, sound, small_count}
use Rattle.format_buffer.specs.declared.Scope.TheVariants.{AsWritten, UpToLast}
use Rattle.format_buffer.specs.declared.Indexing.{Indexing}
use Rattle.format_buffer.specs.declared.Named.{Named}
use Rattle.format_buffer.specs.declared.Count.{Count}
use Rattle.format_buffer.specs.declared.Element.TheVariants as element
use Rattle.uses.specs.Spread.{range_given, occurrences, bracket}
use Rattle.uses.specs.Effect.{length_given, letter_given}
use Rattle.uses.specs.Meant.{Settles, SettlesEntry, entry_use, count_named}
use Rattle.uses.specs.Scopes.{both_written, scope_given, scopes_of_count, scopes_of_name}
use Rattle.uses.specs.Meanings.{GoodScopesOf}
use Rattle.uses.specs.declared.Use.TheVariants as code
use Rattle.uses.proofs.Fields.{multiple_at}
use Rattle.uses.proofs.Scoping.{all_unwritten}
use Rattle.uses.proofs.Together.{group_some, group_inside}

-- Without N there is nothing to say.
pub written_good : (es : List Entry) (m : Result Use Refusal) → GoodScopesOf es m both_written
written_good es (Ok (code.Blanks n)) = tt
written_good es (Ok (code.Text from upto)) = tt
written_good es (Ok (code.GroupCount i)) = tt
written_good es (Ok (code.ValueCount i k)) = ((λ z. absurd (z refl)), λ z. all_unwritten (sym z))
written_good es (Ok (code.Values s)) = record { occurrences = λ z. absurd (z refl); values = λ z. absurd (z refl) }
written_good es (Err x) = tt

-- Parentheses in a periodic group, and an index outside, are an MU field's.
reaching_multiple : (inside mu : Bool) (last : ℕ) (os vs : Optional Indexing) (s : Spread) → (scope_given (cond inside vs os) ≡ AsWritten → ⊥)
    → spread inside mu last (range_given os) (range_given vs) ≡ done s → mu ≡ true
unfolding spread
reaching_multiple true mu last None vs s z p = absurd (not_done p)
reaching_multiple true mu last (Some x) (Some y) s z p = from_need (mu && in_order (range x.from x.upto) && in_order (range y.from y.upto)) 5 _ p λ t k.
    T_true mu (and_left mu (in_order (range x.from x.upto)) (and_left (mu && in_order (range x.from x.upto)) (in_order (range y.from y.upto)) t))
reaching_multiple true mu last (Some x) None s z p = absurd (z refl)
reaching_multiple false mu last None vs s z p = absurd (z refl)
reaching_multiple false mu last (Some x) (Some y) s z p = absurd (not_done p)
reaching_multiple false true last (Some x) None s z p = refl
reaching_multiple false false last (Some x) None s z p = absurd (not_done p)

module _ (es : List Entry) (i last : ℕ) (m : Named) (u : rules.Use) (b : scope_given (cond (inside_at es i) m.values m.occurrences) ≡ AsWritten → ⊥) where
  entry_multiple : entry_use es i last m ≡ done u → (is_group (get_or es i blank).what ≡ false) × (is_multiple (get_or es i blank).what ≡ true)
  unfolding use_of_group use_of_field found_at
  entry_multiple p =
      by_test (is_group (get_or es i blank).what)
      (λ g. from_need (absent (length_given m) && absent (letter_given m) && all plain (fields_below (get_or es i blank).level (found_at es i).after)) 5 _ (rw g at p) λ t k.
      from_bind (spread (inside_at es i) false 0 (occurrences m) (bracket m)) _ k λ s h _.
      absurd (not_both (reaching_multiple (inside_at es i) false 0 m.occurrences m.values s b h)))
      (λ g. from_bind (spread (inside_at es i) (field_at es i).multiple last (occurrences m) (bracket m)) _ (rw g at p) λ s h _.
      (g, sym (multiple_at es i) ∙ reaching_multiple (inside_at es i) _ last m.occurrences m.values s b h))

-- The scopes of a name, by the entry that it finds.
module _ (m : Named) where
  outer_inside : (inside : Bool) → ((scopes_of_name inside m).occurrences ≡ AsWritten → ⊥) → inside ≡ true
  outer_inside true z = refl
  outer_inside false z = absurd (z refl)

  inner_given : (inside : Bool) → ((scopes_of_name inside m).values ≡ AsWritten → ⊥) → scope_given (cond inside m.values m.occurrences) ≡ AsWritten → ⊥
  inner_given true z = z
  inner_given false z = z

  module _ (t : Bytes) (v : Valid t) (i : ℕ) (h : i < length (entries_of t)) (last : ℕ) where
    abbrev es : List Entry
    es = entries_of t

    first_inside : (k : ℕ) → k ≡ cond (is_group (get_or es i blank).what) (i + 1) i → inside_at es k ≡ inside_at es i
    first_inside k e =
        by_test (is_group (get_or es i blank).what)
        (λ g. rw (e, g) (group_inside t v i h g (i + 1) (omega arith) (group_some t v i h g)))
        (λ g. rw (e, g) refl)

    pub name_good : (r : Result Use Refusal) → SettlesEntry es i (entry_use es i last m) r → GoodScopesOf es r (scopes_of_name (inside_at es i) m)
    name_good (Err x) w = tt
    name_good (Ok u) w = rw w.spans.is (record {
      occurrences = λ z. first_inside w.spans.span.first w.spans.first ∙ outer_inside (inside_at es i) z;
      values = λ z. let n = entry_multiple es i last m _ (inner_given (inside_at es i) z) (sym (w.settles.answer [])) in
          (w.spans.standard ∙ n.0, rw (w.spans.first, n.0) n.1);
    })

-- A count with an index is an MU field's in a periodic group.
indexed_count : (n : ℕ) (w : What) (inside : Bool) (k : ℕ) (u : rules.Use) → use_of_count n w inside (some k) ≡ done u
    → (u ≡ rules.one (rules.value_count n k)) × (inside ≡ true)
unfolding use_of_count absent
indexed_count n (group p) inside k u e = from_need (p && false) 5 _ e λ t _. absurd (and_right p false t)
indexed_count n (field f s mu) inside k u e = from_need (mu && inside && in_order (just k)) 5 _ e λ t q.
    (sym (done_inj q), T_true inside (and_right mu inside (and_left (mu && inside) (in_order (just k)) t)))

-- Where its scope is one of N, indexes are given; and a count is of one occurrence.
index_given_of : (x : Optional Indexing) → (scope_given x ≡ AsWritten → ⊥) → (i : Indexing) × (x ≡ Some i)
index_given_of None z = absurd (z refl)
index_given_of (Some i) z = (i, refl)

one_counted : (x : Optional Indexing) → small_count x → scope_given x ≡ UpToLast → ⊥
one_counted None s z = all_unwritten (sym z)
one_counted (Some i) s z = s.1 z

module _ (t : Bytes) (v : Valid t) (c : Count) where
  abbrev entries : List Entry
  entries = entries_of t

  count_found : {C : Type 0} (u : rules.Use) (i : Indexing) → c.index ≡ Some i → count_named entries c ≡ done u
      → ((x : Found) → find c.name entries ≡ done x → x.inside ≡ true → u ≡ rules.one (rules.value_count c.name i.from) → C) → C
  count_found u i e p k =
      from_bind (find c.name entries) _ p λ x h q.
      let n = indexed_count c.name x.entry.what x.inside i.from u (rw e at q) in
      k x h n.1 n.0

  pub count_good : (f : Bytes) → sound f (element.Count c) → (r : Result Use Refusal) → Settles entries (count_named entries c) r → GoodScopesOf entries r (scopes_of_count c)
  unfolding found_at
  count_good f s (Err x) w = tt
  count_good f s (Ok (code.Blanks n)) w = tt
  count_good f s (Ok (code.Text from upto)) w = tt
  count_good f s (Ok (code.GroupCount i)) w = tt
  count_good f s (Ok (code.ValueCount i k)) w = (
    λ z. let o = index_given_of c.index z in
        count_found _ o.0 o.1 (sym (w.answer f)) λ x h q e.
        let n : (get_or entries i blank).name ≡ c.name = cc in
        let y : x ≡ found_at entries i = done_inj (sym h ∙ ap (λ m. find m entries) (sym n) ∙ name_finds t v i (w.held f).0) in
        ap (λ (z : Found). z.inside) (sym y) ∙ q,
    one_counted c.index s,
  )
  count_good f s (Ok (code.Values x)) w = record {
    occurrences = λ z. let o = index_given_of c.index z in
        count_found _ o.0 o.1 (sym (w.answer f)) λ _ _ _ e. let o : ◌≡◌ {A = ℕ} 0 1 = cc in absurd (omega arith);
    values = λ z. absurd (z refl);
  }
