-- The rules of an index and of a range, step by step as the code takes them: how far the code's indexes reach is one of three cases.
use Rattle.std.specs.Prelude.{None, Option, Some}
use mathlib.Core.Path.{◌≡◌, refl, sym, ap, ◌∙◌}
use mathlib.Core.Bool.{true, false}
use mathlib.Core.List.{[], ◌∷◌}
use Prim.Native.Nat.{ℕ, ◌+◌, ◌≤◌, ◌<◌}
use native.Mathlib.Omega.{arith}
use lib.Dec.{eqb}
use lib.ListN.{length, get_or}
use borrow.Author.Tests.{eq-eqb, ne_eqb}
use Rattle.rules.specs.Outcome.{Outcome, done, refused, by, ◌>>=◌, need}
use Rattle.rules.specs.Characters.{hyphen, letter_N}
use Rattle.rules.specs.Lists.{Bytes}
use Rattle.rules.specs.Format as rules
use Rattle.rules.specs.Format.{Range, these, the_last, up_to_the_last, number_first, index_first, range_to, range_end, takes_parenthesis, indexed_count}
use Rattle.rules.proofs.Steps.{by_test, from_bind, done_inj, not_done, not_both}
use Rattle.format_buffer.specs.Part.{part}
use Rattle.format_buffer.specs.Elements.{number_bound, range, reaching, indexing_of, count_reaching, count_of, SmallIndexing}
use Rattle.format_buffer.specs.declared.Scope.{Scope}
use Rattle.format_buffer.specs.declared.Scope.TheVariants.{AsWritten, LastAlone, UpToLast}
use Rattle.format_buffer.specs.Numbers.{indexes_and_rest, indexes_place, ReadsIndexes}
use Rattle.format_buffer.specs.declared.Indexing.{Indexing}
use Rattle.format_buffer.proofs.Parts.{part_nil, part_cons}

-- What is known once the answer of a reader of indexes is.
module _ {f : Bytes} {at upto : ℕ} {o : Outcome (rules.Indexing × Bytes)} {r : (Option (Indexing × ℕ))} (w : ReadsIndexes f at upto o r) where
  pub indexes_at : {x : Indexing} {p : ℕ} → r ≡ Some (x, p) → (o ≡ done (indexing_of x, part f p upto)) × ((at ≤ p) × (p ≤ upto) × SmallIndexing x)
  indexes_at q = (w.answer ∙ ap (indexes_and_rest f upto) q, rw q at w.place)

  pub indexes_bad : r ≡ None → o ≡ refused (by 3)
  indexes_bad q = w.answer ∙ ap (indexes_and_rest f upto) q

-- What was read from a later place on.
within_later : (at at' upto : ℕ) (r : Option (Indexing × ℕ)) → at ≤ at' → indexes_place at' upto r → indexes_place at upto r
within_later at at' upto (Some (x, p)) h (a, b, s) = (omega arith, b, s)
within_later at at' upto None h w = tt

pub indexes_later : {f : Bytes} {at at' upto : ℕ} {o o' : Outcome (rules.Indexing × Bytes)} {r : (Option (Indexing × ℕ))} → o ≡ o' → at ≤ at'
    → ReadsIndexes f at' upto o' r → ReadsIndexes f at upto o r
indexes_later {at = at} {at' = at'} {upto = upto} {r = r} e h w = record { answer = e ∙ w.answer; place = within_later at at' upto r h w.place }

-- How large the numbers are: of a range as it is written, and with N.
pub small_written : (x : Indexing) → x.from < number_bound → x.upto < number_bound → x.scope ≡ AsWritten → SmallIndexing x
small_written x h k e = record { from = h; upto = k; one = λ n. absurd (n e) }

pub small_N : (scope : Scope) → SmallIndexing (record { from = 1; upto = 1; scope = scope })
small_N scope = record { from = omega arith; upto = omega arith; one = λ _. (refl, refl) }

module _ (x : Indexing) where
  all_scope : (s : Scope) (r : Range) → s ≡ UpToLast → takes_parenthesis (reaching s r) ≡ false
  all_scope s r e = rw e refl

  pub all_bracketless : x.scope ≡ UpToLast → takes_parenthesis (indexing_of x) ≡ false
  all_bracketless e = all_scope x.scope (range x.from x.upto) e

  other_scope : (s : Scope) (r : Range) → (s ≡ UpToLast → ⊥) → takes_parenthesis (reaching s r) ≡ true
  other_scope AsWritten r e = refl
  other_scope LastAlone r e = refl
  other_scope UpToLast r e = absurd (e refl)

  pub others_bracketed : (x.scope ≡ UpToLast → ⊥) → takes_parenthesis (indexing_of x) ≡ true
  others_bracketed e = other_scope x.scope (range x.from x.upto) e

  counted_scope : (n i j : ℕ) (s : Scope) → indexed_count n (reaching s (range i j)) ≡ count_reaching s n i
  counted_scope n i j AsWritten = refl
  counted_scope n i j LastAlone = refl
  counted_scope n i j UpToLast = refl

  pub count_indexed : (n : ℕ) → indexed_count n (indexing_of x) ≡ count_of (record { name = n; index = Some x })
  count_indexed n = counted_scope n x.from x.upto x.scope

  -- What is neither a range nor `1-N`.
  last_scope : (s : Scope) (r : Range) → (s ≡ AsWritten → ⊥) → takes_parenthesis (reaching s r) ≡ true → reaching s r ≡ the_last
  last_scope AsWritten r h t = absurd (h refl)
  last_scope LastAlone r h t = refl
  last_scope UpToLast r h t = absurd (not_both t)

  only_last : (x.scope ≡ AsWritten → ⊥) → takes_parenthesis (indexing_of x) ≡ true → indexing_of x ≡ the_last
  only_last h t = last_scope x.scope (range x.from x.upto) h t

-- An index.
module _ (f : Bytes) (at upto : ℕ) where
  pub index_nothing : at ≡ upto → index_first (part f at upto) ≡ refused (by 3)
  unfolding index_first
  index_nothing e = rw (part_nil f at upto (omega arith)) refl

  module _ (h : at < upto) (k : upto ≤ length f) where
    pub index_last : get_or f at 0 ≡ letter_N → index_first (part f at upto) ≡ done (the_last, part f (at + 1) upto)
    unfolding index_first
    index_last e = rw (part_cons f at upto h k, e) refl

    pub index_number : (get_or f at 0 ≡ letter_N → ⊥) → {o : Outcome (ℕ × Bytes)} → number_first (part f at upto) ≡ o
        → index_first (part f at upto) ≡ (o >>= λ i. done (these (range i.0 i.0), i.1))
    unfolding index_first
    index_number e q = rw (← q, part_cons f at upto h k, ne_eqb _ _ e, index_first) refl

-- `1-N` is no index.
index_kind : (bs : Bytes) (y : rules.Indexing × Bytes) → index_first bs ≡ done y → takes_parenthesis y.0 ≡ true
unfolding index_first
index_kind [] y e = absurd (not_done e)
index_kind (b ∷ bs) y e =
    by_test (eqb b letter_N) (λ h. rw (← done_inj (rw (h, index_first) at e)) refl)
    (λ h. from_bind (number_first (b ∷ bs)) _ (rw (h, index_first) at e) λ i _ g. rw (← done_inj g) refl)

pub index_scope : (bs : Bytes) (x : Indexing) → {cs : Bytes} → index_first bs ≡ done (indexing_of x, cs) → x.scope ≡ UpToLast → ⊥
index_scope bs x {cs} e h = not_both (sym (all_bracketless x h) ∙ index_kind bs (indexing_of x, cs) e)

-- A range that begins with x.
none_from : (s : Scope) (r : Range) (bs : Bytes) → (s ≡ AsWritten → ⊥) → range_to (reaching s r) bs ≡ refused (by 3)
unfolding range_to
none_from AsWritten r bs e = absurd (e refl)
none_from LastAlone r bs e = refl
none_from UpToLast r bs e = refl

module _ (x : Indexing) (bs : Bytes) where
  pub range_to_none : (x.scope ≡ AsWritten → ⊥) → range_to (indexing_of x) bs ≡ refused (by 3)
  unfolding range_to
  range_to_none e = none_from x.scope (range x.from x.upto) bs e

  module _ (e : x.scope ≡ AsWritten) where
    pub range_to_bad : index_first bs ≡ refused (by 3) → range_to (indexing_of x) bs ≡ refused (by 3)
    unfolding range_to
    range_to_bad q = rw (e, q) refl

    module _ (y : Indexing) {cs : Bytes} (q : index_first bs ≡ done (indexing_of y, cs)) where
      pub range_to_number : y.scope ≡ AsWritten → range_to (indexing_of x) bs ≡ done (these (range x.from y.upto), cs)
      unfolding range_to
      range_to_number h = rw (e, q, h) refl

      module _ (h : y.scope ≡ AsWritten → ⊥) where
        range_after : range_to (indexing_of x) bs ≡ (need (eqb x.from 1) 3 >>= λ _. done (up_to_the_last, cs))
        unfolding range_to
        range_after = let l = only_last y h (index_kind bs (indexing_of y, cs) q) in rw (e, q, l) refl

        pub range_to_last : x.from ≡ 1 → range_to (indexing_of x) bs ≡ done (up_to_the_last, cs)
        range_to_last o = range_after ∙ rw (eq-eqb _ _ o) refl

        pub range_to_other : (x.from ≡ 1 → ⊥) → range_to (indexing_of x) bs ≡ refused (by 3)
        range_to_other o = range_after ∙ rw (ne_eqb _ _ o) refl

-- An index, or a range where a hyphen follows.
pub range_end_nothing : (x : rules.Indexing) (f : Bytes) (at upto : ℕ) → at ≡ upto → range_end x (part f at upto) ≡ done (x, part f at upto)
unfolding range_end
range_end_nothing x f at upto e = rw (part_nil f at upto (omega arith)) refl

module _ (x : rules.Indexing) (f : Bytes) (at upto : ℕ) (h : at < upto) (k : upto ≤ length f) where
  pub range_end_none : (get_or f at 0 ≡ hyphen → ⊥) → range_end x (part f at upto) ≡ done (x, part f at upto)
  unfolding range_end
  range_end_none e = rw (part_cons f at upto h k, ne_eqb _ _ e, range_end) refl

  pub range_end_hyphen : get_or f at 0 ≡ hyphen → range_end x (part f at upto) ≡ range_to x (part f (at + 1) upto)
  unfolding range_end
  range_end_hyphen e = rw (part_cons f at upto h k, e) refl
