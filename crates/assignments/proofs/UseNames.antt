-- What one use says of one field in one occurrence: the values of its span where it names the cell, and nothing elsewhere.
use mathlib.Core.Path.{◌≡◌, refl, sym, ap, ◌∙◌}
use mathlib.Core.Bool.{Bool, true, false, cond, not, ◌&&◌, ◌||◌, true≢false}
use mathlib.Core.List.{List, [], map}
use Prim.Native.Nat.{ℕ, zero, suc, ◌+◌, ◌-◌, ◌<◌, ◌≤◌}
use native.Mathlib.Omega.{arith}
use lib.Dec.{T, eqb, leb, ltb}
use lib.ListN.{length, get_or}
use borrow.Author.Tests.{eqb-true, eqb-false, ne_eqb, leb-true, le-leb, lt-leb, ltb-true, lt-ltb, le-ltb}
use Rattle.rules.specs.Limits.{highest_index}
use Rattle.rules.specs.Lists.{Bytes, join, run}
use Rattle.rules.specs.Table.{Entry, differ, names}
use Rattle.rules.specs.Use.{items_of}
use Rattle.rules.proofs.Steps.{by_test}
use Rattle.rules.proofs.Bools.{and_both}
use Rattle.rules.proofs.Named.{values_named}
use Rattle.buffer.proofs.Cases.{by_order}
use Rattle.tables.specs.Entries.{blank, is_group}
use Rattle.format_buffer.specs.Elements.{range}
use Rattle.uses.specs.Meant.{asked_of, use_meant, GoodSpan, GoodUse}
use Rattle.uses.specs.declared.Span.{Span}
use Rattle.uses.specs.declared.Use.{Use}
use Rattle.uses.specs.declared.Use.TheVariants as code
use Rattle.uses.proofs.SpanFields.{span_items}
use Rattle.assignments.specs.Notes.{field_chains, cell_chain, span_chain, use_chain, use_names, use_reach, names_cell}
use Rattle.assignments.specs.Answers.{chain_at, highest_by, bare_by, value_by}
use Rattle.assignments.proofs.Heights.{greatest, greatest_none, greatest_more, unmet, met}
use Rattle.assignments.proofs.SpanNames.{values_from, here, all_there, all_here, given, given_none, given_one, span_fields, span_occurrences, span_values, cell_named, names_it, cell_unnamed}

-- What a use gives to entry i in occurrence o.
abbrev pub cell_by : List Entry → Bytes → ℕ → ℕ → Use → List (ℕ × Bool)
cell_by es f i o u = values_named (get_or es i blank).name o (items_of (use_meant es f u))

-- The greatest of what the values of a range are by a function.
values_highest : (bare : Bool) (k m : ℕ) → greatest (λ c. c.0) (values_from bare k (suc m)) ≡ k + m
unfolding run
values_highest bare k zero = greatest_more (λ c. c.0) (k, bare) [] ∙ omega (arith, greatest_none (λ (c : ℕ × Bool). c.0))
values_highest bare k (suc m) = greatest_more (λ c. c.0) (k, bare) (values_from bare (suc k) (suc m)) ∙ omega (arith, values_highest bare (suc k) m)

values_bare : (bare : Bool) (k m : ℕ) → greatest (λ c. unmet c.1) (values_from bare k (suc m)) ≡ unmet bare
unfolding run
values_bare bare k zero = greatest_more (λ c. unmet c.1) (k, bare) [] ∙ omega (arith, greatest_none (λ (c : ℕ × Bool). unmet c.1))
values_bare bare k (suc m) = greatest_more (λ c. unmet c.1) (k, bare) (values_from bare (suc k) (suc m)) ∙ omega (arith, values_bare bare (suc k) m)

module _ (bare : Bool) (v : ℕ) where
  values_without : (k m : ℕ) → ((j : ℕ) → k ≤ j → j < k + m → j ≡ v → ⊥) → greatest (λ c. met (eqb c.0 v)) (values_from bare k m) ≡ 0
  unfolding run
  values_without k zero d = greatest_none (λ (c : ℕ × Bool). met (eqb c.0 v))
  values_without k (suc m) d =
      let z : met (eqb k v) ≡ 0 = rw (ne_eqb k v (d k (omega arith) (omega arith))) in
      greatest_more (λ c. met (eqb c.0 v)) (k, bare) (values_from bare (suc k) m) ∙ omega (arith, values_without (suc k) m (λ j a b. d j (omega arith) (omega arith)))

  most_one : (b : Bool) → met b ≤ 1
  most_one true = omega arith
  most_one false = omega arith

  values_with : (k m : ℕ) → k ≤ v → v < k + m → greatest (λ c. met (eqb c.0 v)) (values_from bare k m) ≡ 1
  unfolding run
  values_with k zero l u = absurd (omega arith)
  values_with k (suc m) l u =
      by_test (eqb k v)
      (λ t.
      let e : k ≡ v = eqb-true k v t in
      let z : met (eqb k v) ≡ 1 = rw t in
      greatest_more (λ c. met (eqb c.0 v)) (k, bare) (values_from bare (suc k) m) ∙ omega (arith, values_without (suc k) m (λ j a b q. omega arith)))
      (λ t.
      let d = eqb-false k v t in
      let rest = values_with (suc k) m (omega arith) (omega arith) in
      greatest_more (λ c. met (eqb c.0 v)) (k, bare) (values_from bare (suc k) m) ∙ omega (arith, most_one (eqb k v)))

module _ (es : List Entry) (f : Bytes) (apart : T (differ (names es))) (i o : ℕ) (h : i < length es) (g : is_group (get_or es i blank).what ≡ false) where
  module _ (s : Span) (good : GoodSpan es s) where
    span_cell : s.from ≤ o → o ≤ s.upto → cell_by es f i o (code.Values s) ≡ given es i (values_from s.bare s.value_from (suc s.value_upto - s.value_from)) s.first s.end
    span_cell l u =
        ap (values_named (get_or es i blank).name o) (span_items es f s)
        ∙ all_here (get_or es i blank).name o (asked_of es s) (range s.from s.upto) (range s.value_from s.value_upto) s.bare l u
        ∙ ap (λ ns. join (map (here (get_or es i blank).name (values_from s.bare s.value_from (suc s.value_upto - s.value_from))) ns)) (span_fields es s good)

    pub span_here : names_cell s i o ≡ true → cell_by es f i o (code.Values s) ≡ values_from s.bare s.value_from (suc s.value_upto - s.value_from)
    span_here e =
        let (a, b, c, d) = cell_named s i o e in
        span_cell a b ∙ given_one es i _ apart h (i - s.first) s.first s.end (omega arith) d good.upto g

    span_outside : ((j : ℕ) → s.from ≤ j → j ≤ s.upto → j ≡ o → ⊥) → cell_by es f i o (code.Values s) ≡ []
    span_outside d =
        ap (values_named (get_or es i blank).name o) (span_items es f s)
        ∙ all_there (get_or es i blank).name o (asked_of es s) (range s.from s.upto) (range s.value_from s.value_upto) s.bare d

    pub span_there : names_cell s i o ≡ false → cell_by es f i o (code.Values s) ≡ []
    span_there e =
        let d = cell_unnamed s i o e in
        by_order o s.from
        (λ l. span_outside (λ j a b q. omega arith))
        (λ l. by_order s.upto o
        (λ u. span_outside (λ j a b q. omega arith))
        (λ u. span_cell l u ∙ given_none es i _ apart h s.end s.first s.end (omega arith) good.upto (λ j a b q. d (l, u, omega arith, omega arith))))

    -- The highest of them, whether they are bare, and whether a value is among them.
    span_highest : greatest (λ c. c.0) (cell_by es f i o (code.Values s)) ≡ cond (names_cell s i o) s.value_upto 0
    span_highest =
        let (a, b, c) = span_values es s good in
        let e : suc s.value_upto - s.value_from ≡ suc (s.value_upto - s.value_from) = omega arith in
        by_test (names_cell s i o)
        (λ t. rw (span_here t, t, e, values_highest s.bare s.value_from (s.value_upto - s.value_from)) (omega arith))
        (λ t. rw (span_there t, t) (greatest_none _))

    span_bare : greatest (λ c. unmet c.1) (cell_by es f i o (code.Values s)) ≡ unmet (not (names_cell s i o) || s.bare)
    span_bare =
        let (a, b, c) = span_values es s good in
        let e : suc s.value_upto - s.value_from ≡ suc (s.value_upto - s.value_from) = omega arith in
        by_test (names_cell s i o)
        (λ t. rw (span_here t, t, e) (values_bare s.bare s.value_from (s.value_upto - s.value_from)))
        (λ t. rw (span_there t, t) (greatest_none _))

    span_value : (k : ℕ) → greatest (λ c. met (eqb c.0 k)) (cell_by es f i o (code.Values s)) ≡ met (names_cell s i o && leb s.value_from k && leb k s.value_upto)
    span_value k =
        by_test (names_cell s i o)
        (λ t. rw (span_here t, t) (by_order k s.value_from
        (λ l. rw (lt-leb s.value_from k l) (values_without s.bare k s.value_from (suc s.value_upto - s.value_from) (λ j a b q. omega arith)))
        (λ l. by_order s.value_upto k
        (λ u. rw (le-leb s.value_from k l, lt-leb k s.value_upto u) (values_without s.bare k s.value_from (suc s.value_upto - s.value_from) (λ j a b q. omega arith)))
        (λ u. rw (le-leb s.value_from k l, le-leb k s.value_upto u) (values_with s.bare k s.value_from (suc s.value_upto - s.value_from) l (omega arith))))))
        (λ t. rw (span_there t, t) (greatest_none _))

  -- A use of another kind says nothing.
  pub use_there : (u : Use) → GoodUse es f u → use_names u i o ≡ false → cell_by es f i o u ≡ []
  unfolding use_names values_named items_of
  use_there (code.Values s) good e = span_there s good e
  use_there (code.Blanks n) good e = refl
  use_there (code.Text from upto) good e = refl
  use_there (code.GroupCount j) good e = refl
  use_there (code.ValueCount j k) good e = refl

  pub use_highest : (u : Use) → GoodUse es f u → greatest (λ c. c.0) (cell_by es f i o u) ≡ highest_by u i o
  unfolding highest_by values_named items_of
  use_highest (code.Values s) good = span_highest s good
  use_highest (code.Blanks n) good = greatest_none _
  use_highest (code.Text from upto) good = greatest_none _
  use_highest (code.GroupCount j) good = greatest_none _
  use_highest (code.ValueCount j k) good = greatest_none _

  pub use_bare : (u : Use) → GoodUse es f u → greatest (λ c. unmet c.1) (cell_by es f i o u) ≡ unmet (bare_by u i o)
  unfolding bare_by values_named items_of
  use_bare (code.Values s) good = span_bare s good
  use_bare (code.Blanks n) good = greatest_none _
  use_bare (code.Text from upto) good = greatest_none _
  use_bare (code.GroupCount j) good = greatest_none _
  use_bare (code.ValueCount j k) good = greatest_none _

  pub use_value : (v : ℕ) (u : Use) → GoodUse es f u → greatest (λ c. met (eqb c.0 v)) (cell_by es f i o u) ≡ met (value_by u i o v)
  unfolding value_by values_named items_of
  use_value v (code.Values s) good = span_value s good v
  use_value v (code.Blanks n) good = greatest_none _
  use_value v (code.Text from upto) good = greatest_none _
  use_value v (code.GroupCount j) good = greatest_none _
  use_value v (code.ValueCount j k) good = greatest_none _

-- The last occurrence that a use names of an entry.
module _ (s : Span) (i : ℕ) where
  abbrev reach : ℕ
  reach = cond (leb s.first i && ltb i s.end) s.upto 0

  span_reach : (o : ℕ) → names_cell s i o ≡ true → o ≤ reach
  span_reach o e = let (a, b, c, d) = cell_named s i o e in rw (le-leb s.first i c, lt-ltb i s.end d) b

  reach_small : (most : ℕ) → s.upto ≤ most → reach ≤ most
  reach_small most h = by_test (leb s.first i && ltb i s.end) (λ t. rw t h) (λ t. rw t (omega arith))

  span_met : s.from ≤ s.upto → 0 < reach → names_cell s i reach ≡ true
  span_met h =
      by_test (leb s.first i && ltb i s.end)
      (λ t. let (c, d) = and_both (leb s.first i) (ltb i s.end) t in rw t (λ l. names_it s i s.upto (h, omega arith, leb-true s.first i c, ltb-true i s.end d)))
      (λ t. rw t (λ l. absurd (omega arith)))

pub use_reached : (u : Use) (i o : ℕ) → use_names u i o ≡ true → o ≤ use_reach u i
unfolding use_names use_reach
use_reached (code.Values s) i o e = span_reach s i o e
use_reached (code.Blanks n) i o e = absurd (true≢false (sym e))
use_reached (code.Text from upto) i o e = absurd (true≢false (sym e))
use_reached (code.GroupCount j) i o e = absurd (true≢false (sym e))
use_reached (code.ValueCount j k) i o e = absurd (true≢false (sym e))

module _ (es : List Entry) (f : Bytes) where
  pub use_small : (u : Use) → GoodUse es f u → (i : ℕ) → use_reach u i ≤ highest_index
  unfolding use_reach
  use_small (code.Values s) good i = let (a, b, c) = span_occurrences es s good in reach_small s i highest_index c
  use_small (code.Blanks n) good i = omega arith
  use_small (code.Text from upto) good i = omega arith
  use_small (code.GroupCount j) good i = omega arith
  use_small (code.ValueCount j k) good i = omega arith

  pub use_met : (u : Use) → GoodUse es f u → (i : ℕ) → 0 < use_reach u i → use_names u i (use_reach u i) ≡ true
  unfolding use_reach use_names
  use_met (code.Values s) good i = let (a, b, c) = span_occurrences es s good in span_met s i b
  use_met (code.Blanks n) good i = λ h. absurd (omega arith)
  use_met (code.Text from upto) good i = λ h. absurd (omega arith)
  use_met (code.GroupCount j) good i = λ h. absurd (omega arith)
  use_met (code.ValueCount j k) good i = λ h. absurd (omega arith)

  -- Values have indexes from 1 up.
  pub use_some : (u : Use) → GoodUse es f u → (i o : ℕ) → use_names u i o ≡ true → 1 ≤ highest_by u i o
  unfolding use_names highest_by
  use_some (code.Values s) good i o e = let (a, b, c) = span_values es s good in rw e (omega arith)
  use_some (code.Blanks n) good i o e = absurd (true≢false (sym e))
  use_some (code.Text from upto) good i o e = absurd (true≢false (sym e))
  use_some (code.GroupCount j) good i o e = absurd (true≢false (sym e))
  use_some (code.ValueCount j k) good i o e = absurd (true≢false (sym e))

  pub use_most : (u : Use) → GoodUse es f u → (i o : ℕ) → highest_by u i o ≤ highest_index
  unfolding highest_by
  use_most (code.Values s) good i o =
      let (a, b, c) = span_values es s good in
      by_test (names_cell s i o) (λ t. rw t c) (λ t. rw t (omega arith))
  use_most (code.Blanks n) good i o = omega arith
  use_most (code.Text from upto) good i o = omega arith
  use_most (code.GroupCount j) good i o = omega arith
  use_most (code.ValueCount j k) good i o = omega arith

  -- The chain of a use that names a cell is one of the cell's three.
  span_in : (s : Span) → GoodSpan es s → (i o : ℕ) → names_cell s i o ≡ true → (x : ℕ) × (x < 3) × (span_chain s ≡ chain_at x i o)
  unfolding span_chain chain_at
  span_in s good i o e =
      let (a, b, c, d) = cell_named s i o e in
      by_order (s.first + 1) s.end
      (λ l. (2, omega arith, rw (lt-ltb (s.first + 1) s.end l)))
      (λ l.
      let p : s.first ≡ i = omega arith in
      by_order s.from s.upto
      (λ m. (1, omega arith, rw (le-ltb (s.first + 1) s.end l, lt-ltb s.from s.upto m) (ap (λ j. field_chains + j) p)))
      (λ m.
      let q : s.from ≡ o = omega arith in
      (0, omega arith, rw (le-ltb (s.first + 1) s.end l, le-ltb s.from s.upto m) (ap (λ j. cell_chain j s.from) p ∙ ap (cell_chain i) q))))

  pub use_in : (u : Use) → GoodUse es f u → (i o : ℕ) → use_names u i o ≡ true → (x : ℕ) × (x < 3) × (use_chain u ≡ chain_at x i o)
  unfolding use_names use_chain
  use_in (code.Values s) good i o e = span_in s good i o e
  use_in (code.Blanks n) good i o e = absurd (true≢false (sym e))
  use_in (code.Text from upto) good i o e = absurd (true≢false (sym e))
  use_in (code.GroupCount j) good i o e = absurd (true≢false (sym e))
  use_in (code.ValueCount j k) good i o e = absurd (true≢false (sym e))
