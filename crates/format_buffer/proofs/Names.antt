-- The rules of a name and what follows it, step by step as the code takes them.
use Rattle.std.specs.Prelude.{None, Option, Some}
use mathlib.Core.Path.{◌≡◌, refl, ap, ◌∙◌}
use mathlib.Core.Bool.{true, false, false≢true, and-true, and-false}
use mathlib.Core.List.{[], ◌∷◌}
use mathlib.Core.Option.{none, some}
use Prim.Native.Nat.{ℕ, ◌+◌, ◌-◌, ◌≤◌, ◌<◌}
use native.Mathlib.Omega.{arith}
use lib.Dec.{eqb}
use lib.ListN.{length, get_or}
use borrow.Author.Tests.{ne_eqb}
use Rattle.buffer.proofs.Cases.{by_order}
use Rattle.rules.specs.Outcome.{Outcome, done, refused, by, ◌>>=◌, need}
use Rattle.rules.specs.Characters.{hyphen, open_parenthesis, close_parenthesis, letter_C}
use Rattle.rules.specs.Lists.{Bytes, nothing}
use Rattle.rules.specs.Table.{is_name, name_of}
use Rattle.rules.specs.Format.{Indexing, named, series, index_first, range_end, closing, parenthesis, takes_parenthesis, after_range, indexed_count, after_index, series_to, after_name}
use Rattle.format_buffer.specs.Part.{part}
use Rattle.format_buffer.specs.Elements.{number_bound, count_of}
use Rattle.format_buffer.specs.Numbers.{byte_alone, number_and_rest, Numbered}
use Rattle.format_buffer.specs.declared.Count.{Count}
use Rattle.format_buffer.proofs.Parts.{part_nil, part_cons}

-- What is known once the answer of a reader of numbers is.
pub numbered_value : {f : Bytes} {at upto : ℕ} {o : Outcome (ℕ × Bytes)} {r : (Option (ℕ × ℕ))} {n p : ℕ} → Numbered f at upto o r → r ≡ Some (n, p)
    → (o ≡ done (n, part f p upto)) × ((at ≤ p) × (p ≤ upto) × (n < number_bound))
numbered_value {f} {at} {upto} w q = (w.answer ∙ ap (number_and_rest f upto) q, rw q at w.place)

pub numbered_bad : {f : Bytes} {at upto : ℕ} {o : Outcome (ℕ × Bytes)} {r : (Option (ℕ × ℕ))} → Numbered f at upto o r → r ≡ None → o ≡ refused (by 3)
numbered_bad {f} {at} {upto} w q = w.answer ∙ ap (number_and_rest f upto) q

-- `)` and nothing more.
closing_shut : (x : Indexing) (bs : Bytes) → byte_alone close_parenthesis bs ≡ true → closing x bs ≡ done x
unfolding closing byte_alone
closing_shut x [] e = absurd (false≢true e)
closing_shut x (b ∷ bs) e = rw e refl

closing_open : (x : Indexing) (bs : Bytes) → byte_alone close_parenthesis bs ≡ false → closing x bs ≡ refused (by 3)
unfolding closing byte_alone
closing_open x [] e = refl
closing_open x (b ∷ bs) e = rw e refl

-- A parenthesis is an index, the end of a range and what closes it.
pub parenthesis_none : (bs : Bytes) → index_first bs ≡ refused (by 3) → parenthesis bs ≡ refused (by 3)
unfolding parenthesis
parenthesis_none bs e = rw e refl

module _ (bs : Bytes) {k : Indexing} {cs : Bytes} (e : index_first bs ≡ done (k, cs)) where
  pub parenthesis_bad : range_end k cs ≡ refused (by 3) → parenthesis bs ≡ refused (by 3)
  unfolding parenthesis
  parenthesis_bad h = rw (e, h) refl

  module _ {x : Indexing} {ds : Bytes} (h : range_end k cs ≡ done (x, ds)) where
    pub parenthesis_shut : byte_alone close_parenthesis ds ≡ true → parenthesis bs ≡ done x
    unfolding parenthesis
    parenthesis_shut t = rw (e, h) (closing_shut x ds t)

    pub parenthesis_open : byte_alone close_parenthesis ds ≡ false → parenthesis bs ≡ refused (by 3)
    unfolding parenthesis
    parenthesis_open t = rw (e, h) (closing_open x ds t)

-- After a name and its indexes.
module _ (n : ℕ) (x : Indexing) (f : Bytes) (at upto : ℕ) where
  pub after_range_nothing : at ≡ upto → after_range n x (part f at upto) ≡ done (named n (some x) none none none)
  unfolding after_range
  after_range_nothing e = rw (part_nil f at upto (omega arith)) refl

  module _ (h : at < upto) (k : upto ≤ length f) where
    pub after_range_all : takes_parenthesis x ≡ false → after_range n x (part f at upto) ≡ refused (by 3)
    unfolding after_range
    after_range_all e = rw (part_cons f at upto h k, e) refl

    pub after_range_none : (get_or f at 0 ≡ open_parenthesis → ⊥) → after_range n x (part f at upto) ≡ refused (by 3)
    unfolding after_range
    after_range_none e = rw (part_cons f at upto h k, ne_eqb _ _ e, and-false) refl

    pub after_range_open : takes_parenthesis x ≡ true → get_or f at 0 ≡ open_parenthesis → {o : Outcome Indexing} → parenthesis (part f (at + 1) upto) ≡ o
        → after_range n x (part f at upto) ≡ (o >>= λ v. done (named n (some x) (some v) none none))
    unfolding after_range
    after_range_open t e q = rw (part_cons f at upto h k, t, e, q) refl

-- After a name and an index.
module _ (n : ℕ) (x : Indexing) where
  pub after_index_count : (bs : Bytes) → byte_alone letter_C bs ≡ true → after_index n x bs ≡ done (indexed_count n x)
  unfolding after_index byte_alone
  after_index_count [] e = absurd (false≢true e)
  after_index_count (b ∷ bs) e = rw (e, after_index) refl

  pub after_index_range : (bs : Bytes) → byte_alone letter_C bs ≡ false → {o : Outcome (Indexing × Bytes)} → range_end x bs ≡ o
      → after_index n x bs ≡ (o >>= λ y. after_range n y.0 y.1)
  unfolding after_index after_range range_end byte_alone
  after_index_range [] e q = rw (← q) refl
  after_index_range (b ∷ bs) e q = rw (← q, e, after_index) refl

-- After a name and a hyphen.
module _ (n : ℕ) (f : Bytes) (at upto : ℕ) (k : upto ≤ length f) where
  pub series_two : upto - at ≡ 2 → series_to n (part f at upto) ≡ (need (is_name (get_or f at 0) (get_or f (at + 1) 0)) 3 >>= λ _. done (series n (name_of (get_or f at 0) (get_or f (at + 1) 0))))
  unfolding series_to nothing
  series_two e =
      rw (part_cons f at upto (omega arith) k, part_cons f (at + 1) upto (omega arith) k, part_nil f (at + 1 + 1) upto (omega arith), and-true) refl

  pub series_other : (upto - at ≡ 2 → ⊥) → series_to n (part f at upto) ≡ refused (by 3)
  unfolding series_to nothing
  series_other e =
      by_order at upto
      (λ h. by_order (at + 1) upto
      (λ l. rw (part_cons f at upto h k, part_cons f (at + 1) upto l k, part_cons f (at + 1 + 1) upto (omega arith) k, and-false) refl)
      (λ l. rw (part_cons f at upto h k, part_nil f (at + 1) upto l) refl))
      (λ h. rw (part_nil f at upto h) refl)

-- The count of a name, in no occurrence.
abbrev pub plain_count : ℕ → Count
plain_count n = record { name = n; index = None }

after_name_C : (n : ℕ) (bs : Bytes) → byte_alone letter_C bs ≡ true → after_name n bs ≡ done (count_of (plain_count n))
unfolding after_name byte_alone
after_name_C n [] e = absurd (false≢true e)
after_name_C n (b ∷ bs) e = rw (e, after_name) refl

after_name_other : (n b : ℕ) (bs : Bytes) → byte_alone letter_C (b ∷ bs) ≡ false
    → after_name n (b ∷ bs) ≡ elim (eqb b hyphen) [ true ↦ series_to n bs | false ↦ index_first (b ∷ bs) >>= (λ i. after_index n i.0 i.1) ]
unfolding after_name byte_alone
after_name_other n b bs e = rw (e, after_name) refl

-- After a name.
module _ (n : ℕ) (f : Bytes) (at upto : ℕ) where
  pub after_name_nothing : at ≡ upto → after_name n (part f at upto) ≡ done (named n none none none none)
  unfolding after_name
  after_name_nothing e = rw (part_nil f at upto (omega arith)) refl

  pub after_name_count : byte_alone letter_C (part f at upto) ≡ true → after_name n (part f at upto) ≡ done (count_of (plain_count n))
  after_name_count e = after_name_C n (part f at upto) e

  module _ (h : at < upto) (k : upto ≤ length f) (c : byte_alone letter_C (part f at upto) ≡ false) where
    pub after_name_series : get_or f at 0 ≡ hyphen → after_name n (part f at upto) ≡ series_to n (part f (at + 1) upto)
    after_name_series e = let q = rw (part_cons f at upto h k) at c in rw (part_cons f at upto h k, after_name_other n _ _ q, e) refl

    pub after_name_index : (get_or f at 0 ≡ hyphen → ⊥) → {o : Outcome (Indexing × Bytes)} → index_first (part f at upto) ≡ o
        → after_name n (part f at upto) ≡ (o >>= λ i. after_index n i.0 i.1)
    after_name_index e g =
        let q = rw (part_cons f at upto h k) at c in
        rw (← g) (rw (part_cons f at upto h k, after_name_other n _ _ q, ne_eqb _ _ e) refl)
