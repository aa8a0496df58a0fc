-- The use rules of indexes, by the tests that the code makes.
use mathlib.Core.Path.{◌≡◌, refl, ap}
use mathlib.Core.Bool.{Bool, true, false, ◌&&◌, and-true}
use mathlib.Core.Option.{Option, none, some}
use Prim.Native.Nat.{ℕ, suc, ◌+◌, ◌≤◌}
use native.Mathlib.Numerals.{add-one}
use borrow.Author.Tests.{leb-true}
use lib.Dec.{leb}
use Rattle.rules.specs.Outcome.{done, refused, by}
use Rattle.rules.specs.Limits.{highest_index}
use Rattle.rules.specs.Format.{Range}
use Rattle.rules.specs.Use.{Spread, just, in_order, spread}
use Rattle.rules.proofs.Steps.{from_need, done_inj, not_done}
use Rattle.rules.proofs.Bools.{and_both}
use Rattle.uses.specs.Spread.{ranged}

pub one_ordered : in_order (just 1) ≡ true
unfolding in_order
one_ordered = refl

pub ordered_within : (r : Range) → in_order r ≡ true → (1 ≤ r.from) × (r.from ≤ r.upto) × (r.upto ≤ highest_index)
unfolding in_order
ordered_within r e =
    let x = and_both (leb 1 r.from && leb r.from r.upto) (leb r.upto highest_index) e in
    let y = and_both (leb 1 r.from) (leb r.from r.upto) x.0 in
    (leb-true 1 r.from y.0, leb-true r.from r.upto y.1, leb-true r.upto highest_index x.1)

-- In a periodic group.
module _ (last : ℕ) where
  pub no_occurrences : (mu : Bool) (vs : Option Range) → refused (by 5) ≡ spread true mu last none vs
  unfolding spread
  no_occurrences mu vs = refl

  pub no_values : (mu : Bool) (os : Range) → ranged os (just 1) false ≡ spread true mu last (some os) none
  unfolding ranged spread
  no_values mu os = rw (one_ordered, and-true (in_order os))

  pub its_values : (os vs : Range) → ranged os vs false ≡ spread true true last (some os) (some vs)
  unfolding ranged spread
  its_values os vs = refl

  pub not_multiple : (os vs : Range) → refused (by 5) ≡ spread true false last (some os) (some vs)
  unfolding spread
  not_multiple os vs = refl

-- Outside.
module _ (last : ℕ) where
  pub bracketed : (mu : Bool) (os : Option Range) (vs : Range) → refused (by 5) ≡ spread false mu last os (some vs)
  unfolding spread
  bracketed true none vs = refl
  bracketed true (some os) vs = refl
  bracketed false none vs = refl
  bracketed false (some os) vs = refl

  pub next_value : ranged (just 1) (just (last + 1)) true ≡ spread false true last none none
  unfolding ranged spread
  next_value = rw (add-one, one_ordered)

  pub outside_values : (vs : Range) → ranged (just 1) vs false ≡ spread false true last (some vs) none
  unfolding ranged spread
  outside_values vs = rw one_ordered

  pub plain_alone : ranged (just 1) (just 1) false ≡ spread false false last none none
  unfolding ranged spread
  plain_alone = rw one_ordered

  pub plain_indexed : (os : Range) → refused (by 5) ≡ spread false false last (some os) none
  unfolding spread
  plain_indexed os = refl

-- What lies outside has occurrence 1 alone.
outside_alone : (mu : Bool) (last : ℕ) (os vs : Option Range) (s : Spread) → spread false mu last os vs ≡ done s → s.occurrences ≡ just 1
unfolding spread
outside_alone mu last os (some vs) s p = absurd (not_done p)
outside_alone true last none none s p = from_need (in_order (just (suc last))) 5 _ p λ t k. rw (← done_inj k) refl
outside_alone true last (some vs) none s p = from_need (in_order vs) 5 _ p λ t k. rw (← done_inj k) refl
outside_alone false last none none s p = rw (← done_inj p) refl
outside_alone false last (some os) none s p = absurd (not_done p)

pub upto_one : (inside mu : Bool) (last : ℕ) (os vs : Option Range) (s : Spread) → spread inside mu last os vs ≡ done s → inside ≡ false → s.occurrences.upto ≡ 1
upto_one inside mu last os vs s p e = ap (λ (r : Range). r.upto) (outside_alone mu last os vs s (rw e at p))

-- What is not MU has value 1 alone.
pub value_one : (inside : Bool) (last : ℕ) (os vs : Option Range) (s : Spread) → spread inside false last os vs ≡ done s → s.values ≡ just 1
unfolding spread
value_one true last none vs s p = absurd (not_done p)
value_one true last (some os) none s p = from_need (in_order os) 5 _ p λ t k. rw (← done_inj k) refl
value_one true last (some os) (some vs) s p = absurd (not_done p)
value_one false last os (some vs) s p = absurd (not_done p)
value_one false last none none s p = rw (← done_inj p) refl
value_one false last (some os) none s p = absurd (not_done p)

-- What lies in a periodic group, and outside.
pub ruleset inside_laws = (no_occurrences, no_values, its_values, not_multiple)

pub ruleset outside_laws = (bracketed, next_value, outside_values, plain_alone, plain_indexed)
