-- Names differ, so an entry is found by its name, and by no other's.
use mathlib.Core.Path.{◌≡◌, refl, sym, ap, ◌∙◌}
use mathlib.Core.Bool.{Bool, true, false, not}
use mathlib.Core.List.{List, [], ◌∷◌}
use Prim.Native.Nat.{ℕ, zero, suc, ◌+◌, ◌<◌}
use native.Mathlib.Nat.{le_of_suc-le-suc, not-suc-le-zero}
use native.Mathlib.Omega.{arith}
use borrow.Author.Tests.{eq-eqb, ne_eqb, eqb-false, not-true}
use lib.Dec.{eqb}
use lib.ListN.{length, get_or, drop}
use Rattle.rules.specs.Outcome.{done, refused, by}
use Rattle.rules.specs.Table.{Entry, differ, names, is_inside}
use Rattle.rules.specs.Use.{find, find_from}
use Rattle.rules.proofs.Bools.{and_both}
use Rattle.buffer.proofs.Cases.{by_order}
use Rattle.tables.specs.Entries.{blank}
use Rattle.tables.specs.Validity.{unused}
use Rattle.tables.specs.Places.{inside_from, found_at}
use Rattle.tables.proofs.Levels.{unused_cons, differ_cons}

unused_other : (n : ℕ) (es : List Entry) → unused n es ≡ true → (i : ℕ) → i < length es → (get_or es i blank).name ≡ n → ⊥
unused_other n [] u i h q = not-suc-le-zero h
unused_other n (e ∷ es) u zero h q =
    let x = and_both (not (eqb e.name n)) (unused n es) (sym (unused_cons n e es) ∙ u) in
    eqb-false e.name n (not-true (eqb e.name n) x.0) q
unused_other n (e ∷ es) u (suc i) h q =
    let x = and_both (not (eqb e.name n)) (unused n es) (sym (unused_cons n e es) ∙ u) in
    unused_other n es x.1 i (le_of_suc-le-suc h) q

-- "names differ": entries of one name are one entry
pub one_name : (es : List Entry) → differ (names es) ≡ true → (i j : ℕ) → i < length es → j < length es
    → (get_or es i blank).name ≡ (get_or es j blank).name → i ≡ j
one_name [] d i j h k q = absurd (not-suc-le-zero h)
one_name (e ∷ es) d zero zero h k q = refl
one_name (e ∷ es) d zero (suc j) h k q =
    let x = and_both (unused e.name es) (differ (names es)) (sym (differ_cons e es) ∙ d) in
    absurd (unused_other e.name es x.0 j (le_of_suc-le-suc k) (sym q))
one_name (e ∷ es) d (suc i) zero h k q =
    let x = and_both (unused e.name es) (differ (names es)) (sym (differ_cons e es) ∙ d) in
    absurd (unused_other e.name es x.0 i (le_of_suc-le-suc h) q)
one_name (e ∷ es) d (suc i) (suc j) h k q =
    let x = and_both (unused e.name es) (differ (names es)) (sym (differ_cons e es) ∙ d) in
    ap suc (one_name es x.1 i j (le_of_suc-le-suc h) (le_of_suc-le-suc k) q)

-- ---- a look-up, which finds the first entry with the name

-- No entry before entry i has the name n.
abbrev pub NoneBefore : ℕ → List Entry → ℕ → Type 0
NoneBefore n es i = (k : ℕ) → k < i → (get_or es k blank).name ≡ n → ⊥

pub none_next : (n : ℕ) (es : List Entry) (i : ℕ) → NoneBefore n es i → ((get_or es i blank).name ≡ n → ⊥) → NoneBefore n es (i + 1)
none_next n es i h o k l q = by_order k i (λ less. h k less q) (λ more. let z : k ≡ i = omega arith in o (rw z at q))

from_here : (before : Bool) (n : ℕ) (es : List Entry) (i : ℕ) → i < length es → NoneBefore n es i → (get_or es i blank).name ≡ n
    → find_from before n es ≡ done (record { entry = get_or es i blank; inside = inside_from before es i; after = drop (suc i) es })
unfolding find_from inside_from
from_here before n [] i l h q = absurd (not-suc-le-zero l)
from_here before n (e ∷ es) zero l h q = rw (eq-eqb e.name n q, find_from)
from_here before n (e ∷ es) (suc i) l h q =
    rw (ne_eqb e.name n (h 0 (omega arith)), find_from) (from_here (is_inside before e) n es i (le_of_suc-le-suc l) (λ k o. h (suc k) (omega arith)) q)

from_none : (before : Bool) (n : ℕ) (es : List Entry) → NoneBefore n es (length es) → find_from before n es ≡ refused (by 4)
unfolding find_from
from_none before n [] h = refl
from_none before n (e ∷ es) h = rw (ne_eqb e.name n (h 0 (omega arith)), find_from) (from_none (is_inside before e) n es (λ k o. h (suc k) (omega arith)))

module _ (n : ℕ) (es : List Entry) where
  pub find_here : (i : ℕ) → i < length es → NoneBefore n es i → (get_or es i blank).name ≡ n → find n es ≡ done (found_at es i)
  unfolding find found_at
  find_here = from_here false n es

  pub find_none : NoneBefore n es (length es) → find n es ≡ refused (by 4)
  unfolding find
  find_none = from_none false n es

-- the name of entry i finds entry i
pub find_name : (es : List Entry) → differ (names es) ≡ true → (i : ℕ) → i < length es → find (get_or es i blank).name es ≡ done (found_at es i)
find_name es d i h = find_here (get_or es i blank).name es i h (λ k l q. omega (arith, one_name es d k i (omega arith) h q)) refl

-- what a look-up cites
pub ruleset find_steps = (none_next, find_here, find_none)
