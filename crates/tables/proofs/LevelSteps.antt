-- Levels by entry number: each is within its range, and an entry after a group is one deeper.
use mathlib.Core.Path.{◌≡◌, refl, sym, ap, ◌∙◌}
use mathlib.Core.Bool.{Bool, true, false, true≢false, false≢true}
use mathlib.Core.List.{List, [], ◌∷◌}
use Prim.Native.Nat.{ℕ, zero, suc, ◌≤◌, ◌<◌}
use native.Mathlib.Nat.{le_of_suc-le-suc, not-suc-le-zero}
use native.Mathlib.Omega.{arith}
use borrow.Author.Tests.{leb-true, eqb-true}
use lib.Dec.{eqb, leb}
use lib.ListN.{length, get_or}
use Rattle.rules.specs.Limits.{deepest_level}
use Rattle.rules.specs.Table.{What, field, group, Entry, levels}
use Rattle.rules.proofs.Bools.{and_both}
use Rattle.tables.specs.Entries.{blank, is_group, is_periodic}
use Rattle.tables.specs.Validity.{follows}
use Rattle.tables.proofs.Levels.{mark, levels_cons, levels_nil}

module _ (l k : ℕ) where
  follows_range : (g : Bool) → l ≤ deepest_level → follows g l k ≡ true → (1 ≤ k) × (k ≤ deepest_level)
  unfolding follows
  follows_range true h f =
      let x = and_both (eqb k (suc l)) (leb k deepest_level) f in
      let q = eqb-true k (suc l) x.0 in
      (omega arith, leb-true k deepest_level x.1)
  follows_range false h f =
      let x = and_both (leb 1 k) (leb k l) f in
      (leb-true 1 k x.0, omega (arith, leb-true k l x.1))

  follows_deeper : follows true l k ≡ true → k ≡ suc l
  unfolding follows
  follows_deeper f = eqb-true k (suc l) (and_both (eqb k (suc l)) (leb k deepest_level) f).0

first_of : (g : Bool) (l : ℕ) (e : Entry) (es : List Entry) → levels (mark g) l (e ∷ es) ≡ true
    → (follows g l e.level ≡ true) × (levels (mark (is_group e.what)) e.level es ≡ true)
first_of g l e es v = and_both (follows g l e.level) (levels (mark (is_group e.what)) e.level es) (sym (levels_cons g l e es) ∙ v)

range_from : (g : Bool) (l : ℕ) (es : List Entry) → l ≤ deepest_level → levels (mark g) l es ≡ true
    → (i : ℕ) → i < length es → (1 ≤ (get_or es i blank).level) × ((get_or es i blank).level ≤ deepest_level)
range_from g l [] h v i k = absurd (not-suc-le-zero k)
range_from g l (e ∷ es) h v zero k = follows_range l e.level g h (first_of g l e es v).0
range_from g l (e ∷ es) h v (suc i) k =
    let x = first_of g l e es v in
    range_from (is_group e.what) e.level es (follows_range l e.level g h x.0).1 x.1 i (le_of_suc-le-suc k)

next_of : (g : Bool) (l : ℕ) (es : List Entry) → g ≡ true → levels (mark g) l es ≡ true → (0 < length es) × ((get_or es 0 blank).level ≡ suc l)
next_of true l [] e v = absurd (true≢false (sym v ∙ levels_nil true l))
next_of true l (x ∷ es) e v = (omega arith, follows_deeper l x.level (first_of true l x es v).0)
next_of false l es e v = absurd (false≢true e)

next_from : (g : Bool) (l : ℕ) (es : List Entry) → levels (mark g) l es ≡ true
    → (i : ℕ) → i < length es → is_group (get_or es i blank).what ≡ true → (suc i < length es) × ((get_or es (suc i) blank).level ≡ suc (get_or es i blank).level)
next_from g l [] v i k w = absurd (not-suc-le-zero k)
next_from g l (e ∷ es) v zero k w =
    let x = next_of (is_group e.what) e.level es w (first_of g l e es v).1 in
    (omega arith, x.1)
next_from g l (e ∷ es) v (suc i) k w =
    let x = next_from (is_group e.what) e.level es (first_of g l e es v).1 i (le_of_suc-le-suc k) w in
    (omega arith, x.1)

module _ (es : List Entry) (v : levels (group false) 0 es ≡ true) where
  -- every entry has a level from 1 to 7
  pub level_range : (i : ℕ) → i < length es → (1 ≤ (get_or es i blank).level) × ((get_or es i blank).level ≤ deepest_level)
  level_range = range_from true 0 es (omega arith) v

  -- "The first entry has level 1."
  pub first_level : (get_or es 0 blank).level ≡ 1
  first_level = (next_of true 0 es refl v).1

  -- "After a group the next entry has that group's level plus 1": no group is empty
  pub group_next : (i : ℕ) → i < length es → is_group (get_or es i blank).what ≡ true
      → (suc i < length es) × ((get_or es (suc i) blank).level ≡ suc (get_or es i blank).level)
  group_next = next_from true 0 es v

pub periodic_what : (w : What) → is_periodic w ≡ true → w ≡ group true
periodic_what (field f n m) e = absurd (false≢true e)
periodic_what (group p) e = ap group e
