-- Whether an entry is a periodic group or in one: above level 1 it is where the entry before it is, and at level 1 only where it is one itself; by induction over the entries before it.
use mathlib.Core.Path.{◌≡◌, refl, sym, ap, ◌∙◌}
use mathlib.Core.Bool.{Bool, true, false, ◌||◌, and-true, and-false, or-false}
use mathlib.Core.List.{List, [], ◌∷◌}
use Prim.Native.Nat.{ℕ, zero, suc, ◌≤◌, ◌<◌}
use native.Mathlib.Omega.{arith}
use borrow.Author.Tests.{lt-ltb, le-ltb}
use lib.ListN.{get_or}
use Rattle.rules.specs.Table.{What, field, group, Entry, inside_of, is_inside}
use Rattle.tables.specs.Entries.{blank, is_periodic}
use Rattle.tables.specs.Places.{inside_from, inside_at}
use Rattle.tables.proofs.EntryBytes.{Sound}

deeper : (b : Bool) (l : ℕ) (w : What) → 1 < l → Sound l w → inside_of b l w ≡ b
unfolding inside_of
deeper b l (field f n m) h s = rw (lt-ltb 1 l h) (and-true b)
deeper b l (group true) h s = absurd (omega (arith, s refl))
deeper b l (group false) h s = rw (lt-ltb 1 l h) (and-true b)

top : (b : Bool) (l : ℕ) (w : What) → l ≤ 1 → inside_of b l w ≡ is_periodic w
unfolding inside_of
top b l (field f n m) h = rw (le-ltb 1 l h) (and-false b)
top b l (group p) h = rw (le-ltb 1 l h) (ap (λ c. p || c) (and-false b) ∙ or-false p)

-- By the entry before it.
pub inside_next : (before : Bool) (es : List Entry) (i : ℕ) → inside_from before es (suc i) ≡ is_inside (inside_from before es i) (get_or es (suc i) blank)
unfolding inside_from inside_of blank
inside_next before [] i = refl
inside_next before (e ∷ []) zero = sym (and-false (is_inside before e))
inside_next before (e ∷ x ∷ es) zero = refl
inside_next before (e ∷ es) (suc i) = inside_next (is_inside before e) es i

-- By itself, whatever stands before it.
pub inside_by : {C : Type 0} (before : Bool) (es : List Entry) (i : ℕ) → ((b : Bool) → inside_from before es i ≡ is_inside b (get_or es i blank) → C) → C
unfolding inside_from inside_of blank
inside_by before [] i k = k false refl
inside_by before (e ∷ es) zero k = k before refl
inside_by before (e ∷ es) (suc i) k = inside_by (is_inside before e) es i k

module _ (es : List Entry) (i : ℕ) where
  pub inside_up : 1 < (get_or es (suc i) blank).level → Sound (get_or es (suc i) blank).level (get_or es (suc i) blank).what → inside_at es (suc i) ≡ inside_at es i
  inside_up h s = inside_next false es i ∙ deeper (inside_at es i) (get_or es (suc i) blank).level (get_or es (suc i) blank).what h s

  pub inside_one : (get_or es i blank).level ≤ 1 → inside_at es i ≡ is_periodic (get_or es i blank).what
  inside_one h = inside_by false es i λ b e. e ∙ top b (get_or es i blank).level (get_or es i blank).what h
