-- Where a field stands in the record, which of its occurrences a format can name, and the part with a name.
use mathlib.Core.Path.{◌≡◌}
use mathlib.Core.Bool.{true, false}
use mathlib.Core.List.{List, [], ◌∷◌}
use mathlib.Core.Option.{Option, none, some}
use Prim.Native.Nat.{ℕ, ◌≤◌}
use lib.Dec.{eqb}
use Rattle.rules.specs.Table.{Field, Part, member, part_named}
use Rattle.rules.proofs.Steps.{by_option, not_some, from_some_pair}

-- The field with a name, and the part that it stands in.
unfoldable pub home : ℕ → List Part → Option (Part × Field)
home n [] = none
home n (p ∷ ps) = elim (member n p.members) [ some f ↦ some (p, f) | none ↦ home n ps ]

-- Value k of the field f of the part p in occurrence i: indexes count from 1, and there is only 1 where nothing is counted.
pub record Occurs (p : Part) (f : Field) (i k : ℕ) : Type 0 where
  pub occurrence : 1 ≤ i
  pub value : 1 ≤ k
  pub single : p.periodic ≡ false → i ≡ 1
  pub plain : f.multiple ≡ false → k ≡ 1

pub home_member : (n : ℕ) (ps : List Part) (p : Part) (f : Field) → home n ps ≡ some (p, f) → member n p.members ≡ some f
unfolding home
home_member n [] p f h = absurd (not_some h)
home_member n (q ∷ ps) p f h = by_option (member n q.members)
    (λ g e. from_some_pair (rw (e, home) at h) λ a b. rw (← a, ← b) e)
    (λ e. home_member n ps p f (rw (e, home) at h))

pub named_here : (n : ℕ) (p : Part) (ps : List Part) → eqb p.name n ≡ true → part_named n (p ∷ ps) ≡ some p
unfolding part_named
named_here n p ps t = rw (t, part_named)

pub named_skip : (n : ℕ) (p : Part) (ps : List Part) → eqb p.name n ≡ false → part_named n (p ∷ ps) ≡ part_named n ps
unfolding part_named
named_skip n p ps t = rw (t, part_named)
