-- Which entry a name stands for, and which entries lie in a group, by their numbers in the table.
use Rattle.std.specs.Prelude.{◌≡◌, true, false, List, [], ◌∷◌, ℕ, zero, suc, ◌≤◌, ◌<◌, eqb, get_or}
use Rattle.rules.specs.Table.{What, Entry, Field}
use Rattle.tables.specs.Groups.{with_field}

-- Entry j is the first with the name n.
abbrev pub First : ℕ → List Entry → ℕ → Type 0
First n [] j = ⊥
First n (e ∷ es) zero = eqb e.name n ≡ true
First n (e ∷ es) (suc j) = (eqb e.name n ≡ false) × First n es j

-- The entries after entry g, up to entry j, have levels above 1: they lie in the group that entry g is.
abbrev pub Deeper : List Entry → Entry → ℕ → ℕ → Type 0
Deeper es d g j = (k : ℕ) → g < k → k ≤ j → 1 < (get_or es k d).level

-- The field that an entry is, if it is one.
unfoldable pub field_of : ℕ → What → List Field
field_of n w = with_field n w []
