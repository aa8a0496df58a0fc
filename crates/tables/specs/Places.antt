-- An entry by its number: whether it is a periodic group or in one, and what a look-up of its name finds.
use Rattle.std.specs.Prelude.{◌≡◌, Bool, true, false, List, [], ◌∷◌, ℕ, zero, suc, ◌+◌, ◌<◌, ◌≤◌, length, get_or, drop, None, Option, Some}
use Rattle.rules.specs.Outcome.{done, refused}
use Rattle.rules.specs.Numbers.{refusal}
use Rattle.rules.specs.declared.Refusal.TheVariants.{UnknownName}
use Rattle.rules.specs.Table.{group, Entry, is_inside}
use Rattle.rules.specs.Use.{find}
use Rattle.rules.specs.Use as Use
use Rattle.tables.specs.Entries.{blank, what_at}
use Rattle.tables.specs.Groups.{run_below}

-- Whether entry i is a periodic group or in one, where the entry before the first is, or is not.
unfoldable pub inside_from : Bool → List Entry → ℕ → Bool
inside_from before [] i = false
inside_from before (e ∷ es) zero = is_inside before e
inside_from before (e ∷ es) (suc i) = inside_from (is_inside before e) es i

-- Whether entry i of a table is.
abbrev pub inside_at : List Entry → ℕ → Bool
inside_at es i = inside_from false es i

unfoldable pub found_at : List Entry → ℕ → Use.Found
found_at es i = record { entry = get_or es i blank; inside = inside_at es i; after = drop (suc i) es }

-- What a look-up answers: the number of the entry that has the name, or that none has it.
abbrev pub Finds : ℕ → List Entry → Option ℕ → Type 0
Finds n es (Some i) = (i < length es) × (find n es ≡ done (found_at es i))
Finds n es None = find n es ≡ refused (refusal UnknownName)

-- The periodic group that entry i is or lies in: its entry j, with i not after its last member.
pub record Home (es : List Entry) (i j : ℕ) : Type 0 where
  pub upto : j ≤ i
  pub level : (get_or es j blank).level ≡ 1
  pub periodic : what_at es j ≡ group true
  pub within : i ≤ j + run_below 1 (drop (suc j) es)
  pub inside : inside_at es i ≡ true

abbrev pub Homes : List Entry → ℕ → Option ℕ → Type 0
Homes es i (Some j) = Home es i j
Homes es i None = inside_at es i ≡ false
