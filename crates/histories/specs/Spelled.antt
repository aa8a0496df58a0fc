-- The plain spellings of one occurrence and of one count: `AA.`, `MF3.`, `BA2.`, `CB2(5).`, `MFC.`, `GBC.`, `CB2C.`
use Rattle.std.specs.Prelude.{List, [], ◌∷◌, ◌++◌, map, ℕ, ◌+◌}
use Rattle.rules.specs.Characters.{period, open_parenthesis, close_parenthesis, letter_C, digit_0}
use Rattle.rules.specs.Lists.{Bytes}

-- A number by its digits.
unfoldable pub figures : List ℕ → Bytes
figures ds = map (λ d. digit_0 + d) ds

-- What stands after the two bytes of a name: nothing, an index, an index and a value, C, an index and C.
unfoldable pub indexed : List ℕ → Bytes
indexed ds = figures ds

unfoldable pub valued : List ℕ → List ℕ → Bytes
valued ds vs = figures ds ++ (open_parenthesis ∷ figures vs ++ (close_parenthesis ∷ []))

unfoldable pub count_spelled : List ℕ → Bytes
count_spelled ds = figures ds ++ (letter_C ∷ [])

-- A name and the rest of an element after it, as a format.
unfoldable pub element_alone : ℕ → ℕ → Bytes → Bytes
element_alone a b rest = a ∷ b ∷ rest ++ (period ∷ [])
