-- What the program's functions ask of the areas that they are lent.
use Rattle.std.specs.Prelude.{List, ℕ, ◌+◌, ◌*◌, ◌≤◌, ◌<◌, length}

-- The longest buffer or room that a call is lent, and the longest line of an answer: two digits for each of its bytes, and 24 more.
abbrev pub room_size : ℕ
room_size = 40000

abbrev pub line_size : ℕ
line_size = 2 * room_size + 24

-- The input may hold a line and its newline, and bytes what the line spells. The output has room for an answer's line.
abbrev pub Areas : List ℕ → List ℕ → List ℕ → List ℕ → Type 0
Areas input bytes room out = (0 < length input) × (length input ≤ 2 * length bytes + 1) × (length room ≤ room_size) × (line_size ≤ length out)
