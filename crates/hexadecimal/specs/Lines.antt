-- A line of words that are parted by single spaces.
use Rattle.std.specs.Prelude.{cond, ℕ, ◌+◌, leb, length, take, drop}
use Rattle.std.proofs.Math.Option.{Option, none, some}
use Rattle.rules.specs.Lists.{Bytes}
use Rattle.buffer.specs.Search.{upto_first}
use Rattle.hexadecimal.specs.Text.{spelled_bytes, number}

-- The word from a place on.
unfoldable pub word_at : ℕ → Bytes → Bytes
word_at at line = take (upto_first 32 (drop at line)) (drop at line)

-- The bytes that the word from a place on spells. No word begins after the end of the line.
unfoldable pub word_bytes : ℕ → Bytes → Option Bytes
word_bytes at line = cond (leb at (length line)) (spelled_bytes (word_at at line)) none

-- Where the next word begins: one place after the end of the line if there is none, or if this word spells no bytes.
unfoldable pub place_after : ℕ → Bytes → Option Bytes → ℕ
place_after at line none = length line + 1
place_after at line (some bs) = at + (length (word_at at line) + 1)

unfoldable pub next_at : ℕ → Bytes → ℕ
next_at at line = place_after at line (word_bytes at line)

-- The number that the line spells from a place on to its end.
unfoldable pub number_at : ℕ → Bytes → Option ℕ
number_at at line = cond (leb at (length line)) (number (drop at line)) none
