-- The lines of answers.
use Rattle.std.specs.Prelude.{◌≡◌, [], ◌∷◌, ◌++◌, ℕ, ◌+◌, ◌*◌, ◌≤◌, length}
use Rattle.rules.specs.Lists.{Bytes}
use Rattle.buffer.specs.Splice.{splice}
use Rattle.hexadecimal.specs.Text.{spelling, decimal_word}

-- Every answer has three words: its number, how many bytes it gives, and the bytes.
unfoldable pub answer_words : ℕ → Bytes → Bytes
answer_words n bs = (decimal_word n ++ (32 ∷ [])) ++ (decimal_word (length bs) ++ (32 ∷ [])) ++ spelling bs

unfoldable pub answer_line : ℕ → Bytes → Bytes
answer_line n bs = answer_words n bs ++ (10 ∷ [])

-- The answer to a read has a fourth word, which is the length that is needed.
unfoldable pub read_line : ℕ → Bytes → ℕ → Bytes
read_line n bs needed = answer_words n bs ++ (32 ∷ []) ++ (decimal_word needed ++ (10 ∷ []))

-- The answer to a line that is no call.
abbrev pub no_call_line : Bytes
no_call_line = 63 ∷ 32 ∷ 48 ∷ 32 ∷ 45 ∷ 10 ∷ []

-- The words of an answer are written to out from `at`, and r is the place after them.
pub record AnswersWords (number : ℕ) (bytes : Bytes) (at : ℕ) (out out' : Bytes) (r : ℕ) : Type 0 where
  pub after : out' ≡ splice at (answer_words number bytes) out
  pub end : r ≡ at + length (answer_words number bytes)
  pub short : r ≤ at + (2 * length bytes + 15)

-- The line of an answer is written to out from `at`, and r is the place after it.
pub record Answers (number : ℕ) (bytes : Bytes) (at : ℕ) (out out' : Bytes) (r : ℕ) : Type 0 where
  pub after : out' ≡ splice at (answer_line number bytes) out
  pub end : r ≡ at + length (answer_line number bytes)
  pub short : r ≤ at + (2 * length bytes + 16)

-- The line of a read's answer is written in the same way.
pub record AnswersRead (number : ℕ) (bytes : Bytes) (needed at : ℕ) (out out' : Bytes) (r : ℕ) : Type 0 where
  pub after : out' ≡ splice at (read_line number bytes needed) out
  pub end : r ≡ at + length (read_line number bytes needed)
  pub short : r ≤ at + (2 * length bytes + 24)
