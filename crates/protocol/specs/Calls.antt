-- The words of a call's line, and where the bytes of each end.
use Rattle.std.specs.Prelude.{◌≡◌, ◌++◌, ℕ, ◌+◌, ◌*◌, ◌≤◌, length}
use Rattle.rules.specs.Lists.{Bytes}
use Rattle.buffer.specs.Splice.{splice}
use Rattle.hexadecimal.specs.Lines.{word_bytes, next_at}
use Rattle.hexadecimal.specs.Answers.{written_bytes}
use Rattle.protocol.specs.declared.Three.{Three}
use Rattle.protocol.specs.declared.CallLine.{CallLine}

-- The bytes of the words after the first, which is one letter.
unfoldable pub first_bytes : Bytes → Bytes
first_bytes line = written_bytes (word_bytes 2 line)

unfoldable pub second_bytes : Bytes → Bytes
second_bytes line = written_bytes (word_bytes (next_at 2 line) line)

unfoldable pub third_bytes : Bytes → Bytes
third_bytes line = written_bytes (word_bytes (next_at (next_at 2 line) line) line)

-- They are decoded to out one after the other; where each ends, and where the next word begins.
pub record TakesThree (line out out' : Bytes) (r : Three) : Type 0 where
  pub table : r.table ≡ length (first_bytes line)
  pub record_end : r.record ≡ r.table + length (second_bytes line)
  pub format : r.format ≡ r.record + length (third_bytes line)
  pub next : r.next ≡ next_at (next_at (next_at 2 line) line) line
  pub after : out' ≡ splice 0 ((first_bytes line ++ second_bytes line) ++ third_bytes line) out
  pub upto : 2 * r.format ≤ r.next
  pub within : r.next ≤ length line + 1

-- The bytes of a call's words stand one after the other, in n bytes.
pub record Called (n : ℕ) (c : CallLine) : Type 0 where
  pub first : c.table ≤ c.record
  pub second : c.record ≤ c.format
  pub third : c.format ≤ c.buffer
  pub fourth : c.buffer ≤ n
