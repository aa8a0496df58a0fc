-- What the answers of the code mean.
use Rattle.std.specs.Prelude.{◌≡◌, [], ℕ, ◌+◌, ◌*◌, ◌≤◌, length, None, Some, Option as Optional}
use Rattle.std.proofs.Math.Option.{Option, none, some}
use Rattle.rules.specs.Lists.{Bytes}
use Rattle.buffer.specs.Splice.{splice}
use Rattle.hexadecimal.specs.Text.{spelled_bytes}
use Rattle.hexadecimal.specs.Lines.{word_bytes, next_at}
use Rattle.hexadecimal.specs.declared.TakenWord.{TakenWord}

abbrev pub number_read : Option ℕ → Optional ℕ
number_read none = None
number_read (some n) = Some n

-- The place after the bytes, written from `at`.
abbrev pub decoded_upto : ℕ → Option Bytes → Optional ℕ
decoded_upto at none = None
decoded_upto at (some bs) = Some (at + length bs)

-- What is written: nothing if there are no bytes.
abbrev pub written_bytes : Option Bytes → Bytes
written_bytes none = []
written_bytes (some bs) = bs

-- A word is decoded to out from `at`, and nothing is written if it spells no bytes.
pub record DecodesWord (word : Bytes) (at : ℕ) (out out' : Bytes) (r : Optional ℕ) : Type 0 where
  pub answer : r ≡ decoded_upto at (spelled_bytes word)
  pub after : out' ≡ splice at (written_bytes (spelled_bytes word)) out

-- The word of a line from `at` is decoded to out from start on; the place after its bytes, and the next word's.
pub record TakesWord (line : Bytes) (at start : ℕ) (out out' : Bytes) (r : TakenWord) : Type 0 where
  pub end : r.end ≡ start + length (written_bytes (word_bytes at line))
  pub next : r.next ≡ next_at at line
  pub after : out' ≡ splice start (written_bytes (word_bytes at line)) out
  pub upto : 2 * r.end ≤ r.next
  pub within : r.next ≤ length line + 1
