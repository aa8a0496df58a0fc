-- The words of an answer are its three parts, written one after the other, and its line is the words and what is written where they end.
use mathlib.Core.Path.{◌≡◌}
use mathlib.Core.List.{[], ◌∷◌, ◌++◌}
use Prim.Native.Nat.{ℕ, ◌+◌, ◌*◌, ◌≤◌}
use native.Mathlib.Omega.{arith}
use lib.ListN.{length, set, length-append}
use Rattle.rules.specs.Lists.{Bytes}
use Rattle.buffer.specs.Splice.{splice}
use Rattle.buffer.proofs.Laws.{splice_chain}
use Rattle.hexadecimal.specs.Text.{decimal_word, spelling}
use Rattle.hexadecimal.proofs.Ways.{spelling_short, push}
use Rattle.protocol.specs.Answers.{answer_words, answer_line, read_line, AnswersWords, Answers, AnswersRead}

-- A number and a last byte.
abbrev pub field : ℕ → ℕ → Bytes
field n last = decimal_word n ++ (last ∷ [])

module _ (number at : ℕ) (bytes out : Bytes) where
  pub words : (m a b e : ℕ) (out₁ out₂ out₃ : Bytes) → m ≡ number → at + (2 * length bytes + 15) ≤ length out
      → (a ≡ at + length (field m 32)) × (out₁ ≡ splice at (field m 32) out) × (a ≤ at + 7)
      → (b ≡ a + length (field (length bytes) 32)) × (out₂ ≡ splice a (field (length bytes) 32) out₁) × (b ≤ a + 7)
      → (e ≡ b + length (spelling bytes)) × (out₃ ≡ splice b (spelling bytes) out₂)
      → AnswersWords number bytes at out out₃ e
  unfolding answer_words
  words m a b e out₁ out₂ out₃ q h f g k =
      let n = field m 32 in
      let l = field (length bytes) 32 in
      let s = spelling_short bytes in
      let nl = length-append n l in
      let nls = length-append (n ++ l) (spelling bytes) in
      let one = splice_chain at n l out out₁ out₂ a f.1 g.1 f.0 (omega arith) in
      rw (← q) (record {
        after = splice_chain at (n ++ l) (spelling bytes) out out₂ out₃ b one k.1 (omega arith) (omega arith);
        end = omega arith;
        short = omega arith;
      })

  pub answers : (e : ℕ) (out₁ : Bytes) → at + (2 * length bytes + 16) ≤ length out → AnswersWords number bytes at out out₁ e
      → Answers number bytes at out (set out₁ e 10) (e + 1)
  unfolding answer_line
  answers e out₁ h w =
      let all = length-append (answer_words number bytes) (10 ∷ []) in
      record {
        after = push at (answer_words number bytes) out out₁ e 10 w.after w.end (omega arith);
        end = omega arith;
        short = omega arith;
      }

  pub answers_read : (needed e r : ℕ) (out₁ out₂ : Bytes) → at + (2 * length bytes + 24) ≤ length out → AnswersWords number bytes at out out₁ e
      → (r ≡ e + 1 + length (field needed 10)) × (out₂ ≡ splice (e + 1) (field needed 10) (set out₁ e 32)) × (r ≤ e + 1 + 7)
      → AnswersRead number bytes needed at out out₂ r
  unfolding read_line
  answers_read needed e r out₁ out₂ h w f =
      let ws = answer_words number bytes in
      let spaced = length-append ws (32 ∷ []) in
      let all = length-append (ws ++ (32 ∷ [])) (field needed 10) in
      let space = push at ws out out₁ e 32 w.after w.end (omega arith) in
      record {
        after = splice_chain at (ws ++ (32 ∷ [])) (field needed 10) out _ out₂ (e + 1) space f.1 (omega arith) (omega arith);
        end = omega arith;
        short = omega arith;
      }
