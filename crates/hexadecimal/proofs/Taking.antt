-- A word of a line, taken: the ways out of `take_bytes` over plain lists.
use Rattle.std.specs.Prelude.{None, Some}
use Rattle.std.proofs.lemmas.Option.{none-some, same_Some}
use mathlib.Core.Path.{◌≡◌, sym, ◌∙◌, ap}
use mathlib.Core.Option.{none, some}
use Prim.Native.Nat.{ℕ, ◌+◌, ◌*◌, ◌-◌, ◌≤◌, ◌<◌}
use native.Mathlib.Nat.{add-zero}
use native.Mathlib.Omega.{arith}
use borrow.Author.Tests.{le-leb, lt-leb}
use lib.ListN.{length, take, drop, length-drop}
use lib.Seq.{take_all}
use Rattle.rules.specs.Lists.{Bytes, same}
use Rattle.rules.proofs.Steps.{by_test, by_option, some_inj, not_some}
use Rattle.buffer.proofs.Laws.{splice_nil, length_part}
use Rattle.buffer.specs.Search.{upto_first}
use Rattle.hexadecimal.specs.Text.{empty_word, is_paired, spelled_bytes, number}
use Rattle.hexadecimal.specs.Lines.{word_at, word_bytes, place_after, next_at, number_at}
use Rattle.hexadecimal.specs.Answers.{DecodesWord, TakesWord}
use Rattle.hexadecimal.proofs.Pairs.{length_paired, spelled_bytes_hyphen, spelled_bytes_pairs, spelled_bytes_none}

-- A word takes no more than half its length.
pub spelled_bytes_half : (w bs : Bytes) → spelled_bytes w ≡ some bs → 2 * length bs ≤ length w
spelled_bytes_half w bs e =
    by_test (same w empty_word)
    (λ h. let l = ap length (some_inj (sym e ∙ spelled_bytes_hyphen w h)) in omega arith)
    (λ h. by_test (is_paired w)
    (λ p. let l = ap length (some_inj (sym e ∙ spelled_bytes_pairs w h p)) in omega (arith, length_paired w))
    (λ p. absurd (not_some (sym (spelled_bytes_none w h p) ∙ e))))

-- No bytes, and so no next word.
gives_none : (line : Bytes) (at start : ℕ) (out : Bytes) → at ≤ length line + 1 → 2 * start ≤ at → word_bytes at line ≡ none
    → TakesWord line at start out out (record { end = start; next = length line + 1 })
unfolding next_at place_after
gives_none line at start out h k e =
    record { end = rw (e, add-zero); next = rw e; after = rw e (sym (splice_nil start out)); upto = omega arith; within = omega arith }

pub takes_beyond : (line : Bytes) (at start : ℕ) (out : Bytes) → at ≤ length line + 1 → 2 * start ≤ at → length line < at
    → TakesWord line at start out out (record { end = start; next = length line + 1 })
unfolding word_bytes
takes_beyond line at start out h k b = gives_none line at start out h k (rw (lt-leb at (length line) b))

module _ (line : Bytes) (at stop start : ℕ) (out out' : Bytes) (h : at ≤ length line) (k : 2 * start ≤ at) (s : stop ≡ at + upto_first 32 (drop at line)) where
  word_is : word_at at line ≡ take (stop - at) (drop at line)
  unfolding word_at
  word_is = let e : stop - at ≡ upto_first 32 (drop at line) = omega arith in rw e

  bytes_are : word_bytes at line ≡ spelled_bytes (take (stop - at) (drop at line))
  unfolding word_bytes
  bytes_are = rw (le-leb at (length line) h, word_is)

  pub takes_none : DecodesWord (take (stop - at) (drop at line)) start out out' None → TakesWord line at start out out' (record { end = start; next = length line + 1 })
  takes_none d =
      by_option (spelled_bytes (take (stop - at) (drop at line))) (λ bs e. absurd (none-some _ (rw e at d.answer))) λ n.
      let e : out' ≡ out = rw n at d.after ∙ splice_nil start out in
      rw e (gives_none line at start out (omega arith) k (bytes_are ∙ n))

  pub takes_some : (end : ℕ) → stop ≤ length line → DecodesWord (take (stop - at) (drop at line)) start out out' (Some end)
      → TakesWord line at start out out' (record { end = end; next = stop + 1 })
  unfolding next_at place_after
  takes_some end l d =
      by_option (spelled_bytes (take (stop - at) (drop at line))) (λ bs e.
      let f = same_Some _ _ (rw e at d.answer) in
      let b = bytes_are ∙ e in
      let z : length (take (stop - at) (drop at line)) ≡ stop - at = length_part line at stop (omega arith) l in
      let m = spelled_bytes_half _ bs e in
      record {
        end = rw b f;
        next = rw (b, word_is) (omega arith);
        after = rw b (rw e at d.after);
        upto = omega arith;
        within = omega arith;
      }
      ) λ n. absurd (none-some _ (sym (rw n at d.answer)))

pub number_beyond : (at : ℕ) (line : Bytes) → length line < at → number_at at line ≡ none
unfolding number_at
number_beyond at line h = rw (lt-leb at (length line) h)

pub number_here : (at : ℕ) (line : Bytes) → at ≤ length line → number_at at line ≡ number (take (length line - at) (drop at line))
unfolding number_at
number_here at line h =
    rw (le-leb at (length line) h, take_all (length line - at) (drop at line) (omega (arith, length-drop at line)))
