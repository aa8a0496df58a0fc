-- The smallest length that holds a text is its own, or 1: shorter ones cut it. Outside the conversion range there is none, and a search from 1 up finds
-- that of any value.
use mathlib.Core.Path.{◌≡◌, sym, ◌∙◌, ap}
use mathlib.Core.Bool.{Bool, true, false}
use Prim.Native.Nat.{ℕ, zero, suc, max, ◌+◌, ◌≤◌, ◌<◌}
use native.Mathlib.Nat.{not-suc-le-zero}
use native.Mathlib.Omega.{arith}
use borrow.Author.Tests.{le-leb, lt-leb}
use lib.Dec.{leb}
use lib.ListN.{length, take}
use Rattle.rules.specs.Outcome.{is_done}
use Rattle.rules.specs.Limits.{longest_alpha}
use Rattle.rules.specs.Lists.{Bytes}
use Rattle.rules.specs.Values.{Format as Meant, text, alpha, allowed, longest, strip, meaning, normal, converted_bytes, would_hold, first_up, smallest_length}
use Rattle.rules.proofs.Done.{is_done_need}
use Rattle.rules.proofs.Bools.{and_off}
use Rattle.rules.proofs.Lengths.{first_next, first_end, first_at, longest_unheld}
use Rattle.rules.proofs.Digits.{Below}
use Rattle.fixed.specs.Words.{value_of}
use Rattle.value_formats.specs.Formats.{format_at}
use Rattle.value_formats.specs.declared.Format.{Format}
use Rattle.values.specs.Fits.{Convertible}
use Rattle.values.proofs.Converted.{valued}
use Rattle.values.proofs.Numbered.{at_alpha, is_alpha, not_alpha, alpha_alone, longest_size}
use Rattle.values.proofs.Strip.{cut_size, converted_text}

fits_text : (n : ℕ) (t : Bytes) → 1 ≤ n → is_done (normal alpha n (text t)) ≡ leb (length t) n
unfolding normal
fits_text zero t h = absurd (not-suc-le-zero h)
fits_text (suc n) t h = is_done_need (leb (length t) (suc n)) _

-- A text of r bytes.
module _ (s : Bytes) (r : ℕ) (k : r ≤ length s) (e : strip s ≡ take r s) (l : length s ≤ longest_alpha) where
  holds_text : (n : ℕ) → 1 ≤ n → is_done (converted_bytes alpha alpha n s) ≡ leb r n
  holds_text n h = ap is_done (converted_text s r k e n) ∙ fits_text n (take r s) h ∙ ap (λ (m : ℕ). leb m n) (cut_size s r k e)

  held : (n : ℕ) → 1 ≤ n → n ≤ longest_alpha → r ≤ n → would_hold alpha alpha s n ≡ true
  unfolding would_hold allowed
  held n h a b = rw (le-leb n longest_alpha a) (holds_text n h ∙ le-leb r n b)

  short : (n : ℕ) → 1 ≤ n → n < r → would_hold alpha alpha s n ≡ false
  unfolding would_hold
  short n h a = and_off (allowed alpha n) (holds_text n h ∙ lt-leb r n a)

  pub text_smallest : max r 1 ≡ smallest_length alpha alpha s
  unfolding smallest_length
  text_smallest =
      let m = max r 1 in
      sym (first_at (would_hold alpha alpha s) 1 longest_alpha m (omega arith) (omega arith) (held m (omega arith) (omega arith) (omega arith)) (λ j x y. short j x (omega arith)))

-- Outside the conversion range the longest length does not hold a number, and none does.
pub longest_none : {from to : Format} {n : ℕ} {s : Bytes} → Convertible from to n s → Below 256 s → would_hold (format_at from) (format_at to) s (longest (format_at to)) ≡ false
    → smallest_length (format_at from) (format_at to) s ≡ 0
longest_none {from} {to} {n} {s} a b h =
    let m = meaning (format_at from) s in
    longest_unheld (format_at from) (format_at to) s (value_of m) a.size b (valued m a.value) h

-- A search from 1 up ends at a length that holds where those below it do not, and finds nothing where none does.
none_up : (test : ℕ → Bool) (n count : ℕ) → ((j : ℕ) → n ≤ j → j < n + count → test j ≡ false) → first_up test n count ≡ 0
none_up test n zero h = first_end test n
none_up test n (suc count) h = first_next test n count (h n (omega arith) (omega arith)) ∙ none_up test (suc n) count (λ j a b. h j (omega arith) (omega arith))

module _ (f g : Meant) (s : Bytes) where
  pub smallest_none : ((j : ℕ) → 1 ≤ j → j ≤ longest g → would_hold f g s j ≡ false) → 0 ≡ smallest_length f g s
  unfolding smallest_length
  smallest_none h = sym (none_up (would_hold f g s) 1 (longest g) (λ j a b. h j a (omega arith)))

  pub smallest_is : (n : ℕ) → 1 ≤ n → n ≤ longest g → would_hold f g s n ≡ true → ((j : ℕ) → 1 ≤ j → j < n → would_hold f g s j ≡ false) → n ≡ smallest_length f g s
  unfolding smallest_length
  smallest_is n a b t h = sym (first_at (would_hold f g s) 1 (longest g) n a (omega arith) t h)

-- What the function cites where it needs no search.
pub ruleset by_search = (at_alpha, is_alpha, not_alpha, alpha_alone, longest_size, longest_none)
