-- A half byte is a sign if and only if it is no digit, and no sign is both plus and minus; by comparing it with each of the six.
use mathlib.Core.Path.{◌≡◌, sym, ◌∙◌}
use mathlib.Core.Bool.{true, false, false≢true}
use Prim.Native.Nat.{ℕ, ◌≤◌, ◌<◌}
use native.Mathlib.Omega.{arith}
use lib.Dec.{eqb, ltb}
use borrow.Author.Tests.{eqb-true, eqb-false, ne_eqb, ltb-true, ltb-false}
use Rattle.rules.specs.Values.{accepted_plus, accepted_minus}
use Rattle.rules.proofs.Steps.{by_test}
use Rattle.decimals.specs.Tests.{is_sign}

module _ (s : ℕ) where
  -- "8 for a sign half is given for 0 to 9 only"
  digit_no_sign : s ≤ 9 → is_sign s ≡ false
  unfolding is_sign accepted_plus accepted_minus
  digit_no_sign h =
      rw (ne_eqb s 0xA (λ e. omega arith), ne_eqb s 0xB (λ e. omega arith), ne_eqb s 0xC (λ e. omega arith), ne_eqb s 0xD (λ e. omega arith), ne_eqb s 0xE (λ e. omega arith), ne_eqb s 0xF (λ e. omega arith))

  other_sign : 9 < s → s < 16 → is_sign s ≡ true
  unfolding is_sign accepted_plus accepted_minus
  other_sign h k =
      by_test (eqb s 0xA) (λ t. rw t) λ a.
      by_test (eqb s 0xC) (λ t. rw (a, t)) λ c.
      by_test (eqb s 0xE) (λ t. rw (a, c, t)) λ e.
      by_test (eqb s 0xF) (λ t. rw (a, c, e, t)) λ f.
      by_test (eqb s 0xB) (λ t. rw (a, c, e, f, t)) λ b.
      by_test (eqb s 0xD) (λ t. rw (a, c, e, f, b, t)) λ d.
      absurd (omega (arith, eqb-false s 0xA a, eqb-false s 0xB b, eqb-false s 0xC c, eqb-false s 0xD d, eqb-false s 0xE e, eqb-false s 0xF f))

  pub sign_or_digit : s < 16 → ltb 9 s ≡ is_sign s
  sign_or_digit k =
      by_test (ltb 9 s) (λ t. t ∙ sym (other_sign (ltb-true 9 s t) k))
      (λ t. t ∙ sym (digit_no_sign (ltb-false 9 s t)))

  pub plus_not_minus : accepted_plus s ≡ true → accepted_minus s ≡ false
  unfolding accepted_plus accepted_minus
  plus_not_minus e =
      by_test (eqb s 0xB) (λ t. absurd (false≢true (rw (eqb-true s 0xB t) at e))) λ b.
      by_test (eqb s 0xD) (λ t. absurd (false≢true (rw (eqb-true s 0xD t) at e))) λ d.
      rw (b, d)
