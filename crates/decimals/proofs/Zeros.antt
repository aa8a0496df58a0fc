-- Leading zeros, tested byte by byte: those that pass leave the whole magnitude to read, and one that does not is a digit of it.
use mathlib.Core.Path.{◌≡◌, refl, sym, ◌∙◌}
use mathlib.Core.Bool.{Bool, true, false, false≢true}
use mathlib.Core.Logic.{◌⊎◌, inl, inr, ⊎_elim}
use Prim.Native.Nat.{ℕ, zero, suc, ◌+◌, ◌-◌, ◌*◌, ◌/◌, ◌%◌, ◌^◌, ◌≤◌, ◌<◌}
use native.Mathlib.Numerals.{add-one}
use native.Mathlib.Omega.{arith}
use borrow.Author.Tests.{eqb-true, eqb-false}
use lib.Dec.{eqb, ltb}
use lib.ListN.{length, take, get_or}
use Rattle.std.specs.List.{list_all}
use Rattle.std.proofs.lemmas.List.Folds.{list_all_more}
use Rattle.rules.specs.Lists.{Bytes}
use Rattle.rules.proofs.Steps.{by_test}
use Rattle.decimals.specs.Decimals.{magnitude_of, Readable, places}
use Rattle.decimals.proofs.Halves.{unpacked_at}
use Rattle.decimals.proofs.Spelling.{Spelling, spelling_start, spelling_zero, spelling_more, spelling_fits, packed_zero, packed_more}

module _ {p : Bool} {s : Bytes} {C : Type 0} (place : ℕ → ℕ) (first : place 0 ≡ 0) (N : ℕ) (test : ℕ → Bool) (fits : N ≤ length s)
    (pass : (i : ℕ) → i < N → Spelling p s (place i) 0 → test (get_or s i 0) ≡ true → Spelling p s (place (i + 1)) 0)
    (fail : (i : ℕ) → i < N → Spelling p s (place i) 0 → test (get_or s i 0) ≡ false → C) where
  walk : (n : ℕ) → n ≤ N → ((list_all test (take n s) ≡ true) × Spelling p s (place n) 0) ⊎ ((list_all test (take n s) ≡ false) × C)
  walk zero h = inl (refl, rw first (spelling_start p s))
  walk (suc n) h =
      let e = list_all_more test s n 0 (omega arith) in
      ⊎_elim
      (λ a. by_test (test (get_or s n 0)) (λ t. inl (rw (← add-one n) (e ∙ rw (a.0, t)), rw add-one at (pass n (omega arith) a.1 t)))
      (λ t. inr (rw (← add-one n) (e ∙ rw (a.0, t)), fail n (omega arith) a.1 t)))
      (λ b. inr (rw (← add-one n) (e ∙ rw b.0), b.1))
      (walk n (omega arith))

  pub passed : {r : Bool} → r ≡ list_all test (take N s) → r ≡ true → Spelling p s (place N) 0
  passed e t = ⊎_elim (λ a. a.1) (λ b. absurd (false≢true (sym b.0 ∙ sym e ∙ t))) (walk N (omega arith))

  pub failed : {r : Bool} → r ≡ list_all test (take N s) → r ≡ false → C
  failed e t = ⊎_elim (λ a. absurd (false≢true (sym t ∙ e ∙ a.0))) (λ b. b.1) (walk N (omega arith))

-- The first k digits of P, k / 2 bytes and then half a byte where k is odd.
module _ {s : Bytes} (v : Readable true s) (k : ℕ) (h : k ≤ places true (length s)) {r : Bool} (e : r ≡ list_all (λ b. eqb b 0) (take (k / 2) s)) where
  pub packed_pass : r ≡ true → Spelling true s (2 * (k / 2)) 0
  unfolding places
  packed_pass =
      passed {C = Unit {0}} (λ i. 2 * i) refl (k / 2) (λ b. eqb b 0) (omega arith)
      (λ i l w t. packed_zero i w (omega arith) (eqb-true _ 0 t))
      (λ i l w t. tt) e

  pub packed_fail : r ≡ false → ltb (magnitude_of true s) (10 ^ (places true (length s) - k)) ≡ false
  unfolding places
  packed_fail =
      failed (λ i. 2 * i) refl (k / 2) (λ b. eqb b 0) (omega arith)
      (λ i l w t. packed_zero i w (omega arith) (eqb-true _ 0 t))
      (λ i l w t. packed_more i w _ (omega arith) (eqb-false _ 0 t)) e

-- The first k digits of U, a byte each.
pub unpacked_test : {s : Bytes} → Readable false s → (k : ℕ) → k ≤ places false (length s) → (r : Bool) → r ≡ list_all (λ b. eqb (b % 16) 0) (take k s)
    → r ≡ ltb (magnitude_of false s) (10 ^ (places false (length s) - k))
unfolding places
unpacked_test {s} v k h r e =
    by_test r
    (λ t. t
    ∙ sym (spelling_fits (passed {C = Unit {0}} (λ i. i) refl k (λ b. eqb (b % 16) 0) h pass (λ i l w q. tt) e t) _ v.nines (omega arith)))
    (λ t. t
    ∙ sym (failed (λ i. i) refl k (λ b. eqb (b % 16) 0) h pass (λ i l w q. spelling_more w _ (omega arith) (λ z. eqb-false _ 0 q (sym (unpacked_at s i) ∙ z))) e t))
  where
    pass : (i : ℕ) → i < k → Spelling false s i 0 → eqb (get_or s i 0 % 16) 0 ≡ true → Spelling false s (i + 1) 0
    pass i l w q = spelling_zero w (omega arith) (unpacked_at s i ∙ eqb-true _ 0 q)
