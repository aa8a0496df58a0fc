-- The first value of a run of bytes, at each way that the code answers.
use Rattle.std.specs.Prelude.{Err, Ok, Result}
use Rattle.rules.specs.declared.Refusal.{Refusal}
use mathlib.Core.Path.{ap, ◌≡◌, refl, sym, ◌∙◌}
use mathlib.Core.Bool.{◌&&◌}
use mathlib.Core.Logic.{◌⊎◌, inl, inr}
use mathlib.Core.List.{[], ◌∷◌}
use Prim.Native.Nat.{ℕ, zero, suc, ◌+◌, ◌-◌, ◌≤◌, ◌<◌}
use native.Mathlib.Nat.{not-suc-le-zero, le_of_suc-le-suc}
use native.Mathlib.Numerals.{add-one}
use native.Mathlib.Omega.{arith}
use lib.Dec.{leb, leb→le}
use lib.ListN.{length, take, drop, get_or, length-drop, drop_of_length-le}
use lib.Seq.{drop-cons, drop-drop, length-take-le}
use borrow.Author.Tests.{le-leb, lt-leb}
use Rattle.rules.specs.Outcome.{done, refused, by, ◌>>=◌, need}
use Rattle.rules.specs.Limits.{longest_alpha}
use Rattle.rules.specs.Lists.{Bytes, cut}
use Rattle.rules.specs.Values.{first_value}
use Rattle.rules.specs.declared.Refusal.TheVariants.{BeyondBuffer, BadValue}
use Rattle.rules.proofs.Steps.{not_done, from_done, from_need, and_right}
use Rattle.buffer.proofs.Cases.{by_order}
use Rattle.values.specs.Places.{Located}

pub cut_enough : (k n : ℕ) (bs : Bytes) → n ≤ length bs → cut k n bs ≡ done (take n bs, drop n bs)
unfolding cut
cut_enough k zero bs h = refl
cut_enough k (suc n) [] h = absurd (not-suc-le-zero h)
cut_enough k (suc n) (b ∷ bs) h = rw (cut_enough k n bs (le_of_suc-le-suc h)) refl

pub cut_short : (k n : ℕ) (bs : Bytes) → length bs < n → cut k n bs ≡ refused (by k)
unfolding cut
cut_short k zero bs h = absurd (not-suc-le-zero h)
cut_short k (suc n) [] h = refl
cut_short k (suc n) (b ∷ bs) h = rw (cut_short k n bs (le_of_suc-le-suc h)) refl

-- A length of its own.
pub first_own : (n : ℕ) (bs : Bytes) → (n ≡ 0 → ⊥) → first_value n bs ≡ cut 7 n bs
unfolding first_value
first_own zero bs z = absurd (z refl)
first_own (suc n) bs z = refl

module _ (s : Bytes) (at n : ℕ) (z : n ≡ 0 → ⊥) (h : at ≤ length s) where
  pub own_short : length s - at < n → Located s at (first_value n (drop at s)) (Err BeyondBuffer)
  own_short l = record { answer = sym (first_own n (drop at s) z ∙ cut_short 7 n (drop at s) (rw length-drop l)); place = tt }

  pub own_found : n ≤ length s - at → Located s at (first_value n (drop at s)) (Ok (at, (at + n)))
  own_found l = record {
    answer =
        let e : at + n - at ≡ n = omega arith in
        rw e (sym (first_own n (drop at s) z ∙ cut_enough 7 n (drop at s) (rw length-drop l) ∙ rw (drop-drop n at s)));
    place = (omega arith, omega arith, omega arith);
  }

-- Length 0: a length byte, which counts itself, and the content after it.
first_nil : first_value 0 [] ≡ refused (by 7)
unfolding first_value
first_nil = refl

first_counted : (n : ℕ) (bs : Bytes) → first_value 0 (n ∷ bs) ≡ (need (leb 1 n && leb n (suc longest_alpha)) 8 >>= λ _. cut 7 (n - 1) bs)
unfolding first_value
first_counted n bs = refl

pub none_left : (s : Bytes) (at : ℕ) → length s ≤ at → Located s at (first_value 0 (drop at s)) (Err BeyondBuffer)
none_left s at h = record { answer = sym (rw (drop_of_length-le s h) first_nil); place = tt }

module _ (s : Bytes) (at n : ℕ) (h : at < length s) (e : n ≡ get_or s at 0) where
  here : first_value 0 (drop at s) ≡ (need (leb 1 n && leb n (suc longest_alpha)) 8 >>= λ _. cut 7 (n - 1) (drop (at + 1) s))
  here = rw (add-one, drop-cons s at 0, e) (first_counted (get_or s at 0) (drop (suc at) s))

  pub bad_zero : n ≡ 0 → Located s at (first_value 0 (drop at s)) (Err BadValue)
  bad_zero q = record { answer = sym (here ∙ rw q); place = tt }

  pub bad_long : suc longest_alpha < n → Located s at (first_value 0 (drop at s)) (Err BadValue)
  bad_long q = record { answer = sym (here ∙ rw (le-leb 1 n (omega arith), lt-leb n (suc longest_alpha) q)); place = tt }

  module _ (lo : 1 ≤ n) (hi : n ≤ suc longest_alpha) where
    good : first_value 0 (drop at s) ≡ cut 7 (n - 1) (drop (at + 1) s)
    good = here ∙ rw (le-leb 1 n lo, le-leb n (suc longest_alpha) hi)

    pub counted_short : length s - at < n → Located s at (first_value 0 (drop at s)) (Err BeyondBuffer)
    counted_short l = record { answer = sym (good ∙ cut_short 7 (n - 1) (drop (at + 1) s) (rw length-drop (omega arith))); place = tt }

    pub counted_found : n ≤ length s - at → Located s at (first_value 0 (drop at s)) (Ok ((at + 1), (at + n)))
    counted_found l = record {
      answer =
          let p : at + n - (at + 1) ≡ n - 1 = omega arith in
          let q : at + 1 + (n - 1) ≡ at + n = omega arith in
          rw p (sym (good ∙ cut_enough 7 (n - 1) (drop (at + 1) s) (rw length-drop (omega arith)) ∙ rw (drop-drop (n - 1) (at + 1) s, q)));
      place = (omega arith, omega arith, omega arith);
    }

-- A length given as 0.
pub at_zero : (s : Bytes) (at size : ℕ) (r : Result (ℕ × ℕ) Refusal) → size ≡ 0 → Located s at (first_value 0 (drop at s)) r → Located s at (first_value size (drop at s)) r
at_zero s at size r z f = rw z f

-- The answers of the function, each by what it tested.
pub ruleset by_place = (none_left, bad_zero, bad_long, counted_short, counted_found, own_short, own_found, at_zero)

-- The content of the first value has its length, or at most as many bytes as the longest text after a length byte.
cut_length : (k n : ℕ) (bs v rest : Bytes) → cut k n bs ≡ done (v, rest) → length v ≡ n
cut_length k n bs v rest e =
    by_order (length bs) n
    (λ h. absurd (not_done (sym (cut_short k n bs h) ∙ e)))
    (λ h. from_done (sym (cut_enough k n bs h) ∙ e) λ p _. ap length (sym p) ∙ length-take-le n bs h)

pub first_content : (size : ℕ) (bs v rest : Bytes) → first_value size bs ≡ done (v, rest) → ((size ≡ 0) × (length v ≤ longest_alpha)) ⊎ (size ≡ length v)
unfolding first_value
first_content zero [] v rest e = absurd (not_done e)
first_content zero (n ∷ bs) v rest e =
    from_need (leb 1 n && leb n (suc longest_alpha)) 8 _ e λ t k.
    let l = leb→le n (suc longest_alpha) (and_right (leb 1 n) (leb n (suc longest_alpha)) t) in
    let q = cut_length 7 (n - 1) bs v rest k in
    inl (refl, omega arith)
first_content (suc size) bs v rest e = inr (sym (cut_length 7 (suc size) bs v rest e))

pub found_content : (s : Bytes) (at size from next : ℕ) → Located s at (first_value size (drop at s)) (Ok (from, next))
    → ((size ≡ 0) × (length (take (next - from) (drop from s)) ≤ longest_alpha)) ⊎ (size ≡ length (take (next - from) (drop from s)))
found_content s at size from next f = first_content size (drop at s) (take (next - from) (drop from s)) (drop next s) (sym f.answer)
