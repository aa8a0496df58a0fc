-- Format A: a text from the right, blank by blank, and its bytes at a length.
use mathlib.Core.Path.{◌≡◌, refl, sym, ◌∙◌, ap}
use mathlib.Core.Bool.{true, false}
use mathlib.Core.List.{[], ◌∷◌, ◌++◌}
use Prim.Native.Nat.{ℕ, zero, suc, ◌+◌, ◌-◌, ◌≤◌, ◌<◌}
use native.Mathlib.Nat.{not-suc-le-zero, sub-zero}
use native.Mathlib.Omega.{arith}
use lib.Dec.{eqb, eqb-suc-suc, leb}
use lib.ListN.{length, take, get_or, replicate, length-append}
use lib.Seq.{take-suc, take-length, length-take-le}
use borrow.Author.Tests.{eqb-true, eqb-false, le-leb, leb-true}
use Rattle.rules.specs.Outcome.{done, refused, by, is_done}
use Rattle.rules.specs.Characters.{space}
use Rattle.rules.specs.Limits.{longest_alpha}
use Rattle.rules.specs.Lists.{Bytes, bytes_of, same}
use Rattle.rules.specs.Values.{text, alpha, strip, meaning, normal, converted_bytes, converted, conversion, in_range, in_normal_form, with_length_byte}
use Rattle.rules.proofs.Lists.{text_before, text_before_other, text_before_blank, strip_cons, strip_nil, strip_space, strip_other}
use Rattle.rules.proofs.Steps.{by_test, same_same}
use Rattle.rules.proofs.Done.{is_done_need, done_need, no_length_byte}
use Rattle.fixed.proofs.NormalForm.{is_normal_form, compares}
use Rattle.values.proofs.Converted.{no_fit, normal_length, done_bytes}

-- The turns of the scan from the right.
module _ (s : Bytes) (j : ℕ) (p : 0 < j) (h : j ≤ length s) where
  last_of : take j s ≡ take (j - 1) s ++ (get_or s (j - 1) 0 ∷ [])
  last_of = let e : j ≡ suc (j - 1) = omega arith in ap (λ n. take n s) e ∙ take-suc s (j - 1) 0 (omega arith)

  pub text_turn : get_or s (j - 1) 0 ≡ space → strip (take (j - 1) s) ≡ strip (take j s)
  text_turn e = sym (ap strip last_of ∙ rw e (strip_space (take (j - 1) s)))

  pub text_stop : (get_or s (j - 1) 0 ≡ space → ⊥) → strip (take j s) ≡ take j s
  text_stop k = ap strip last_of ∙ strip_other (take (j - 1) s) (get_or s (j - 1) 0) k ∙ sym last_of

pub text_none : (s : Bytes) (j : ℕ) → j ≤ 0 → strip (take j s) ≡ []
text_none s zero h = strip_nil
text_none s (suc j) h = absurd (not-suc-le-zero h)

-- Blanks to the right give the bytes back.
padded : (b : ℕ) (bs t : Bytes) → t ++ replicate (length bs - length t) space ≡ bs
    → text_before b t ++ replicate (suc (length bs) - length (text_before b t)) space ≡ b ∷ bs
unfolding text_before
padded b bs [] e =
    by_test (eqb b space)
    (λ q. let h : b ≡ space = eqb-true b space q in
    rw (text_before_blank b h, sub-zero, h) (ap (λ l. space ∷ l) (rw sub-zero at e)))
    (λ q. let n : suc (length bs) - 1 ≡ length bs = omega arith in
    rw (text_before_other b (eqb-false b space q), n) (ap (λ l. b ∷ l) (rw sub-zero at e)))
padded b bs (x ∷ xs) e =
    let n : suc (length bs) - suc (suc (length xs)) ≡ length bs - suc (length xs) = omega arith in
    rw n (ap (λ l. b ∷ l) e)

pub strip_pad : (s : Bytes) → strip s ++ replicate (length s - length (strip s)) space ≡ s
strip_pad [] = rw strip_nil
strip_pad (b ∷ bs) = rw (strip_cons b bs) (padded b bs (strip bs) (strip_pad bs))

pub strip_short : (s : Bytes) → length (strip s) ≤ length s
strip_short s =
    let e = ap length (strip_pad s) in
    omega (arith, simp length-append at e)

-- A text converted to a length, and its refusal.
converted_is : (n : ℕ) (s : Bytes) → converted_bytes alpha alpha n s ≡ normal alpha n (text (strip s))
unfolding converted_bytes converted meaning conversion in_range
converted_is n s = refl

pub text_refused : (n : ℕ) (s : Bytes) → is_done (converted_bytes alpha alpha n s) ≡ false → converted_bytes alpha alpha n s ≡ refused (by 9)
unfolding meaning
text_refused n s d = no_fit alpha alpha n s refl d

pub normal_text_0 : (t : Bytes) → length t ≤ longest_alpha → normal alpha 0 (text t) ≡ done (suc (length t) ∷ t)
unfolding normal
normal_text_0 t h = done_need (leb (length t) longest_alpha) (suc (length t) ∷ t) (le-leb (length t) longest_alpha h)

pub normal_text : (n : ℕ) (t : Bytes) → (n ≡ 0 → ⊥) → length t ≤ n → normal alpha n (text t) ≡ done (t ++ replicate (n - length t) space)
unfolding normal
normal_text zero t z h = absurd (z refl)
normal_text (suc n) t z h = done_need (leb (length t) (suc n)) (t ++ replicate (suc n - length t) space) (le-leb (length t) (suc n) h)

-- Whether a text fits length 0, or a length n.
pub fits_0 : (n : ℕ) (t : Bytes) → n ≡ 0 → leb (length t) longest_alpha ≡ is_done (normal alpha n (text t))
unfolding normal
fits_0 n t z = sym (rw z (is_done_need (leb (length t) longest_alpha) (suc (length t) ∷ t)))

pub fits_n : (n : ℕ) (t : Bytes) → (n ≡ 0 → ⊥) → leb (length t) n ≡ is_done (normal alpha n (text t))
unfolding normal
fits_n zero t z = absurd (z refl)
fits_n (suc n) t z = sym (is_done_need (leb (length t) (suc n)) (t ++ replicate (suc n - length t) space))

-- What is then written, and the room that it takes.
module _ (n : ℕ) (t : Bytes) (z : n ≡ 0) (d : is_done (normal alpha n (text t)) ≡ true) where
  counted_upto : length t ≤ longest_alpha
  counted_upto = leb-true (length t) longest_alpha (fits_0 n t z ∙ d)

  pub counted_bytes : bytes_of (normal alpha n (text t)) ≡ suc (length t) ∷ t
  unfolding bytes_of
  counted_bytes = rw (z, normal_text_0 t counted_upto)

  pub counted_room : (at room : ℕ) → at + length (bytes_of (normal alpha n (text t))) ≤ room → (length t ≤ longest_alpha) × (at + 1 + length t ≤ room)
  counted_room at room h = let l = rw counted_bytes at h in (counted_upto, omega arith)

module _ (n : ℕ) (t : Bytes) (z : n ≡ 0 → ⊥) (d : is_done (normal alpha n (text t)) ≡ true) where
  padded_upto : length t ≤ n
  padded_upto = leb-true (length t) n (fits_n n t z ∙ d)

  pub padded_bytes : bytes_of (normal alpha n (text t)) ≡ t ++ replicate (n - length t) space
  unfolding bytes_of
  padded_bytes = rw (normal_text n t z padded_upto)

  pub padded_length : length (bytes_of (normal alpha n (text t))) ≡ n
  padded_length = normal_length alpha n (text t) (omega (arith, z)) (done_bytes (normal alpha n (text t)) d)

  pub padded_room : (at room : ℕ) → at + length (bytes_of (normal alpha n (text t))) ≤ room → (length t ≤ n) × (at + n ≤ room)
  padded_room at room h = (padded_upto, rw padded_length at h)

same_cut : (s : Bytes) (r : ℕ) → same (suc r ∷ take r s) (suc (length s) ∷ s) ≡ eqb r (length s)
unfolding same
same_cut s r =
    by_test (eqb r (length s))
    (λ q. rw (eqb-suc-suc r (length s), q) (ap (λ n. same (take n s) s) (eqb-true r (length s) q) ∙ rw (take-length s) (same_same s)))
    (λ q. rw (eqb-suc-suc r (length s), q))

-- The answers, from the length of the text.
module _ (s : Bytes) (r : ℕ) (k : r ≤ length s) (e : strip s ≡ take r s) where
  pub cut_size : length (take r s) ≡ r
  cut_size = length-take-le r s k

  pub converted_text : (n : ℕ) → converted_bytes alpha alpha n s ≡ normal alpha n (text (take r s))
  converted_text n = converted_is n s ∙ rw e

  -- In normal form at length 0 where nothing was stripped.
  pub text_normal_0 : (n : ℕ) → n ≡ 0 → length s ≤ longest_alpha → eqb r (length s) ≡ in_normal_form alpha n s
  unfolding meaning with_length_byte
  text_normal_0 n z h =
      rw z
      (sym
      (compares alpha 0 s (normal_text_0 (strip s) (omega (arith, strip_short s)))
      ∙ rw (e, cut_size) (same_cut s r)))

-- At a length of its own every text is in normal form.
pub text_normal : (s : Bytes) (n : ℕ) → (n ≡ 0 → ⊥) → n ≡ length s → in_normal_form alpha n s ≡ true
unfolding meaning
text_normal s n z e =
    is_normal_form alpha n s
    (normal_text n (strip s) z (omega (arith, strip_short s))
    ∙ ap done (rw e (strip_pad s) ∙ sym (no_length_byte n s (omega (arith, z)))))

-- What the functions of texts cite: of length 0, of a length of its own, and of the text that is cut out.
pub ruleset by_length = (fits_0, fits_n, counted_bytes, counted_room, padded_bytes, padded_length, padded_room, cut_size, converted_text, text_normal_0, text_normal)
