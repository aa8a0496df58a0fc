-- The normal form of P and U: when a number fits, its bytes, when a value is in it, and a value converted to it.
use mathlib.Core.Path.{◌≡◌, refl, sym, ◌∙◌, ap}
use mathlib.Core.Bool.{Bool, true, false, and-true, false≢true}
use mathlib.Core.List.{List, [], ◌∷◌, ◌++◌}
use mathlib.Core.Logic.{◌⊎◌, inl, inr}
use Prim.Native.Nat.{ℕ, zero, suc, ◌+◌, ◌-◌, ◌*◌, ◌^◌, ◌≤◌, ◌<◌}
use native.Mathlib.Omega.{arith}
use lib.Dec.{eqb, ltb}
use lib.ListN.{length}
use borrow.Author.Tests.{lt-ltb, eqb-true, eqb-false, eq-eqb, ne_eqb}
use Rattle.rules.specs.Outcome.{Outcome, done, refused, ◌>>=◌, need, is_done}
use Rattle.rules.specs.Limits.{longest_alpha}
use Rattle.rules.specs.Lists.{Bytes, bytes_of, same}
use Rattle.rules.specs.Numbers.{refusal_number}
use Rattle.rules.specs.declared.Refusal.TheVariants.{OutOfRange}
use Rattle.rules.specs.Values.{Format, Value, number, pairs, zoned, meaning, sign_written, normal, in_normal_form, conversion, in_range, converted, converted_bytes}
use Rattle.rules.proofs.Steps.{by_test, eqb_same}
use Rattle.rules.proofs.Done.{is_done_need, no_length_byte}
use Rattle.rules.proofs.Digits.{spelled_below, own_digits}
use Rattle.fixed.proofs.NormalForm.{compares, no_form}
use Rattle.decimals.specs.Decimals.{decimal_format, digits_of, sign_half, magnitude_of, is_negative, Readable, places, encoded, written}
use Rattle.decimals.proofs.Halves.{length_digits_of}
use Rattle.decimals.proofs.Sound.{Sound, sound, readable, below_ten}

-- ---- a number in normal form

module _ (p : Bool) (n : ℕ) (below : Bool) (x : ℕ) where
  normal_is : normal (decimal_format p) n (number below x)
      ≡ (need (ltb x (10 ^ places p n)) (refusal_number (OutOfRange 0)) >>= λ _. done (written p n below x))
  unfolding normal decimal_format places encoded written
  normal_is =
      elim p as (λ (k : Bool). normal (decimal_format k) n (number below x) ≡ (need (ltb x (10 ^ places k n)) (refusal_number (OutOfRange 0)) >>= λ _. done (written k n below x)))
      [ true ↦ refl | false ↦ refl ]

  pub normal_fits : is_done (normal (decimal_format p) n (number below x)) ≡ ltb x (10 ^ places p n)
  normal_fits = ap is_done normal_is ∙ is_done_need (ltb x (10 ^ places p n)) _

  pub normal_done : ltb x (10 ^ places p n) ≡ true
      → normal (decimal_format p) n (number below x) ≡ done (written p n below x)
  normal_done e = normal_is ∙ rw e

  pub normal_bytes : is_done (normal (decimal_format p) n (number below x)) ≡ true
      → bytes_of (normal (decimal_format p) n (number below x)) ≡ written p n below x
  unfolding bytes_of
  normal_bytes e = ap bytes_of (normal_done (sym normal_fits ∙ e))

-- ---- a value in normal form: the same digits, so the same but for the sign

same_test : (a b c d : ℕ) → (c ≡ d → a ≡ b) → (a ≡ b → c ≡ d) → eqb a b ≡ eqb c d
same_test a b c d f g =
    by_test (eqb c d) (λ e. eq-eqb a b (f (eqb-true c d e)) ∙ sym e) (λ e. ne_eqb a b (λ q. eqb-false c d e (g q)) ∙ sym e)

same_pairs : (n : ℕ) (ds : List ℕ) (s t : ℕ) → length ds ≡ 2 * n + 1 → same (pairs (ds ++ (s ∷ []))) (pairs (ds ++ (t ∷ []))) ≡ eqb s t
unfolding same pairs
same_pairs n [] s t e = absurd (omega arith)
same_pairs n (d ∷ []) s t e = rw (same_test (d * 16 + s) (d * 16 + t) s t (λ q. omega arith) (λ q. omega arith)) (and-true (eqb s t))
same_pairs zero (d ∷ f ∷ ds) s t e = absurd (omega arith)
same_pairs (suc n) (d ∷ f ∷ ds) s t e = rw (eqb_same (d * 16 + f)) (same_pairs n ds s t (omega arith))

same_zoned : (ds : List ℕ) (s t : ℕ) → 0 < length ds → same (zoned ds s) (zoned ds t) ≡ eqb s t
unfolding same zoned
same_zoned [] s t h = absurd (omega arith)
same_zoned (d ∷ []) s t h = rw (same_test (s * 16 + d) (t * 16 + d) s t (λ q. omega arith) (λ q. omega arith)) (and-true (eqb s t))
same_zoned (d ∷ f ∷ ds) s t h = rw (eqb_same (0xF0 + d)) (same_zoned (f ∷ ds) s t (omega arith))

same_encoded : (p : Bool) (n : ℕ) (ds : List ℕ) (s t : ℕ) → 0 < n → length ds ≡ places p n → same (encoded p ds s) (encoded p ds t) ≡ eqb s t
unfolding encoded places
same_encoded true n ds s t h e = same_pairs (n - 1) ds s t (omega arith)
same_encoded false n ds s t h e = same_zoned ds s t (omega arith)

-- "P and U to each other, all values"
every_value : (p q : Bool) (w : Value) → in_range (conversion (decimal_format p) (decimal_format q)) w ≡ true
unfolding in_range conversion decimal_format
every_value true true w = refl
every_value true false w = refl
every_value false true w = refl
every_value false false w = refl

module _ {p : Bool} {bs : Bytes} (v : Sound p bs) where
  -- a value is in normal form where its sign is the one that is written
  pub form_sign : in_normal_form (decimal_format p) (length bs) bs ≡ eqb (sign_written (is_negative p bs)) (sign_half p bs)
  unfolding magnitude_of written
  form_sign =
      let ten = below_ten p bs v.nines in
      let l = length_digits_of p bs in
      let h = rw l at (spelled_below 10 (digits_of p bs) ten) in
      let d = rw l at (own_digits 10 (digits_of p bs) ten) in
      compares (decimal_format p) (length bs) bs {b = written p (length bs) (is_negative p bs) (magnitude_of p bs)} (rw v.means (normal_done p (length bs) (is_negative p bs) (magnitude_of p bs) (lt-ltb _ _ h)))
      ∙ rw (no_length_byte (length bs) bs v.some, d)
      (ap (λ b. same (encoded p (digits_of p bs) (sign_written (is_negative p bs))) b) (sym v.whole)
      ∙ same_encoded p (length bs) (digits_of p bs) _ _ v.some l)

  -- a value converted between P and U is its number in normal form there
  pub converted_is : (q : Bool) (n : ℕ) → converted_bytes (decimal_format p) (decimal_format q) n bs ≡ normal (decimal_format q) n (number (is_negative p bs) (magnitude_of p bs))
  unfolding converted_bytes converted
  converted_is q n = rw (v.means, every_value p q (number (is_negative p bs) (magnitude_of p bs)))

-- Document 02, M-101, "stored records keep F and D only": so does every value in normal form, which a stored one is
pub kept_sign : (p : Bool) (bs : Bytes) → in_normal_form (decimal_format p) (length bs) bs ≡ true → (sign_half p bs ≡ 0xF) ⊎ (sign_half p bs ≡ 0xD)
unfolding sign_written
kept_sign p bs e =
    by_test (is_done (meaning (decimal_format p) bs))
    (λ d. which (is_negative p bs) (eqb-true _ _ (sym (form_sign (sound p bs d)) ∙ e)))
    (λ d. absurd (false≢true (sym (no_form (decimal_format p) (length bs) bs d) ∙ e)))
  where
    which : (below : Bool) → sign_written below ≡ sign_half p bs → (sign_half p bs ≡ 0xF) ⊎ (sign_half p bs ≡ 0xD)
    which false f = inl (sym f)
    which true f = inr (sym f)

-- what is converted is a value
pub converted_value : (f g : Format) (n : ℕ) (bs : Bytes) → is_done (converted_bytes f g n bs) ≡ true → is_done (meaning f bs) ≡ true
unfolding converted_bytes
converted_value f g n bs e = go (meaning f bs) e
  where
    go : (m : Outcome Value) → is_done (m >>= converted f g n) ≡ true → is_done m ≡ true
    go (done v) e = refl
    go (refused k) e = e

module _ (p q : Bool) (n : ℕ) (bs : Bytes) (e : is_done (converted_bytes (decimal_format p) (decimal_format q) n bs) ≡ true) where
  converted_sound : Sound p bs
  converted_sound = sound p bs (converted_value (decimal_format p) (decimal_format q) n bs e)

  pub converted_readable : length bs ≤ longest_alpha → Readable p bs
  converted_readable = readable converted_sound

  pub bytes_converted : bytes_of (converted_bytes (decimal_format p) (decimal_format q) n bs) ≡ written q n (is_negative p bs) (magnitude_of p bs)
  bytes_converted =
      let c = converted_is converted_sound q n in
      rw c (normal_bytes q n (is_negative p bs) (magnitude_of p bs) (rw c at e))
