-- When bytes are in normal form, for every format: what their meaning is written as is compared with them.
use mathlib.Core.Path.{◌≡◌, refl, sym, ◌∙◌, ap}
use mathlib.Core.Bool.{Bool, true, false, false≢true}
use Prim.Native.Nat.{ℕ}
use Rattle.rules.specs.Outcome.{Outcome, done, refused, ◌>>=◌, is_done}
use Rattle.rules.specs.Lists.{Bytes, same}
use Rattle.rules.specs.Values.{Format, Value, meaning, normal, in_normal_form, with_length_byte}
use Rattle.rules.proofs.Steps.{same_same, same_eq, true_T}

compared : Outcome Bytes → Bytes → Bool
compared (done b) w = same b w
compared (refused k) w = false

in_form : (f : Format) (n : ℕ) (bs : Bytes) → in_normal_form f n bs ≡ compared (meaning f bs >>= normal f n) (with_length_byte n bs)
unfolding in_normal_form compared
in_form f n bs = by_outcome (meaning f bs >>= normal f n)
  where
    by_outcome : (o : Outcome Bytes) → elim o [ done b ↦ same b (with_length_byte n bs) | refused k ↦ false ] ≡ compared o (with_length_byte n bs)
    by_outcome (done b) = refl
    by_outcome (refused k) = refl

-- What means something that is written as these bytes is in normal form.
pub is_normal_form : (f : Format) (n : ℕ) (bs : Bytes) → (meaning f bs >>= normal f n) ≡ done (with_length_byte n bs) → in_normal_form f n bs ≡ true
unfolding compared
is_normal_form f n bs e = in_form f n bs ∙ rw e (same_same (with_length_byte n bs))

-- What is in normal form means something that is written as these bytes.
same_bytes : (o : Outcome Bytes) (w : Bytes) → compared o w ≡ true → o ≡ done w
unfolding compared
same_bytes (done b) w h = ap done (same_eq b w (true_T h))
same_bytes (refused k) w h = cc

pub normal_form_is : (f : Format) (n : ℕ) (bs : Bytes) → in_normal_form f n bs ≡ true → (meaning f bs >>= normal f n) ≡ done (with_length_byte n bs)
normal_form_is f n bs e = same_bytes (meaning f bs >>= normal f n) (with_length_byte n bs) (sym (in_form f n bs) ∙ e)

pub compares : (f : Format) (n : ℕ) (bs : Bytes) {b : Bytes} → (meaning f bs >>= normal f n) ≡ done b
    → in_normal_form f n bs ≡ same b (with_length_byte n bs)
unfolding compared
compares f n bs e = in_form f n bs ∙ rw e

-- What is no value is not in normal form.
pub no_form : (f : Format) (n : ℕ) (bs : Bytes) → is_done (meaning f bs) ≡ false → in_normal_form f n bs ≡ false
unfolding compared
no_form f n bs e = in_form f n bs ∙ go (meaning f bs) e
  where
    go : (m : Outcome Value) → is_done m ≡ false → compared (m >>= normal f n) (with_length_byte n bs) ≡ false
    go (done v) e = absurd (false≢true (sym e))
    go (refused k) e = refl
