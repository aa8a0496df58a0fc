-- What is written means what was written: so null, and every value that is converted, is in normal form.
use mathlib.Core.Path.{◌≡◌, refl, sym, ◌∙◌, ap}
use mathlib.Core.Bool.{Bool, true, false, false≢true}
use mathlib.Core.List.{[], ◌∷◌, ◌++◌, append-nil, append_assoc}
use mathlib.Core.Logic.{◌⊎◌, ⊎_elim}
use Prim.Native.Nat.{ℕ, zero, suc, ◌+◌, ◌-◌, ◌*◌, ◌^◌, ◌<◌}
use native.Mathlib.Nat.{not-suc-le-zero}
use native.Mathlib.Omega.{arith}
use lib.Dec.{leb, ltb, ltb→lt, lit<}
use lib.ListN.{length, replicate}
use borrow.Author.Tests.{ltb-true, leb-true}
use Rattle.rules.specs.Outcome.{done, is_done}
use Rattle.rules.specs.Characters.{space}
use Rattle.rules.specs.Limits.{longest_alpha, longest_binary, longest_packed, longest_unpacked}
use Rattle.rules.specs.Lists.{Bytes, spelled, digits}
use Rattle.rules.specs.Values.{Format, alpha, binary, fixed, packed, unpacked, Value, text, number, allowed, strip, meaning, normal, null, null_value, content, with_length_byte, in_normal_form, twos_complement, accepted_minus, every, conversion, converts, in_range, converted, converted_bytes}
use Rattle.rules.proofs.Steps.{from_bind, from_need, done_inj, not_done, and_right, true_T, T_true}
use Rattle.buffer.proofs.Cases.{by_order}
use Rattle.rules.proofs.Digits.{Below, length_digits, spelled_digits, spelled_below}
use Rattle.fixed.proofs.Fixed.{twos_plus, twos_minus}
use Rattle.fixed.proofs.NormalForm.{is_normal_form, normal_form_is}
use Rattle.decimals.specs.Decimals.{decimal_format, sign_half, is_negative, magnitude_of, places}
use Rattle.decimals.proofs.Normal.{normal_fits, normal_done}
use Rattle.decimals.proofs.Sound.{sound}
use Rattle.rules.proofs.Lists.{strip_space, strip_again}
use Rattle.values.proofs.Numbered.{either, from_one}
use Rattle.values.proofs.Nulls.{null_done}
use Rattle.values.proofs.Written.{written_means}

-- What bytes can mean: a text without trailing blanks, or a number of which zero is not below zero.
abbrev pub Meant : Value → Type 0
Meant (text t) = strip t ≡ t
Meant (number below x) = below ≡ true → 0 < x

-- ---- what is written means what was written

strip_blanks : (t : Bytes) (k : ℕ) → strip (t ++ replicate k space) ≡ strip t
strip_blanks t zero = ap strip (append-nil t)
strip_blanks t (suc k) =
    ap strip (sym (append_assoc t (space ∷ []) (replicate k space))) ∙ strip_blanks (t ++ (space ∷ [])) k ∙ strip_space t

text_back : (n : ℕ) (t : Bytes) {w : Bytes} → strip t ≡ t → normal alpha n (text t) ≡ done w → meaning alpha (content n w) ≡ done (text t)
unfolding normal meaning content
text_back zero t m e =
    from_need (leb (length t) longest_alpha) 9 _ e λ _ k.
    rw (← done_inj k, m)
text_back (suc n) t m e =
    from_need (leb (length t) (suc n)) 9 _ e λ _ k.
    rw (← done_inj k, strip_blanks t (suc n - length t), m)

-- A length of its own has no length byte to take off.
whole : (n : ℕ) (w : Bytes) → 0 < n → content n w ≡ w
unfolding content
whole zero w h = absurd (not-suc-le-zero h)
whole (suc n) w h = refl

binary_back : (n x : ℕ) {w : Bytes} → normal binary n (number false x) ≡ done w → meaning binary w ≡ done (number false x)
unfolding normal meaning
binary_back n x e =
    from_need (ltb x (256 ^ n)) 9 _ e λ t k.
    rw (← done_inj k, spelled_digits 256 n x (lit< tt) (ltb-true x (256 ^ n) (T_true (ltb x (256 ^ n)) t)))

-- F at two and at four bytes.
module _ (n : ℕ) (room : 256 ^ n ≡ 2 ^ (8 * n)) (twice : 2 ^ (8 * n) ≡ 2 ^ (8 * n - 1) + 2 ^ (8 * n - 1)) where
  digits_mean : (x : ℕ) → x < 2 ^ (8 * n) → meaning fixed (digits 256 n x) ≡ done (twos_complement n x)
  unfolding meaning
  digits_mean x h = rw (length_digits 256 n x, spelled_digits 256 n x (lit< tt) (rw room h))

  fixed_plus : (x : ℕ) {w : Bytes} → normal fixed n (number false x) ≡ done w → meaning fixed w ≡ done (number false x)
  unfolding normal
  fixed_plus x e =
      from_need (ltb x (2 ^ (8 * n - 1))) 9 _ e λ t k.
      let l = ltb-true x (2 ^ (8 * n - 1)) (T_true (ltb x (2 ^ (8 * n - 1))) t) in
      rw (← done_inj k) (digits_mean x (omega arith) ∙ ap done (twos_plus n x l))

  fixed_minus : (x : ℕ) {w : Bytes} → 0 < x → normal fixed n (number true x) ≡ done w → meaning fixed w ≡ done (number true x)
  unfolding normal
  fixed_minus x p e =
      from_need (leb x (2 ^ (8 * n - 1))) 9 _ e λ t k.
      let l = leb-true x (2 ^ (8 * n - 1)) (T_true (leb x (2 ^ (8 * n - 1))) t) in
      let y = 2 ^ (8 * n) - x in
      let back : 2 ^ (8 * n) - y ≡ x = omega arith in
      rw (← done_inj k) (digits_mean y (omega arith) ∙ ap done (twos_minus n y (omega arith) ∙ ap (number true) back))

  fixed_back : (below : Bool) (x : ℕ) {w : Bytes} → (below ≡ true → 0 < x) → normal fixed n (number below x) ≡ done w → meaning fixed w ≡ done (number below x)
  fixed_back false x p e = fixed_plus x e
  fixed_back true x p e = fixed_minus x (p refl) e

fixed_either : (n : ℕ) → (n ≡ 2) ⊎ (n ≡ 4) → (below : Bool) (x : ℕ) {w : Bytes} → (below ≡ true → 0 < x) → normal fixed n (number below x) ≡ done w → meaning fixed w ≡ done (number below x)
fixed_either n o below x p e =
    ⊎_elim (λ q. fixed_back 2 refl refl below x p (rw q at e)) (λ q. fixed_back 4 refl refl below x p (rw q at e)) o

decimal_back : (d : Bool) (n : ℕ) (below : Bool) (x : ℕ) {w : Bytes} → 0 < n → (below ≡ true → 0 < x)
    → normal (decimal_format d) n (number below x) ≡ done w → meaning (decimal_format d) w ≡ done (number below x)
decimal_back d n below x h p e =
    let t = sym (normal_fits d n below x) ∙ ap is_done e in
    rw (← done_inj (sym (normal_done d n below x t) ∙ e)) (written_means n below x h p d (ltb-true x (10 ^ places d n) t))

pub normal_means : (f : Format) (n : ℕ) (v : Value) {w : Bytes} → allowed f n ≡ true → Meant v → normal f n v ≡ done w
    → meaning f (content n w) ≡ done v
unfolding normal allowed decimal_format
normal_means alpha n (text t) a m e = text_back n t m e
normal_means alpha zero (number below x) a m e = absurd (not_done e)
normal_means alpha (suc n) (number below x) a m e = absurd (not_done e)
normal_means binary n (text t) a m e = absurd (not_done e)
normal_means binary n (number false x) {w} a m e = rw (whole n w (from_one n longest_binary a)) (binary_back n x e)
normal_means binary n (number true x) a m e = absurd (not_done e)
normal_means fixed n (text t) a m e = absurd (not_done e)
normal_means fixed n (number below x) {w} a m e = rw (whole n w (⊎_elim (λ q. omega arith) (λ q. omega arith) (either n a))) (fixed_either n (either n a) below x m e)
normal_means packed n (text t) a m e = absurd (not_done e)
normal_means packed n (number below x) {w} a m e = rw (whole n w (from_one n longest_packed a)) (decimal_back true n below x (from_one n longest_packed a) m e)
normal_means unpacked n (text t) a m e = absurd (not_done e)
normal_means unpacked n (number below x) {w} a m e = rw (whole n w (from_one n longest_unpacked a)) (decimal_back false n below x (from_one n longest_unpacked a) m e)

-- ---- what bytes mean can be written

fixed_meant : (n x : ℕ) → (n ≡ 2) ⊎ (n ≡ 4) → x < 256 ^ n → Meant (twos_complement n x)
fixed_meant n x o h =
    let r : 256 ^ n ≡ 2 ^ (8 * n) = ⊎_elim (λ e. rw e) (λ e. rw e) o in
    by_order x (2 ^ (8 * n - 1))
    (λ l. rw (twos_plus n x l) (λ e. absurd (false≢true e)))
    (λ l. rw (twos_minus n x l) (λ _. omega arith))

minus_above : (p : Bool) (bs : Bytes) → is_negative p bs ≡ true → 0 < magnitude_of p bs
unfolding is_negative
minus_above p bs e = ltb→lt 0 (magnitude_of p bs) (and_right (accepted_minus (sign_half p bs)) (ltb 0 (magnitude_of p bs)) (true_T e))

decimal_meant : (p : Bool) (bs : Bytes) (v : Value) → meaning (decimal_format p) bs ≡ done v → Meant v
decimal_meant p bs v e =
    let s = sound p bs (ap is_done e) in
    rw (← done_inj (sym s.means ∙ e)) (minus_above p bs)

pub meaning_meant : (f : Format) (bs : Bytes) (v : Value) → allowed f (length bs) ≡ true → Below 256 bs → meaning f bs ≡ done v → Meant v
unfolding meaning allowed decimal_format
meaning_meant alpha bs v a b e = rw (← done_inj e) (strip_again bs)
meaning_meant binary bs v a b e = rw (← done_inj e) (λ q. absurd (false≢true q))
meaning_meant fixed bs v a b e = rw (← done_inj e) (fixed_meant (length bs) (spelled 256 bs 0) (either (length bs) a) (spelled_below 256 bs b))
meaning_meant packed bs v a b e = decimal_meant true bs v e
meaning_meant unpacked bs v a b e = decimal_meant false bs v e

-- ---- so it is in normal form

counted_back : (f : Format) (v : Value) {w : Bytes} → allowed f 0 ≡ true → normal f 0 v ≡ done w → with_length_byte 0 (content 0 w) ≡ w
unfolding normal content with_length_byte allowed
counted_back alpha (text t) a e = from_need (leb (length t) longest_alpha) 9 _ e λ _ k. rw (← done_inj k)
counted_back alpha (number below x) a e = absurd (not_done e)
counted_back binary v a e = absurd (false≢true a)
counted_back fixed v a e = absurd (false≢true a)
counted_back packed v a e = absurd (false≢true a)
counted_back unpacked v a e = absurd (false≢true a)

pub length_byte_back : (f : Format) (n : ℕ) (v : Value) {w : Bytes} → allowed f n ≡ true → normal f n v ≡ done w → with_length_byte n (content n w) ≡ w
unfolding with_length_byte content
length_byte_back f zero v a e = counted_back f v a e
length_byte_back f (suc n) v a e = refl

pub written_normal : (f : Format) (n : ℕ) (v : Value) {w : Bytes} → allowed f n ≡ true → Meant v → normal f n v ≡ done w
    → in_normal_form f n (content n w) ≡ true
written_normal f n v {w} a m e =
    is_normal_form f n (content n w) (rw (normal_means f n v a m e) (e ∙ ap done (sym (length_byte_back f n v a e))))

-- A value that is converted is in normal form where it was converted to.
pub converted_in_form : (f g : Format) (n : ℕ) (bs : Bytes) {w : Bytes} → allowed f (length bs) ≡ true → Below 256 bs → allowed g n ≡ true
    → converted_bytes f g n bs ≡ done w → in_normal_form g n (content n w) ≡ true
unfolding converted_bytes converted
converted_in_form f g n bs a b c e =
    from_bind (meaning f bs) _ e λ v p q.
    from_need (in_range (conversion f g) v) 9 _ q λ _ k.
    written_normal g n v c (meaning_meant f bs v a b p) k

-- ---- null

null_meant : (f : Format) → Meant (null_value f)
unfolding null_value strip
null_meant alpha = refl
null_meant binary = λ e. absurd (false≢true e)
null_meant fixed = λ e. absurd (false≢true e)
null_meant packed = λ e. absurd (false≢true e)
null_meant unpacked = λ e. absurd (false≢true e)

pub null_means : (f : Format) (n : ℕ) → allowed f n ≡ true → meaning f (content n (null f n)) ≡ done (null_value f)
null_means f n a = normal_means f n (null_value f) a (null_meant f) (null_done f n a)

pub null_normal : (f : Format) (n : ℕ) → allowed f n ≡ true → in_normal_form f n (content n (null f n)) ≡ true
null_normal f n a = written_normal f n (null_value f) a (null_meant f) (null_done f n a)

pub null_length_byte : (f : Format) (n : ℕ) → allowed f n ≡ true → with_length_byte n (content n (null f n)) ≡ null f n
null_length_byte f n a = length_byte_back f n (null_value f) a (null_done f n a)

-- Null of formats that convert is null: 0 of numbers, no text of A.
null_converts : (f g : Format) → converts f g ≡ true → (in_range (conversion f g) (null_value f) ≡ true) × (null_value f ≡ null_value g)
unfolding converts conversion in_range null_value
null_converts alpha alpha e = (refl, refl)
null_converts alpha binary e = absurd (false≢true e)
null_converts alpha fixed e = absurd (false≢true e)
null_converts alpha packed e = absurd (false≢true e)
null_converts alpha unpacked e = absurd (false≢true e)
null_converts binary alpha e = absurd (false≢true e)
null_converts binary binary e = (refl, refl)
null_converts binary fixed e = (refl, refl)
null_converts binary packed e = (refl, refl)
null_converts binary unpacked e = (refl, refl)
null_converts fixed alpha e = absurd (false≢true e)
null_converts fixed binary e = (refl, refl)
null_converts fixed fixed e = (refl, refl)
null_converts fixed packed e = (refl, refl)
null_converts fixed unpacked e = (refl, refl)
null_converts packed alpha e = absurd (false≢true e)
null_converts packed binary e = (refl, refl)
null_converts packed fixed e = (refl, refl)
null_converts packed packed e = (refl, refl)
null_converts packed unpacked e = (refl, refl)
null_converts unpacked alpha e = absurd (false≢true e)
null_converts unpacked binary e = (refl, refl)
null_converts unpacked fixed e = (refl, refl)
null_converts unpacked packed e = (refl, refl)
null_converts unpacked unpacked e = (refl, refl)

pub null_converted : (f g : Format) (size n : ℕ) → converts f g ≡ true → allowed f size ≡ true → allowed g n ≡ true
    → converted_bytes f g n (content size (null f size)) ≡ done (null g n)
unfolding converted_bytes converted
null_converted f g size n c a b =
    let r = null_converts f g c in
    rw (null_means f size a, r.0, r.1) (null_done g n b)

-- ---- a value in normal form converted to its own format and length is itself

own_conversion : (f : Format) → conversion f f ≡ every
unfolding conversion
own_conversion alpha = refl
own_conversion binary = refl
own_conversion fixed = refl
own_conversion packed = refl
own_conversion unpacked = refl

own_range : (f : Format) (v : Value) → in_range (conversion f f) v ≡ true
unfolding in_range
own_range f v = rw (own_conversion f)

pub converted_itself : (f : Format) (n : ℕ) (bs : Bytes) → in_normal_form f n bs ≡ true → converted_bytes f f n bs ≡ done (with_length_byte n bs)
unfolding converted_bytes converted
converted_itself f n bs h =
    let e = normal_form_is f n bs h in
    from_bind (meaning f bs) (normal f n) e λ v p q.
    rw (p, own_range f v) q

-- ---- a value in normal form means something

pub form_means : (f : Format) (n : ℕ) (bs : Bytes) → in_normal_form f n bs ≡ true → is_done (meaning f bs) ≡ true
form_means f n bs h = from_bind (meaning f bs) (normal f n) (normal_form_is f n bs h) λ v p q. ap is_done p
