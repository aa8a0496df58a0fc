-- Null and every value that is converted to a field are stored as a record keeps them: the reader of values takes them.
use mathlib.Core.Path.{◌≡◌, refl}
use mathlib.Core.Bool.{true, false≢true, ◌&&◌}
use mathlib.Core.List.{[], ◌∷◌, ◌++◌}
use Prim.Native.Nat.{ℕ, zero, suc, ◌-◌, ◌≤◌}
use native.Mathlib.Omega.{arith}
use borrow.Author.Tests.{le-leb}
use lib.Dec.{leb, le→leb, leb→le}
use lib.ListN.{length}
use Rattle.rules.specs.Outcome.{done}
use Rattle.rules.specs.Limits.{longest_alpha}
use Rattle.rules.specs.Lists.{Bytes, cut}
use Rattle.rules.specs.Values.{Format, alpha, binary, fixed, packed, unpacked, Value, text, number, allowed, meaning, normal, null, null_value, first_value, content, with_length_byte, in_normal_form, conversion, in_range, converted, converted_bytes}
use Rattle.rules.specs.Table.{Field}
use Rattle.rules.specs.Record.{stored_value}
use Rattle.rules.proofs.Steps.{from_bind, from_need, done_inj, not_done, need_true, true_T, and_right, and_intro}
use Rattle.rules.proofs.Back.{Stored}
use Rattle.rules.proofs.Readers.{cut_sound, first_sound}
use Rattle.rules.proofs.Digits.{Below}
use Rattle.rules.proofs.Kept.{cut_back}
use Rattle.values.proofs.Nulls.{null_done}
use Rattle.values.proofs.Converted.{normal_length}
use Rattle.values.proofs.Meant.{length_byte_back, converted_in_form, null_normal, null_length_byte}

first_own : (f : Format) (v : Value) {w : Bytes} → normal f 0 v ≡ done w → allowed f 0 ≡ true → (rest : Bytes) → first_value 0 (w ++ rest) ≡ done (content 0 w, rest)
unfolding normal allowed first_value content
first_own alpha (text t) {w} e a rest =
    from_need (leb (length t) longest_alpha) 9 _ e λ h k.
    let l = leb→le (length t) longest_alpha h in
    let z : suc (length t) - 1 ≡ length t = omega arith in
    rw (
      ← done_inj k,
      need_true (leb 1 (suc (length t)) && leb (suc (length t)) (suc longest_alpha)) 8
          (and_intro (leb 1 (suc (length t))) (leb (suc (length t)) (suc longest_alpha)) (le→leb 1 (suc (length t)) (omega arith)) (le→leb (suc (length t)) (suc longest_alpha) (omega arith))),
      z,
    )
    (cut_back 7 t rest)
first_own alpha (number b x) e a rest = absurd (not_done e)
first_own binary v e a rest = absurd (false≢true a)
first_own fixed v e a rest = absurd (false≢true a)
first_own packed v e a rest = absurd (false≢true a)
first_own unpacked v e a rest = absurd (false≢true a)

-- What was written at a length is taken at that length.
first_written : (f : Format) (n : ℕ) (v : Value) {w : Bytes} → normal f n v ≡ done w → allowed f n ≡ true → (rest : Bytes) → first_value n (w ++ rest) ≡ done (content n w, rest)
unfolding first_value content
first_written f zero v e a rest = first_own f v e a rest
first_written f (suc n) v {w} e a rest = rw (← normal_length f (suc n) v (omega arith) e) (cut_back 7 w rest)

stored_by : (f : Format) (n : ℕ) (v : Value) {w : Bytes} → allowed f n ≡ true → normal f n v ≡ done w → in_normal_form f n (content n w) ≡ true → with_length_byte n (content n w) ≡ w
    → (rest : Bytes) → stored_value f n (w ++ rest) ≡ done (w, rest)
unfolding stored_value
stored_by f n v {w} a e i l rest = rw (first_written f n v e a rest, need_true (in_normal_form f n (content n w)) 2 (true_T i), l) refl

pub null_stored : (f : Field) → allowed f.format f.size ≡ true → Stored f (null f.format f.size)
null_stored f a = stored_by f.format f.size (null_value f.format) a (null_done f.format f.size a) (null_normal f.format f.size a) (null_length_byte f.format f.size a)

pub converted_stored : (g : Format) (f : Field) (bs : Bytes) {w : Bytes} → allowed g (length bs) ≡ true → Below 256 bs → allowed f.format f.size ≡ true
    → converted_bytes g f.format f.size bs ≡ done w → Stored f w
unfolding converted_bytes converted
converted_stored g f bs {w} a b c e =
    from_bind (meaning g bs) _ e λ v p q.
    from_need (in_range (conversion g f.format) v) 9 _ q λ _ k.
    stored_by f.format f.size v c k (converted_in_form g f.format f.size bs a b c e) (length_byte_back f.format f.size v c k)

-- ---- what the record buffer gives for a value

pub below_left : (xs ys : Bytes) → Below 256 (xs ++ ys) → Below 256 xs
below_left [] ys h i = omega arith
below_left (x ∷ xs) ys h zero = h 0
below_left (x ∷ xs) ys h (suc i) = below_left xs ys (λ j. h (suc j)) i

pub below_right : (xs ys : Bytes) → Below 256 (xs ++ ys) → Below 256 ys
below_right [] ys h = h
below_right (x ∷ xs) ys h = below_right xs ys (λ j. h (suc j))

below_content : (n : ℕ) (c : Bytes) → Below 256 (with_length_byte n c) → Below 256 c
unfolding with_length_byte
below_content zero c h = λ i. h (suc i)
below_content (suc n) c h = h

pub first_below : (n : ℕ) (bs c rest : Bytes) → first_value n bs ≡ done (c, rest) → Below 256 bs → Below 256 c × Below 256 rest
first_below n bs c rest e b =
    let q = first_sound n bs c rest e in
    let d = rw q at b in
    (below_content n c (below_left (with_length_byte n c) rest d), below_right (with_length_byte n c) rest d)

zero_allowed : (g : Format) (m : ℕ) → allowed g 0 ≡ true → m ≤ longest_alpha → allowed g m ≡ true
unfolding allowed
zero_allowed alpha m h l = le-leb m longest_alpha l
zero_allowed binary m h l = absurd (false≢true h)
zero_allowed fixed m h l = absurd (false≢true h)
zero_allowed packed m h l = absurd (false≢true h)
zero_allowed unpacked m h l = absurd (false≢true h)

pub first_allowed : (g : Format) (n : ℕ) (bs c rest : Bytes) → first_value n bs ≡ done (c, rest) → allowed g n ≡ true → allowed g (length c) ≡ true
unfolding first_value
first_allowed g zero [] c rest e a = absurd (not_done e)
first_allowed g zero (n ∷ bs) c rest e a =
    from_need (leb 1 n && leb n (suc longest_alpha)) 8 _ e λ t k.
    let (l, q) = cut_sound 7 (n - 1) bs c rest k in
    let h = leb→le n (suc longest_alpha) (and_right (leb 1 n) (leb n (suc longest_alpha)) t) in
    zero_allowed g (length c) a (omega arith)
first_allowed g (suc n) bs c rest e a = let (l, q) = cut_sound 7 (suc n) bs c rest e in rw l a

pub cut_below : (k n : ℕ) (bs xs rest : Bytes) → cut k n bs ≡ done (xs, rest) → Below 256 bs → Below 256 rest
cut_below k n bs xs rest e b = let (l, q) = cut_sound k n bs xs rest e in below_right xs rest (rw q at b)
