-- A value converted: which refusal it meets, when it is done, the words in the conversion ranges, and how long its bytes are.
use Rattle.std.specs.Prelude.{None, Some}
use mathlib.Core.Path.{◌≡◌, refl, sym, ◌∙◌, ap}
use mathlib.Core.Bool.{Bool, true, false, not, ◌&&◌}
use mathlib.Core.Logic.{◌⊎◌, ⊎_elim}
use mathlib.Core.List.{List, ◌∷◌, map}
use Prim.Native.Nat.{ℕ, zero, suc, ◌+◌, ◌-◌, ◌*◌, ◌/◌, ◌%◌, ◌^◌, ◌≤◌, ◌<◌}
use native.Mathlib.Nat.{not-suc-le-zero}
use native.Mathlib.Omega.{arith}
use lib.Dec.{eqb, leb, ltb, leb→le}
use lib.ListN.{length, take, replicate, length-append, length-replicate}
use lib.Seq.{length-take-le}
use borrow.Author.Tests.{leb-true, leb-false, lt-leb, le-leb}
use Rattle.rules.specs.Outcome.{Outcome, done, refused, by, ◌>>=◌, need, is_done}
use Rattle.rules.specs.Characters.{space}
use Rattle.rules.specs.Limits.{longest_alpha, lowest_word, greatest_word}
use Rattle.rules.specs.Lists.{Bytes, bytes_of, digits, all, but_last, last}
use Rattle.rules.specs.Values.{Format, alpha, binary, fixed, packed, unpacked, Value, text, number, allowed, strip, halves, decimal, sign_means, accepted_plus, accepted_minus, meaning, normal, conversion, every, in_range, converted, converted_bytes}
use Rattle.rules.specs.Values as Rules
use Rattle.rules.proofs.Steps.{from_need, done_inj, refused_inj, not_done, and_left, true_T, T_true}
use Rattle.fixed.specs.Words.{pick, signed_value, word_of, value_of}
use Rattle.fixed.specs.declared.Signed.{Signed}
use Rattle.rules.proofs.Digits.{length_digits}
use Rattle.decimals.specs.Decimals.{decimal_format}
use Rattle.decimals.proofs.Normal.{normal_fits, normal_done, converted_value}
use Rattle.decimals.proofs.Written.{length_written}
use Rattle.values.specs.Formats.{range_kind}
use Rattle.values.specs.Fits.{converted_length}

-- A refusal has one number: 8 of a meaning, 9 of a normal form.
abbrev Refuses : {A : Type 0} → ℕ → Outcome A → Type 0
Refuses k o = is_done o ≡ false → o ≡ refused (by k)

need_refuses : {A : Type 0} (k : ℕ) (t : Bool) (f : Unit {0} → Outcome A) → Refuses k (f tt) → Refuses k (need t k >>= f)
need_refuses k true f h = h
need_refuses k false f h = λ _. refl

done_refuses : {A : Type 0} (k : ℕ) (a : A) → Refuses k (done a)
done_refuses k a e = cc

bind_refuses : {A B : Type 0} (k : ℕ) (m : Outcome A) (f : A → Outcome B) → Refuses k m → ((a : A) → Refuses k (f a)) → Refuses k (m >>= f)
bind_refuses k (done a) f h g = g a
bind_refuses k (refused n) f h g = λ e. ap (λ j. refused j) (refused_inj (h e))

sign_refuses : (s : ℕ) → Refuses 8 (sign_means s)
unfolding sign_means
sign_refuses s = by_signs (accepted_plus s) (accepted_minus s)
  where
    by_signs : (p m : Bool) → Refuses {A = Bool} 8 (elim p [ true ↦ done false | false ↦ elim m [ true ↦ done true | false ↦ refused (by 8) ] ])
    by_signs true m = done_refuses 8 false
    by_signs false true = done_refuses 8 true
    by_signs false false = λ _. refl

decimal_refuses : (ds : List ℕ) (s : ℕ) → Refuses 8 (decimal ds s)
unfolding decimal
decimal_refuses ds s = need_refuses 8 (all (λ d. leb d 9) ds) _ (bind_refuses 8 (sign_means s) _ (sign_refuses s) (λ b. done_refuses 8 _))

meaning_refuses : (f : Format) (bs : Bytes) → Refuses 8 (meaning f bs)
unfolding meaning
meaning_refuses alpha bs = done_refuses 8 _
meaning_refuses binary bs = done_refuses 8 _
meaning_refuses fixed bs = done_refuses 8 _
meaning_refuses packed bs = decimal_refuses (but_last (halves bs)) (last (halves bs))
meaning_refuses unpacked bs =
    need_refuses 8 (all (λ b. eqb (b / 16) 0xF) (but_last bs)) _ (decimal_refuses (map (λ b. b % 16) bs) (last bs / 16))

test_refuses : (t : Bool) (b : Bytes) → Refuses 9 (need t 9 >>= λ _. done b)
test_refuses true b = done_refuses 9 b
test_refuses false b = λ _. refl

normal_refuses : (f : Format) (n : ℕ) (v : Value) → Refuses 9 (normal f n v)
unfolding normal
normal_refuses alpha zero (text t) = test_refuses (leb (length t) longest_alpha) _
normal_refuses alpha (suc n) (text t) = test_refuses (leb (length t) (suc n)) _
normal_refuses alpha zero (number b x) = λ _. refl
normal_refuses alpha (suc n) (number b x) = λ _. refl
normal_refuses binary n (text t) = λ _. refl
normal_refuses binary n (number false x) = test_refuses (ltb x (256 ^ n)) _
normal_refuses binary n (number true x) = λ _. refl
normal_refuses fixed n (text t) = λ _. refl
normal_refuses fixed n (number false x) = test_refuses (ltb x (2 ^ (8 * n - 1))) _
normal_refuses fixed n (number true x) = test_refuses (leb x (2 ^ (8 * n - 1))) _
normal_refuses packed n (text t) = λ _. refl
normal_refuses packed n (number b x) = test_refuses (ltb x (10 ^ (2 * n - 1))) _
normal_refuses unpacked n (text t) = λ _. refl
normal_refuses unpacked n (number b x) = test_refuses (ltb x (10 ^ n)) _

converted_refuses : (f g : Format) (n : ℕ) (v : Value) → Refuses 9 (converted f g n v)
unfolding converted
converted_refuses f g n v = need_refuses 9 (in_range (conversion f g) v) _ (normal_refuses g n v)

-- "8 where they mean nothing, then 9"
pub bad_value : (f g : Format) (n : ℕ) (bs : Bytes) → is_done (meaning f bs) ≡ false → converted_bytes f g n bs ≡ refused (by 8)
unfolding converted_bytes
bad_value f g n bs e = rw (meaning_refuses f bs e)

-- What a value that means something is converted to.
pub valued : (m : Outcome Value) → is_done m ≡ true → m ≡ done (value_of m)
unfolding value_of
valued (done v) e = refl
valued (refused k) e = cc

pub converted_by : (f g : Format) (n : ℕ) (bs : Bytes) → is_done (meaning f bs) ≡ true → converted_bytes f g n bs ≡ converted f g n (value_of (meaning f bs))
unfolding converted_bytes
converted_by f g n bs e = ap (λ m. m >>= converted f g n) (valued (meaning f bs) e)

pub no_fit : (f g : Format) (n : ℕ) (bs : Bytes) → is_done (meaning f bs) ≡ true → is_done (converted_bytes f g n bs) ≡ false
    → converted_bytes f g n bs ≡ refused (by 9)
no_fit f g n bs e h =
    let c = converted_by f g n bs e in
    c ∙ converted_refuses f g n (value_of (meaning f bs)) (rw c at h)

-- Every value converts: it is written as it is meant.
pub every_converted : (f g : Format) (n : ℕ) (bs : Bytes) {v : Value} → conversion f g ≡ every → meaning f bs ≡ done v → converted_bytes f g n bs ≡ normal g n v
unfolding converted_bytes converted in_range
every_converted f g n bs c m = rw (m, c)

-- A word converts where it lies in the range.
in_and_fits : (t : Bool) (o : Outcome Bytes) → is_done (need t 9 >>= λ _. o) ≡ (t && is_done o)
in_and_fits true o = refl
in_and_fits false o = refl

module _ (f g : Format) (n : ℕ) (bs : Bytes) (e : is_done (meaning f bs) ≡ true) (k : Rules.Kind) (c : conversion f g ≡ k) where
  pub ranged_done : is_done (converted_bytes f g n bs) ≡ (in_range k (value_of (meaning f bs)) && is_done (normal g n (value_of (meaning f bs))))
  unfolding converted
  ranged_done =
      ap is_done (converted_by f g n bs e)
      ∙ in_and_fits (in_range (conversion f g) (value_of (meaning f bs))) (normal g n (value_of (meaning f bs)))
      ∙ rw c

  pub out_of_range : in_range k (value_of (meaning f bs)) ≡ false → is_done (converted_bytes f g n bs) ≡ false
  out_of_range h = ranged_done ∙ rw h

  pub converted_range : is_done (converted_bytes f g n bs) ≡ true → in_range k (value_of (meaning f bs)) ≡ true
  converted_range h = T_true (in_range k (value_of (meaning f bs))) (and_left (in_range k (value_of (meaning f bs))) _ (true_T (sym ranged_done ∙ h)))

  pub converted_normal : in_range k (value_of (meaning f bs)) ≡ true → converted_bytes f g n bs ≡ normal g n (value_of (meaning f bs))
  unfolding converted
  converted_normal h = converted_by f g n bs e ∙ rw (c, h)

-- The word of a value.
picked : (b : Bool) (w v : Signed) → pick b (Some w) None ≡ Some v → (w ≡ v) × (b ≡ true)
picked true w v e = (cc, refl)
picked false w v e = (cc, cc)

unpicked : (b : Bool) (w : Signed) → pick b (Some w) None ≡ None → b ≡ false
unpicked true w e = cc
unpicked false w e = refl

pub word_number : (x : Value) (v : Signed) → word_of x ≡ Some v → (x ≡ signed_value v) × (v.magnitude ≤ lowest_word)
unfolding word_of
word_number (text t) v e = absurd (let z : ◌≡◌ {A = ℕ} 0 1 = cc in omega arith)
word_number (number below n) v e =
    let p = picked (leb n lowest_word) (record { negative = below; magnitude = n }) v e in
    let l = leb-true n lowest_word p.1 in
    (ap signed_value p.0, rw (← p.0) l)

pub word_outside : (x : Value) (b : Bool) → word_of x ≡ None → in_range (range_kind b) x ≡ false
unfolding word_of in_range
word_outside (text t) true e = refl
word_outside (text t) false e = refl
word_outside (number below n) b e = beyond below b (leb-false n lowest_word (unpicked (leb n lowest_word) _ e))
  where
    beyond : (below b : Bool) → lowest_word < n → in_range (range_kind b) (number below n) ≡ false
    beyond false true h = lt-leb n greatest_word (omega arith)
    beyond false false h = lt-leb n greatest_word (omega arith)
    beyond true true h = refl
    beyond true false h = lt-leb n lowest_word h

-- The ranges of a word.
pub minus_range : (b : Bool) (n : ℕ) → n ≤ lowest_word → not b ≡ in_range (range_kind b) (number true n)
unfolding in_range
minus_range true n h = refl
minus_range false n h = sym (le-leb n lowest_word h)

pub plus_range : (b : Bool) (n : ℕ) → leb n greatest_word ≡ in_range (range_kind b) (number false n)
unfolding in_range
plus_range true n = refl
plus_range false n = refl

-- What is written has the length that it is written at.
need_length : (t : Bool) (b c : Bytes) (n : ℕ) → length b ≡ n → (need t 9 >>= λ _. done b) ≡ done c → length c ≡ n
need_length t b c n l e = from_need t 9 _ e λ _ k. ap length (sym (done_inj k)) ∙ l

text_length : (n : ℕ) (t : Bytes) {b : Bytes} → 0 < n → normal alpha n (text t) ≡ done b → length b ≡ n
unfolding normal
text_length zero t h e = absurd (not-suc-le-zero h)
text_length (suc n) t {b} h e =
    from_need (leb (length t) (suc n)) 9 _ e λ l k.
    let q = leb→le (length t) (suc n) l in
    ap length (sym (done_inj k)) ∙ length-append t (replicate (suc n - length t) space) ∙ rw (length-replicate (suc n - length t) space) (omega arith)

decimal_length : (p : Bool) (n : ℕ) (below : Bool) (x : ℕ) {b : Bytes} → 0 < n → normal (decimal_format p) n (number below x) ≡ done b → length b ≡ n
decimal_length p n below x {b} h e =
    let d : is_done (normal (decimal_format p) n (number below x)) ≡ true = ap is_done e in
    ap length (sym (done_inj (sym (normal_done p n below x (sym (normal_fits p n below x) ∙ d)) ∙ e))) ∙ length_written p n below x h

pub normal_length : (f : Format) (n : ℕ) (v : Value) {b : Bytes} → 0 < n → normal f n v ≡ done b → length b ≡ n
unfolding normal decimal_format
normal_length alpha n (text t) h e = text_length n t h e
normal_length alpha zero (number below x) h e = absurd (not_done e)
normal_length alpha (suc n) (number below x) h e = absurd (not_done e)
normal_length binary n (text t) h e = absurd (not_done e)
normal_length binary n (number false x) {b} h e = need_length (ltb x (256 ^ n)) (digits 256 n x) b n (length_digits 256 n x) e
normal_length binary n (number true x) h e = absurd (not_done e)
normal_length fixed n (text t) h e = absurd (not_done e)
normal_length fixed n (number false x) {b} h e = need_length (ltb x (2 ^ (8 * n - 1))) (digits 256 n x) b n (length_digits 256 n x) e
normal_length fixed n (number true x) {b} h e = need_length (leb x (2 ^ (8 * n - 1))) (digits 256 n (2 ^ (8 * n) - x)) b n (length_digits 256 n (2 ^ (8 * n) - x)) e
normal_length packed n (text t) h e = absurd (not_done e)
normal_length packed n (number below x) h e = decimal_length true n below x h e
normal_length unpacked n (text t) h e = absurd (not_done e)
normal_length unpacked n (number below x) h e = decimal_length false n below x h e

-- With a length byte: one more than the text.
pub normal_length_0 : (t : Bytes) {b : Bytes} → normal alpha 0 (text t) ≡ done b → length b ≡ suc (length t)
unfolding normal
normal_length_0 t {b} e = need_length (leb (length t) longest_alpha) (suc (length t) ∷ t) b (suc (length t)) refl e

-- The length of a value that is converted.
converted_done : (f g : Format) (n : ℕ) (v : Value) {b : Bytes} → converted f g n v ≡ done b → (in_range (conversion f g) v ≡ true) × (normal g n v ≡ done b)
unfolding converted
converted_done f g n v e = from_need (in_range (conversion f g) v) 9 _ e λ t k. (T_true (in_range (conversion f g) v) t, k)

pub done_bytes : (o : Outcome Bytes) → is_done o ≡ true → o ≡ done (bytes_of o)
unfolding bytes_of
done_bytes (done b) e = refl
done_bytes (refused k) e = cc

module _ (f g : Format) (n : ℕ) (bs : Bytes) (d : is_done (converted_bytes f g n bs) ≡ true) where
  pub converted_means : is_done (meaning f bs) ≡ true
  converted_means = converted_value f g n bs d

  written_as : (in_range (conversion f g) (value_of (meaning f bs)) ≡ true) × (normal g n (value_of (meaning f bs)) ≡ done (bytes_of (converted_bytes f g n bs)))
  written_as = converted_done f g n (value_of (meaning f bs)) (sym (converted_by f g n bs converted_means) ∙ done_bytes (converted_bytes f g n bs) d)

  pub converted_size : 0 < n → length (bytes_of (converted_bytes f g n bs)) ≡ n
  converted_size h = normal_length g n (value_of (meaning f bs)) h written_as.1

-- Length 0 is for A, and to A only A converts.
only_alpha : (f : Format) (v : Value) → in_range (conversion f alpha) v ≡ true → f ≡ alpha
unfolding conversion in_range
only_alpha alpha v e = refl
only_alpha binary v e = cc
only_alpha fixed v e = cc
only_alpha packed v e = cc
only_alpha unpacked v e = cc

pub only_alpha_0 : (g : Format) → allowed g 0 ≡ true → g ≡ alpha
unfolding allowed
only_alpha_0 alpha e = refl
only_alpha_0 binary e = cc
only_alpha_0 fixed e = cc
only_alpha_0 packed e = cc
only_alpha_0 unpacked e = cc

text_size_0 : (bs : Bytes) → is_done (converted_bytes alpha alpha 0 bs) ≡ true → length (bytes_of (converted_bytes alpha alpha 0 bs)) ≡ suc (length (strip bs))
unfolding converted_bytes converted conversion in_range meaning
text_size_0 bs d = normal_length_0 (strip bs) (done_bytes (normal alpha 0 (text (strip bs))) d)

pub carried_size_is : (f g : Format) (n : ℕ) (bs : Bytes) → allowed g n ≡ true → is_done (converted_bytes f g n bs) ≡ true
    → converted_length n bs ≡ length (bytes_of (converted_bytes f g n bs))
unfolding converted_length
carried_size_is f g zero bs a d =
    let q : g ≡ alpha = only_alpha_0 g a in
    let p : f ≡ alpha = only_alpha f (value_of (meaning f bs)) (ap (λ h. in_range (conversion f h) (value_of (meaning f bs))) (sym q) ∙ (written_as f g 0 bs d).0) in
    sym (rw (q, p) (text_size_0 bs (rw (q, p) at d)))
carried_size_is f g (suc n) bs a d = sym (converted_size f g (suc n) bs d (omega arith))

pub size_0 : (s : Bytes) (n r : ℕ) → n ≡ 0 → r ≤ length s → strip s ≡ take r s → r + 1 ≡ converted_length n s
unfolding converted_length
size_0 s n r z k e = rw (z, e, length-take-le r s k) (omega arith)

pub size_n : (s : Bytes) (n : ℕ) → (n ≡ 0 → ⊥) → n ≡ converted_length n s
unfolding converted_length
size_n s zero z = absurd (z refl)
size_n s (suc n) z = refl

-- The length of a content of an allowed length is allowed.
pub content_allowed : (f : Format) (size n : ℕ) → allowed f size ≡ true → ((size ≡ 0) × (n ≤ longest_alpha)) ⊎ (size ≡ n) → allowed f n ≡ true
unfolding allowed
content_allowed f size n a o =
    ⊎_elim (λ z. rw (only_alpha_0 f (rw z.0 at a)) (le-leb n longest_alpha z.1)) (λ e. rw e at a) o
