-- Document 02, M-103: the length that a read returns with 9 holds the value and no smaller one does, and it is 0 outside the conversion range only,
-- by induction on how many lengths are left to try and because the longest length of a format holds all that converts to it.
use mathlib.Core.Path.{◌≡◌, refl, sym, ap, ◌∙◌}
use mathlib.Core.Bool.{Bool, true, false, ◌&&◌, and-false}
use mathlib.Core.List.{List, [], ◌∷◌, map}
use Prim.Native.Nat.{ℕ, zero, suc, ◌+◌, ◌-◌, ◌*◌, ◌/◌, ◌%◌, ◌^◌, ◌≤◌, ◌<◌}
use native.Mathlib.Nat.{pow-le-pow_right, le_trans, lt_of_lt_of_le, lt_of_le_of_lt}
use native.Mathlib.Omega.{arith}
use lib.Dec.{eqb, leb, ltb, leb→le, lit<, lit≤}
use lib.ListN.{length, get_or, length-map}
use borrow.Author.Tests.{eqb-true, eqb-false, leb-true, le-leb, ltb-true, ltb-false, lt-ltb}
use Rattle.rules.specs.Outcome.{Outcome, done, ◌>>=◌, need, needing, is_done}
use Rattle.rules.specs.Limits.{longest_alpha, longest_binary, longest_packed, longest_unpacked, lowest_word, greatest_word, greatest_length}
use Rattle.rules.specs.Characters.{space}
use Rattle.rules.specs.Lists.{Bytes, all, spelled, but_last, last}
use Rattle.rules.specs.Values.{Format, alpha, binary, fixed, packed, unpacked, allowed, longest, Value, text, number, signed, strip, halves, sign_means, decimal, twos_complement, meaning, normal, word, natural, conversion, in_range, converted, converted_bytes, would_hold, first_up, smallest_length, read_value}
use Rattle.rules.proofs.Steps.{by_test, not_both, from_need, from_bind, done_inj}
use Rattle.rules.proofs.Bools.{and_both}
use Rattle.rules.proofs.Done.{is_done_need}
use Rattle.rules.proofs.Digits.{Below, spelled_below, all_get_d}
use Rattle.rules.proofs.Lists.{text_before, strip_nil, strip_cons, text_before_other, text_before_blank}

-- ---- the first number that passes a test

pub first_here : (test : ℕ → Bool) (n count : ℕ) → test n ≡ true → first_up test n (suc count) ≡ n
unfolding first_up
first_here test n count e = rw (e, first_up)

pub first_next : (test : ℕ → Bool) (n count : ℕ) → test n ≡ false → first_up test n (suc count) ≡ first_up test (suc n) count
unfolding first_up
first_next test n count e = rw (e, first_up)

pub first_end : (test : ℕ → Bool) (n : ℕ) → first_up test n 0 ≡ 0
unfolding first_up
first_end test n = refl

pub first_at : (test : ℕ → Bool) (n count m : ℕ) → n ≤ m → m < n + count → test m ≡ true → ((j : ℕ) → n ≤ j → j < m → test j ≡ false) → first_up test n count ≡ m
first_at test n zero m a b t h = absurd (omega arith)
first_at test n (suc count) m a b t h =
    by_test (test n)
    (λ y. let k : n < m → ⊥ = λ l. not_both (sym (h n (omega arith) l) ∙ y) in
    first_here test n count y ∙ omega arith)
    (λ y. let k : n ≡ m → ⊥ = λ e. not_both (sym y ∙ ap test e ∙ t) in
    first_next test n count y ∙ first_at test (suc n) count m (omega arith) (omega arith) t (λ j p q. h j (omega arith) q))

pub first_none : (test : ℕ → Bool) (n count : ℕ) → ((j : ℕ) → test j ≡ false) → first_up test n count ≡ 0
first_none test n zero h = first_end test n
first_none test n (suc count) h = first_next test n count (h n) ∙ first_none test (suc n) count h

pub first_passes : (test : ℕ → Bool) (n count : ℕ) → 1 ≤ n → 1 ≤ first_up test n count → test (first_up test n count) ≡ true
first_passes test n zero a h = absurd (omega (arith, first_end test n))
first_passes test n (suc count) a h =
    by_test (test n)
    (λ y. rw (first_here test n count y) y)
    (λ y. let e = first_next test n count y in
    rw e (first_passes test (suc n) count (omega arith) (rw e at h)))

pub first_least : (test : ℕ → Bool) (n count : ℕ) → (j : ℕ) → n ≤ j → j < first_up test n count → test j ≡ false
first_least test n zero j a h = absurd (omega (arith, first_end test n))
first_least test n (suc count) j a h =
    by_test (test n)
    (λ y. absurd (omega (arith, first_here test n count y)))
    (λ y. by_test (eqb n j)
    (λ e. rw (← eqb-true n j e) y)
    (λ e. let k : n ≡ j → ⊥ = eqb-false n j e in
    first_least test (suc n) count j (omega arith) (rw (first_next test n count y) at h)))

-- Where one of the numbers passes, a number is found.
first_some : (test : ℕ → Bool) (n count m : ℕ) → 1 ≤ n → n ≤ m → m < n + count → test m ≡ true → 1 ≤ first_up test n count
first_some test n zero m o a b t = absurd (omega arith)
first_some test n (suc count) m o a b t =
    by_test (test n)
    (λ y. rw (first_here test n count y) o)
    (λ y. let k : n ≡ m → ⊥ = λ e. not_both (sym y ∙ ap test e ∙ t) in
    rw (first_next test n count y) (first_some test (suc n) count m (omega arith) (omega arith) (omega arith) t))

-- ---- the smallest length

first_below : (test : ℕ → Bool) (n count : ℕ) → 1 ≤ n → first_up test n count < n + count
first_below test n zero h = omega (arith, first_end test n)
first_below test n (suc count) h =
    by_test (test n)
    (λ y. omega (arith, first_here test n count y))
    (λ y. omega (arith, first_next test n count y, first_below test (suc n) count (omega arith)))

pub longest_below : (g : Format) → longest g ≤ greatest_length
longest_below alpha = lit≤ tt
longest_below binary = lit≤ tt
longest_below fixed = lit≤ tt
longest_below packed = lit≤ tt
longest_below unpacked = lit≤ tt

pub smallest_below : (f g : Format) (bs : Bytes) → smallest_length f g bs ≤ greatest_length
unfolding smallest_length
smallest_below f g bs = let h = first_below (would_hold f g bs) 1 (longest g) (omega arith) in omega (arith, h, longest_below g)

pub smallest_holds : (f g : Format) (bs : Bytes) → 1 ≤ smallest_length f g bs → would_hold f g bs (smallest_length f g bs) ≡ true
unfolding smallest_length
smallest_holds f g bs h = first_passes (would_hold f g bs) 1 (longest g) (omega arith) h

pub none_smaller : (f g : Format) (bs : Bytes) (j : ℕ) → 1 ≤ j → j < smallest_length f g bs → would_hold f g bs j ≡ false
unfolding smallest_length
none_smaller f g bs j o h = first_least (would_hold f g bs) 1 (longest g) j o h

outside_holds : (f g : Format) (bs : Bytes) (v : Value) → meaning f bs ≡ done v → in_range (conversion f g) v ≡ false → (n : ℕ) → would_hold f g bs n ≡ false
unfolding would_hold converted_bytes converted
outside_holds f g bs v e r n = rw (e, r, and-false)

pub outside_none : (f g : Format) (bs : Bytes) (v : Value) → meaning f bs ≡ done v → in_range (conversion f g) v ≡ false → smallest_length f g bs ≡ 0
unfolding smallest_length
outside_none f g bs v e r = first_none (would_hold f g bs) 1 (longest g) (outside_holds f g bs v e r)

-- ---- a length for each value inside the range

abbrev Fits : Format → Value → Type 0
Fits g v = is_done (normal g (longest g) v) ≡ true

below_held : (x y : ℕ) (b : Bytes) → x < y → is_done (need (ltb x y) 9 >>= λ _. done b) ≡ true
below_held x y b h = is_done_need (ltb x y) b ∙ lt-ltb x y h

upto_held : (x y : ℕ) (b : Bytes) → x ≤ y → is_done (need (leb x y) 9 >>= λ _. done b) ≡ true
upto_held x y b h = is_done_need (leb x y) b ∙ le-leb x y h

-- P and U hold as many digits.
same_digits : (v : Value) → is_done (normal packed longest_packed v) ≡ is_done (normal unpacked longest_unpacked v)
unfolding normal
same_digits (text t) = refl
same_digits (number below x) = is_done_need (ltb x (10 ^ longest_unpacked)) _ ∙ sym (is_done_need (ltb x (10 ^ longest_unpacked)) _)

before_length : (b : ℕ) (t : Bytes) → length (text_before b t) ≤ suc (length t)
unfolding text_before
before_length b [] = by_test (eqb b space)
    (λ e. rw (text_before_blank b (eqb-true b space e)) (omega arith))
    (λ e. rw (text_before_other b (eqb-false b space e)) (omega arith))
before_length b (x ∷ xs) = omega arith

pub strip_length : (bs : Bytes) → length (strip bs) ≤ length bs
strip_length [] = rw strip_nil (omega arith)
strip_length (b ∷ bs) = let h = strip_length bs in rw (strip_cons b bs) (omega (arith, before_length b (strip bs)))

twos_fits : (n x : ℕ) → 2 ^ (8 * n - 1) ≤ 2 ^ 31 → 2 ^ (8 * n) ≤ 2 * 2 ^ (8 * n - 1) → Fits fixed (twos_complement n x)
unfolding twos_complement normal
twos_fits n x h k =
    by_test (ltb x (2 ^ (8 * n - 1)))
    (λ e. rw (e, twos_complement) (below_held x (2 ^ 31) _ (omega (arith, ltb-true x (2 ^ (8 * n - 1)) e))))
    (λ e. rw (e, twos_complement) (upto_held (2 ^ (8 * n) - x) (2 ^ 31) _ (omega (arith, ltb-false x (2 ^ (8 * n - 1)) e))))

decimal_fits : (ds : List ℕ) (s : ℕ) (v : Value) → length ds ≤ longest_unpacked → decimal ds s ≡ done v → Fits unpacked v
unfolding decimal signed normal
decimal_fits ds s v h e =
    from_need (all (λ d. leb d 9) ds) 8 _ e λ t k.
    from_bind (sign_means s) _ k λ below _ q.
    let d = spelled_below 10 ds (λ i. let l = leb→le (get_or ds i 0) 9 (all_get_d (λ d. leb d 9) ds t tt i) in omega arith) in
    let p = pow-le-pow_right {n = 10} (lit< tt) {i = length ds} {j = longest_unpacked} h in
    rw (← done_inj q) (below_held (spelled 10 ds 0) (10 ^ longest_unpacked) _ (lt_of_lt_of_le d p))

at_most : (n m : ℕ) → (leb 1 n && leb n m) ≡ true → n ≤ m
at_most n m a = leb-true n m (and_both (leb 1 n) (leb n m) a).1

pub length_halves : (bs : Bytes) → length (halves bs) ≡ 2 * length bs
unfolding halves
length_halves [] = refl
length_halves (b ∷ bs) = omega (arith, length_halves bs)

pub length_but_last : (ds : List ℕ) → length (but_last ds) ≡ length ds - 1
unfolding but_last
length_but_last [] = refl
length_but_last (x ∷ []) = refl
length_but_last (x ∷ y ∷ ds) = omega (arith, length_but_last (y ∷ ds))

-- The longest length of a format holds what any value of the format means.
own_fits : (f : Format) (bs : Bytes) (v : Value) → allowed f (length bs) ≡ true → Below 256 bs → meaning f bs ≡ done v → Fits f v
unfolding meaning allowed normal
own_fits alpha bs v a b e = rw (← done_inj e) (upto_held (length (strip bs)) longest_alpha _ (le_trans (strip_length bs) (leb-true (length bs) longest_alpha a)))
own_fits binary bs v a b e =
    let p = pow-le-pow_right {n = 256} (lit< tt) {i = length bs} {j = longest_binary} (at_most (length bs) longest_binary a) in
    rw (← done_inj e) (below_held (spelled 256 bs 0) (256 ^ longest_binary) _ (lt_of_lt_of_le (spelled_below 256 bs b) p))
own_fits fixed bs v a b e = rw (← done_inj e)
    (by_test (eqb (length bs) 2)
    (λ q. rw (eqb-true (length bs) 2 q) (twos_fits 2 (spelled 256 bs 0) (lit≤ tt) (lit≤ tt)))
    (λ q. rw (eqb-true (length bs) 4 (rw q at a)) (twos_fits 4 (spelled 256 bs 0) (lit≤ tt) (lit≤ tt))))
own_fits packed bs v a b e =
    let l = at_most (length bs) longest_packed a in
    same_digits v ∙ decimal_fits (but_last (halves bs)) (last (halves bs)) v (omega (arith, length_but_last (halves bs), length_halves bs)) e
own_fits unpacked bs v a b e =
    from_need (all (λ b. eqb (b / 16) 0xF) (but_last bs)) 8 _ e λ _ k.
    decimal_fits (map (λ b. b % 16) bs) (last bs / 16) v (omega (arith, length-map bs (λ b. b % 16), at_most (length bs) longest_unpacked a)) k

-- The longest lengths of B, F, P and U hold the numbers of the conversion ranges that lead to them.
natural_word : (v : Value) → in_range natural v ≡ true → in_range word v ≡ true
unfolding in_range
natural_word (text t) r = r
natural_word (number false x) r = r
natural_word (number true x) r = absurd (not_both r)

natural_binary : (v : Value) → in_range natural v ≡ true → Fits binary v
unfolding in_range normal
natural_binary (text t) r = absurd (not_both r)
natural_binary (number false x) r = below_held x (256 ^ longest_binary) _ (lt_of_le_of_lt (leb-true x greatest_word r) (lit< tt))
natural_binary (number true x) r = absurd (not_both r)

word_fixed : (v : Value) → in_range word v ≡ true → Fits fixed v
unfolding in_range normal
word_fixed (text t) r = absurd (not_both r)
word_fixed (number false x) r = below_held x (2 ^ 31) _ (lt_of_le_of_lt (leb-true x greatest_word r) (lit< tt))
word_fixed (number true x) r = upto_held x (2 ^ 31) _ (leb-true x lowest_word r)

word_unpacked : (v : Value) → in_range word v ≡ true → Fits unpacked v
unfolding in_range normal
word_unpacked (text t) r = absurd (not_both r)
word_unpacked (number false x) r = below_held x (10 ^ longest_unpacked) _ (lt_of_le_of_lt (leb-true x greatest_word r) (lit< tt))
word_unpacked (number true x) r = below_held x (10 ^ longest_unpacked) _ (lt_of_le_of_lt (leb-true x lowest_word r) (lit< tt))

word_packed : (v : Value) → in_range word v ≡ true → Fits packed v
word_packed v r = same_digits v ∙ word_unpacked v r

-- So it holds what converts to the format.
into_fits : (f g : Format) (v : Value) → Fits f v → in_range (conversion f g) v ≡ true → Fits g v
unfolding conversion in_range
into_fits alpha alpha v o r = o
into_fits alpha binary v o r = absurd (not_both r)
into_fits alpha fixed v o r = absurd (not_both r)
into_fits alpha packed v o r = absurd (not_both r)
into_fits alpha unpacked v o r = absurd (not_both r)
into_fits binary alpha v o r = absurd (not_both r)
into_fits binary binary v o r = o
into_fits binary fixed v o r = word_fixed v (natural_word v r)
into_fits binary packed v o r = word_packed v (natural_word v r)
into_fits binary unpacked v o r = word_unpacked v (natural_word v r)
into_fits fixed alpha v o r = absurd (not_both r)
into_fits fixed binary v o r = natural_binary v r
into_fits fixed fixed v o r = o
into_fits fixed packed v o r = word_packed v r
into_fits fixed unpacked v o r = word_unpacked v r
into_fits packed alpha v o r = absurd (not_both r)
into_fits packed binary v o r = natural_binary v r
into_fits packed fixed v o r = word_fixed v r
into_fits packed packed v o r = o
into_fits packed unpacked v o r = sym (same_digits v) ∙ o
into_fits unpacked alpha v o r = absurd (not_both r)
into_fits unpacked binary v o r = natural_binary v r
into_fits unpacked fixed v o r = word_fixed v r
into_fits unpacked packed v o r = same_digits v ∙ o
into_fits unpacked unpacked v o r = o

longest_allowed : (g : Format) → (allowed g (longest g) ≡ true) × (1 ≤ longest g)
unfolding allowed
longest_allowed alpha = (refl, lit≤ tt)
longest_allowed binary = (refl, lit≤ tt)
longest_allowed fixed = (refl, lit≤ tt)
longest_allowed packed = (refl, lit≤ tt)
longest_allowed unpacked = (refl, lit≤ tt)

inside_holds : (f g : Format) (bs : Bytes) (v : Value) (n : ℕ) → meaning f bs ≡ done v → in_range (conversion f g) v ≡ true → allowed g n ≡ true → is_done (normal g n v) ≡ true
    → would_hold f g bs n ≡ true
unfolding would_hold converted_bytes converted
inside_holds f g bs v n e r a d = rw (e, r, a, d)

module _ (f g : Format) (bs : Bytes) (v : Value) (a : allowed f (length bs) ≡ true) (b : Below 256 bs) (e : meaning f bs ≡ done v) where
  longest_holds : in_range (conversion f g) v ≡ true → would_hold f g bs (longest g) ≡ true
  longest_holds r = inside_holds f g bs v (longest g) e r (longest_allowed g).0 (into_fits f g v (own_fits f bs v a b e) r)

  pub inside_some : in_range (conversion f g) v ≡ true → 1 ≤ smallest_length f g bs
  unfolding smallest_length
  inside_some r = let o = (longest_allowed g).1 in first_some (would_hold f g bs) 1 (longest g) (longest g) (lit≤ tt) o (omega arith) (longest_holds r)

  -- What the longest length does not hold no length holds.
  pub longest_unheld : would_hold f g bs (longest g) ≡ false → smallest_length f g bs ≡ 0
  longest_unheld h = by_test (in_range (conversion f g) v) (λ r. absurd (not_both (sym h ∙ longest_holds r))) (outside_none f g bs v e)

-- ---- a value that is held is read as it is converted

pub read_done : (f g : Format) (n : ℕ) (bs : Bytes) {b : Bytes} → converted_bytes f g n bs ≡ done b → read_value f g n bs ≡ done b
unfolding read_value
read_done f g n bs e = ap (λ (o : Outcome Bytes). needing (smallest_length f g bs) o) e
