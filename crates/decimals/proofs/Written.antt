-- The bytes of a number in normal form are those before the last, each with the digits of its place, and the last; so a store after
-- bytes that are still to be written is a part of the write.
use mathlib.Core.Path.{◌≡◌, refl, sym, ◌∙◌, ap}
use mathlib.Core.Bool.{Bool, true, false}
use mathlib.Core.List.{List, [], ◌∷◌, ◌++◌, map, map-append, append-nil, append_assoc}
use Prim.Native.Nat.{ℕ, zero, suc, ◌+◌, ◌-◌, ◌*◌, ◌/◌, ◌%◌, ◌^◌, ◌≤◌, ◌<◌}
use native.Mathlib.Nat.{pow-zero, pow-suc, div-lt_iff_lt-mul}
use native.Mathlib.Omega.{arith}
use lib.Dec.{lit<}
use lib.ListN.{length, drop, set, replicate, length-append, length-set, length-map, drop_of_length-le}
use lib.Seq.{drop-append-le}
use Rattle.rules.specs.Lists.{digits}
use Rattle.rules.specs.Values.{pairs, zoned, sign_written}
use Rattle.rules.proofs.Digits.{length_digits, digits_zero}
use Rattle.buffer.specs.Splice.{splice}
use Rattle.buffer.proofs.Laws.{splice_nil}
use Rattle.decimals.specs.Decimals.{places, encoded, written, byte_base, inner_written, front, last_written}

pub length_front : (p : Bool) (m y : ℕ) → length (front p m y) ≡ m
unfolding front
length_front p m y = length-map (digits (byte_base p) m y) (inner_written p) ∙ length_digits (byte_base p) m y

pub front_none : (p : Bool) (y : ℕ) → front p 0 y ≡ []
unfolding front digits
front_none p y = refl

pub front_more : (p : Bool) (m y : ℕ) → front p (suc m) y ≡ front p m (y / byte_base p) ++ (inner_written p (y % byte_base p) ∷ [])
unfolding front digits
front_more p m y = map-append (inner_written p) (digits (byte_base p) m (y / byte_base p)) (y % byte_base p ∷ [])

-- ---- fewer of them, and more

pub front_drop : (p : Bool) (a k y : ℕ) → drop a (front p (a + k) y) ≡ front p k y
front_drop p a zero y =
    let l = length_front p (a + 0) y in
    rw (drop_of_length-le (front p (a + 0) y) {i = a} (omega arith)) (sym (front_none p y))
front_drop p a (suc k) y =
    let e : a + suc k ≡ suc (a + k) = omega arith in
    let l = length_front p (a + k) (y / byte_base p) in
    rw (e, front_more p (a + k) y, drop-append-le a (front p (a + k) (y / byte_base p)) (inner_written p (y % byte_base p) ∷ []) (omega arith), front_drop p a k (y / byte_base p))
    (sym (front_more p k y))

replicate_map : (f : ℕ → ℕ) (k d : ℕ) → map f (replicate k d) ≡ replicate k (f d)
replicate_map f zero d = refl
replicate_map f (suc k) d = ap (λ (l : List ℕ). f d ∷ l) (replicate_map f k d)

zero_front : (p : Bool) (k : ℕ) → front p k 0 ≡ replicate k (inner_written p 0)
unfolding front
zero_front p k = rw (digits_zero (byte_base p) k) (replicate_map (inner_written p) k 0)

pub base_some : (p : Bool) → 0 < byte_base p
unfolding byte_base
base_some true = lit< tt
base_some false = lit< tt

pub front_after_zeros : (p : Bool) (k m y : ℕ) → y < byte_base p ^ m → front p (k + m) y ≡ replicate k (inner_written p 0) ++ front p m y
front_after_zeros p k zero y h =
    let z : y ≡ 0 = let q = rw (pow-zero (byte_base p)) at h in omega arith in
    let e : k + 0 ≡ k = omega arith in
    rw (e, z, front_none p 0, append-nil) (zero_front p k)
front_after_zeros p k (suc m) y h =
    let e : k + suc m ≡ suc (k + m) = omega arith in
    let q = (div-lt_iff_lt-mul (base_some p)).1 (rw (pow-suc (byte_base p) m) at h) in
    rw (e, front_more p (k + m) y, front_after_zeros p k m (y / byte_base p) q, front_more p m y)
    (append_assoc (replicate k (inner_written p 0)) (front p m (y / byte_base p)) (inner_written p (y % byte_base p) ∷ []))

-- ---- the bytes of digits and a sign

pairs_snoc : (n : ℕ) (ds : List ℕ) (a b : ℕ) → length ds ≡ 2 * n → pairs ((ds ++ (a ∷ [])) ++ (b ∷ [])) ≡ pairs ds ++ ((a * 16 + b) ∷ [])
unfolding pairs
pairs_snoc n [] a b e = refl
pairs_snoc n (c ∷ []) a b e = absurd (omega arith)
pairs_snoc zero (c ∷ d ∷ ds) a b e = absurd (omega arith)
pairs_snoc (suc n) (c ∷ d ∷ ds) a b e = ap (λ (l : List ℕ). (c * 16 + d) ∷ l) (pairs_snoc n ds a b (omega arith))

zoned_snoc : (ds : List ℕ) (d s : ℕ) → zoned (ds ++ (d ∷ [])) s ≡ map (λ e. 0xF0 + e) ds ++ ((s * 16 + d) ∷ [])
unfolding zoned
zoned_snoc [] d s = refl
zoned_snoc (e ∷ []) d s = refl
zoned_snoc (e ∷ f ∷ ds) d s = ap (λ (l : List ℕ). (0xF0 + e) ∷ l) (zoned_snoc (f ∷ ds) d s)

two_digits : (n y : ℕ) → digits 10 (suc (suc n)) y ≡ (digits 10 n (y / 10 / 10) ++ (y / 10 % 10 ∷ [])) ++ (y % 10 ∷ [])
unfolding digits
two_digits n y = refl

one_digit : (n y : ℕ) → digits 10 (suc n) y ≡ digits 10 n (y / 10) ++ (y % 10 ∷ [])
unfolding digits
one_digit n y = refl

no_pairs : (y : ℕ) → pairs (digits 10 (2 * 0) y) ≡ front true 0 y
unfolding pairs digits front
no_pairs y = refl

front_pairs : (m y : ℕ) → pairs (digits 10 (2 * m) y) ≡ front true m y
unfolding inner_written byte_base
front_pairs zero y = no_pairs y
front_pairs (suc m) y =
    let e : 2 * suc m ≡ suc (suc (2 * m)) = omega arith in
    let f : y / 10 / 10 ≡ y / 100 = omega arith in
    let g : y / 10 % 10 * 16 + y % 10 ≡ y % 100 / 10 * 16 + y % 100 % 10 = omega arith in
    rw (e, two_digits (2 * m) y, pairs_snoc m (digits 10 (2 * m) (y / 10 / 10)) (y / 10 % 10) (y % 10) (length_digits 10 (2 * m) _), front_pairs m (y / 10 / 10), f, g)
    (sym (front_more true m y))

pub encoded_front : (p : Bool) (m x s : ℕ) → encoded p (digits 10 (places p (suc m)) x) s ≡ front p m (x / 10) ++ (last_written p (x % 10) s ∷ [])
unfolding encoded places last_written front byte_base inner_written
encoded_front true m x s =
    let e : 2 * suc m - 1 ≡ suc (2 * m) = omega arith in
    rw (e, one_digit (2 * m) x, pairs_snoc m (digits 10 (2 * m) (x / 10)) (x % 10) s (length_digits 10 (2 * m) _), front_pairs m (x / 10))
encoded_front false m x s = rw (one_digit m x) (zoned_snoc (digits 10 m (x / 10)) (x % 10) s)

pub written_front : (p : Bool) (n : ℕ) (below : Bool) (x : ℕ) → 0 < n
    → written p n below x ≡ front p (n - 1) (x / 10) ++ (last_written p (x % 10) (sign_written below) ∷ [])
unfolding written
written_front p zero below x h = absurd (omega arith)
written_front p (suc m) below x h =
    let e : suc m - 1 ≡ m = omega arith in
    rw e (encoded_front p m x (sign_written below))

pub length_written : (p : Bool) (n : ℕ) (below : Bool) (x : ℕ) → 0 < n → length (written p n below x) ≡ n
length_written p n below x h =
    let l = length_front p (n - 1) (x / 10) in
    rw (written_front p n below x h, length-append (front p (n - 1) (x / 10))) (omega arith)

-- ---- a store after bytes that are still to be written

store_after : (out : List ℕ) (at : ℕ) (a : List ℕ) (q v : ℕ) → q ≡ at + length a → q < length out → splice at a (set out q v) ≡ splice at (a ++ (v ∷ [])) out
unfolding splice
store_after [] at a q v e h = absurd (omega arith)
store_after (x ∷ out) zero [] zero v e h = refl
store_after (x ∷ out) zero [] (suc q) v e h = absurd (omega arith)
store_after (x ∷ out) zero (b ∷ a) zero v e h = absurd (omega arith)
store_after (x ∷ out) zero (b ∷ a) (suc q) v e h = ap (λ (l : List ℕ). b ∷ l) (store_after out zero a q v (omega arith) (omega arith))
store_after (x ∷ out) (suc at) a zero v e h = absurd (omega arith)
store_after (x ∷ out) (suc at) a (suc q) v e h = ap (λ (l : List ℕ). x ∷ l) (store_after out at a q v (omega arith) (omega arith))

-- the last byte first, and then those before it
pub written_last_first : (p : Bool) (n : ℕ) (below : Bool) (x at : ℕ) (out out' : List ℕ) (q v : ℕ) → 0 < n → at + n ≤ length out → q ≡ at + (n - 1)
    → v ≡ last_written p (x % 10) (sign_written below) → out' ≡ splice at (front p (n - 1) (x / 10)) (set out q v)
    → out' ≡ splice at (written p n below x) out
written_last_first p n below x at out out' q v o h eq ev e =
    let l = length_front p (n - 1) (x / 10) in
    e ∙ store_after out at (front p (n - 1) (x / 10)) q v (omega arith) (omega arith) ∙ rw (ev, ← written_front p n below x o)

-- writing from the right: with the bytes of the rest before place i, what is written is all of it
pub record Writing (p : Bool) (n x at : ℕ) (out₀ out : List ℕ) (rest i : ℕ) : Type 0 where
  pub fits : at + n ≤ length out₀
  pub upto : i ≤ n
  pub same : length out ≡ length out₀
  pub left : splice at (front p i rest) out ≡ splice at (front p n x) out₀

pub writing_start : {p : Bool} {n x at : ℕ} {out : List ℕ} → at + n ≤ length out → Writing p n x at out out x n
writing_start h = record { fits = h; upto = omega arith; same = refl; left = refl }

pub writing_turn : {p : Bool} {n x at : ℕ} {out₀ out : List ℕ} {rest i q v more : ℕ} → Writing p n x at out₀ out rest i → 0 < i → q ≡ at + (i - 1)
    → v ≡ inner_written p (rest % byte_base p) → more ≡ rest / byte_base p → Writing p n x at out₀ (set out q v) more (i - 1)
writing_turn {p} {n} {x} {at} {out₀} {out} {rest} {i} {q} {v} {more} w h eq ev em =
    let k = w.same in
    let u = w.upto in
    let f = w.fits in
    let l = length_front p (i - 1) (rest / byte_base p) in
    let e : i ≡ suc (i - 1) = omega arith in
    record {
      fits = w.fits;
      upto = omega arith;
      same = simp length-set w.same;
      left = rw (em, ev) (store_after out at (front p (i - 1) (rest / byte_base p)) q _ (omega arith) (omega arith) ∙ rw (← front_more p (i - 1) rest, ← e) w.left);
    }

pub writing_end : {p : Bool} {n x at : ℕ} {out₀ out : List ℕ} {rest i : ℕ} → Writing p n x at out₀ out rest i → i ≤ 0 → out ≡ splice at (front p n x) out₀
writing_end {p} {n} {x} {at} {out₀} {out} {rest} {i} w h =
    let z : i ≡ 0 = omega arith in
    let l = rw (z, front_none p rest) at w.left in
    sym (splice_nil at out) ∙ l
