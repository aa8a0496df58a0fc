-- A number and its digits in any base: what digits spell, the digits of a number, and that each gives the other back.
use mathlib.Core.Path.{◌≡◌, refl, sym, ap, ◌∙◌}
use mathlib.Core.Bool.{Bool, true, ◌&&◌, and-true, and_assoc}
use mathlib.Core.List.{List, [], ◌∷◌, ◌++◌, append-nil, append_assoc}
use Prim.Native.Nat.{ℕ, zero, suc, ◌+◌, ◌*◌, ◌-◌, ◌/◌, ◌%◌, ◌^◌, ◌≤◌, ◌<◌}
use native.Mathlib.Nat.{pow-zero, pow-suc, one-le-pow, mul-le-mul_left, mul-le-mul_right, one-mul, zero-mul, zero-add, add-zero, mod-lt, mod-eq_of_lt, div-eq_of_lt, mul-add-div_right, mul-add-mod_self_right, div-add-mod', div-lt_iff_lt-mul, zero-div, zero-mod, not-suc-le-zero}
use native.Mathlib.Numerals.{add-one}
use native.Mathlib.Omega.{arith}
use lib.Dec.{T, ltb, lt→ltb}
use lib.ListN.{length, take, drop, get_or, replicate, length-append, drop_of_length-le, replicate-append-replicate}
use lib.Seq.{drop-cons, get_or-drop, get_or-take, get_or_at, take-take, take_at}
use Rattle.rules.specs.Lists.{all, spelled, digits}
use Rattle.rules.proofs.Steps.{and_left, and_right, and_intro}

-- Every digit is below b.
abbrev pub Below : ℕ → List ℕ → Type 0
Below b ds = (i : ℕ) → get_or ds i 0 < b

pub below_drop : (b : ℕ) (ds : List ℕ) (i : ℕ) → Below b ds → Below b (drop i ds)
below_drop b ds i h j = rw (get_or-drop i ds j 0) (h (i + j))

-- ---- what digits spell

pub spelled_none : (b x : ℕ) → spelled b [] x ≡ x
unfolding spelled
spelled_none b x = refl

spelled_first : (b d : ℕ) (ds : List ℕ) (x : ℕ) → spelled b (d ∷ ds) x ≡ spelled b ds (x * b + d)
unfolding spelled
spelled_first b d ds x = refl

-- What is left to read, after the number so far, spells what the whole spells.
pub spelled_turn : (b : ℕ) (ds : List ℕ) (i x : ℕ) → i < length ds → spelled b (drop (i + 1) ds) (x * b + get_or ds i 0) ≡ spelled b (drop i ds) x
spelled_turn b ds i x h = rw (add-one, drop-cons ds i 0 h) (sym (spelled_first b _ _ _))

pub spelled_end : (b : ℕ) (ds : List ℕ) (i x : ℕ) → length ds ≤ i → spelled b (drop i ds) x ≡ x
spelled_end b ds i x h = rw (drop_of_length-le ds h) (spelled_none b x)

-- What stands before n digits counts the base to the power of n times.
pub spelled_after : (b : ℕ) (ds : List ℕ) (x : ℕ) → spelled b ds x ≡ x * b ^ length ds + spelled b ds 0
unfolding spelled
spelled_after b [] x = rw (pow-zero b) (omega arith)
spelled_after b (d ∷ ds) x =
    let h = spelled_after b ds (x * b + d) in
    let g = spelled_after b ds (0 * b + d) in
    rw (pow-suc b (length ds)) (omega arith)

pub spelled_grows : (b : ℕ) (ds : List ℕ) (x : ℕ) → 0 < b → x ≤ spelled b ds x
spelled_grows b ds x o =
    let m : x * 1 ≤ x * b ^ length ds = mul-le-mul_left x (one-le-pow (length ds) b o) in
    rw (spelled_after b ds x) (omega arith)

pub spelled_below : (b : ℕ) (ds : List ℕ) → Below b ds → spelled b ds 0 < b ^ length ds
unfolding spelled
spelled_below b [] h = rw (pow-zero b) (omega arith)
spelled_below b (d ∷ ds) h =
    let g = spelled_after b ds (0 * b + d) in
    let k = spelled_below b ds (λ i. h (suc i)) in
    rw (pow-suc b (length ds)) (omega (arith, mul-le-mul_right (b ^ length ds) (h 0)))

-- A first digit that is not zero makes a number of full length.
pub spelled_full : (b d : ℕ) (ds : List ℕ) → 0 < d → b ^ length ds ≤ spelled b (d ∷ ds) 0
unfolding spelled
spelled_full b d ds h =
    let z : 0 * b + d ≡ d = rw (zero-mul b) (omega arith) in
    let m : 1 * b ^ length ds ≤ d * b ^ length ds = mul-le-mul_right (b ^ length ds) h in
    let o : 1 * b ^ length ds ≡ b ^ length ds = one-mul (b ^ length ds) in
    rw (z, spelled_after b ds d) (omega arith)

pub spelled_snoc : (b : ℕ) (ds : List ℕ) (d x : ℕ) → spelled b (ds ++ (d ∷ [])) x ≡ spelled b ds x * b + d
unfolding spelled
spelled_snoc b [] d x = refl
spelled_snoc b (e ∷ ds) d x = spelled_snoc b ds d (x * b + e)

-- ---- the digits of a number

pub length_digits : (b n x : ℕ) → length (digits b n x) ≡ n
unfolding digits
length_digits b zero x = refl
length_digits b (suc n) x = length-append (digits b n (x / b)) _ ∙ (let h = length_digits b n (x / b) in omega arith)

-- Zero has zeros for digits.
pub digits_zero : (b n : ℕ) → digits b n 0 ≡ replicate n 0
unfolding digits
digits_zero b zero = refl
digits_zero b (suc n) = rw (zero-div, zero-mod, digits_zero b n, replicate-append-replicate {A = ℕ} n 1 0, add-one)

-- Where the digits of the rest are the first digits of the whole, the last of them is the one to write next.
pub digit_next : (b : ℕ) (ds : List ℕ) (j rest : ℕ) → 0 < j → take j ds ≡ digits b j rest
    → (rest % b ≡ get_or ds (j - 1) 0) × (take (j - 1) ds ≡ digits b (j - 1) (rest / b))
unfolding digits
digit_next b ds zero rest h e = absurd (not-suc-le-zero h)
digit_next b ds (suc k) rest h e =
    let m : suc k - 1 ≡ k = omega arith in
    let l : take (suc k) ds ≡ digits b k (rest / b) ++ (rest % b ∷ []) = e in
    rw m (
      sym (sym (get_or-take (suc k) ds k 0 (omega arith)) ∙ ap (λ d. get_or d k 0) l ∙ get_or_at (digits b k (rest / b)) (rest % b) [] 0 k (length_digits b k (rest / b))),
      sym (take-take k (suc k) ds (omega arith)) ∙ ap (take k) l ∙ take_at (digits b k (rest / b)) (rest % b ∷ []) k (length_digits b k (rest / b)),
    )

-- ---- each gives the other back

pub spelled_digits : (b n x : ℕ) → 0 < b → x < b ^ n → spelled b (digits b n x) 0 ≡ x
unfolding spelled digits
spelled_digits b zero x o h = let z = rw (pow-zero b) at h in omega arith
spelled_digits b (suc n) x o h =
    let q : x / b < b ^ n = (div-lt_iff_lt-mul o).1 (rw (pow-suc b n) at h) in
    rw (spelled_snoc b (digits b n (x / b)) (x % b) 0, spelled_digits b n (x / b) o q) (div-add-mod' x b)

last_digit : (b k x d : ℕ) → d < b → digits b (suc k) (x * b + d) ≡ digits b k x ++ (d ∷ [])
unfolding digits
last_digit b k x d h =
    let q : (x * b + d) / b ≡ x = mul-add-div_right (omega arith) x d ∙ (let z = div-eq_of_lt h in omega arith) in
    let r : (x * b + d) % b ≡ d = mul-add-mod_self_right x b d ∙ mod-eq_of_lt h in
    rw (q, r)

-- The last digits of what digits spell after x are those digits, and before them the digits of x.
pub digits_spelled : (b : ℕ) (ds : List ℕ) (k x : ℕ) → Below b ds → digits b (length ds + k) (spelled b ds x) ≡ digits b k x ++ ds
unfolding spelled
digits_spelled b [] k x h = rw zero-add (sym (append-nil (digits b k x)))
digits_spelled b (d ∷ ds) k x h =
    let n : suc (length ds) + k ≡ length ds + suc k = omega arith in
    rw n
    (digits_spelled b ds (suc k) (x * b + d) (λ i. h (suc i))
    ∙ rw (last_digit b k x d (h 0)) (append_assoc (digits b k x) (d ∷ []) ds))

pub own_digits : (b : ℕ) (ds : List ℕ) → Below b ds → digits b (length ds) (spelled b ds 0) ≡ ds
unfolding digits
own_digits b ds h = rw add-zero at (digits_spelled b ds 0 0 h)

-- ---- what holds of each digit

pub all_none : (g : ℕ → Bool) → all g [] ≡ true
unfolding all
all_none g = refl

pub all_first : (g : ℕ → Bool) (d : ℕ) (ds : List ℕ) → all g (d ∷ ds) ≡ (g d && all g ds)
unfolding all
all_first g d ds = refl

pub all_last : (g : ℕ → Bool) (ds : List ℕ) (d : ℕ) → all g (ds ++ (d ∷ [])) ≡ (all g ds && g d)
unfolding all
all_last g [] d = and-true (g d)
all_last g (e ∷ ds) d = rw (all_last g ds d) (sym (and_assoc (g e) (all g ds) (g d)))

pub all_snoc : (g : ℕ → Bool) (ds : List ℕ) (d : ℕ) → T (all g ds) → T (g d) → T (all g (ds ++ (d ∷ [])))
all_snoc g ds d a h = rw (all_last g ds d) (and_intro (all g ds) (g d) a h)

pub all_weaker : (f g : ℕ → Bool) → ((d : ℕ) → T (f d) → T (g d)) → (ds : List ℕ) → T (all f ds) → T (all g ds)
unfolding all
all_weaker f g k [] a = tt
all_weaker f g k (d ∷ ds) a = and_intro (g d) _ (k d (and_left (f d) (all f ds) a)) (all_weaker f g k ds (and_right (f d) (all f ds) a))

-- At any place, where it holds of the zero that stands for no digit.
pub all_get_d : (g : ℕ → Bool) (ds : List ℕ) → T (all g ds) → T (g 0) → (i : ℕ) → T (g (get_or ds i 0))
unfolding all
all_get_d g [] a z i = z
all_get_d g (d ∷ ds) a z zero = and_left (g d) (all g ds) a
all_get_d g (d ∷ ds) a z (suc i) = all_get_d g ds (and_right (g d) (all g ds) a) z i

pub all_digits_below : (b n x : ℕ) → 0 < b → T (all (λ d. ltb d b) (digits b n x))
unfolding digits all
all_digits_below b zero x o = tt
all_digits_below b (suc n) x o = all_snoc (λ d. ltb d b) (digits b n (x / b)) (x % b) (all_digits_below b n (x / b) o) (lt→ltb (x % b) b (mod-lt x o))
