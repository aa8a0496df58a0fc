-- Chains as lists of numbers: where one ends, what comes first in it, and what a test leaves of the numbers in order.
use mathlib.Core.Path.{◌≡◌, refl, sym, ap, ◌∙◌}
use mathlib.Core.Bool.{Bool, true, false, ◌||◌, true≢false}
use mathlib.Core.List.{List, [], ◌∷◌}
use Prim.Native.Nat.{ℕ, zero, suc, ◌+◌, ◌-◌, ◌≤◌, ◌<◌}
use native.Mathlib.Omega.{arith}
use lib.Dec.{eqb, ltb}
use Rattle.rules.specs.Lists.{filter, all, any, run}
use Rattle.rules.proofs.Steps.{by_test}
use Rattle.uses.specs.Kept.{use_at}
use borrow.Author.Tests.{eqb-true, eqb-false, ltb-true, ltb-false, ne_eqb}
use Rattle.assignments.specs.Notes.{next_noted, use_chain, chained}

-- What is left of a chain.
pub chained_end : (list : List ℕ) (most : ℕ) → chained list most 0 ≡ []
unfolding chained
chained_end list zero = refl
chained_end list (suc most) = refl

pub chained_first : (list : List ℕ) (f k : ℕ) → chained list (suc f) (suc k) ≡ k ∷ chained list f (next_noted list k)
unfolding chained
chained_first list f k = refl

pub chained_more : (list : List ℕ) (most n : ℕ) → 0 < n → 0 < most → chained list most n ≡ (n - 1) ∷ chained list (most - 1) (next_noted list (n - 1))
unfolding chained
chained_more list zero n h k = absurd (omega arith)
chained_more list (suc most) zero h k = absurd (omega arith)
chained_more list (suc most) (suc m) h k = let a : suc m - 1 ≡ m = omega arith in let b : suc most - 1 ≡ most = omega arith in rw (a, b)

-- The numbers of the next uses, from use m on, ascend.
abbrev pub Ascending : List ℕ → ℕ → ℕ → Type 0
Ascending list count m = (k : ℕ) → m ≤ k → k < count → (next_noted list k ≤ count) × (0 < next_noted list k → suc k < next_noted list k)

-- A chain that begins at use m or after it stays where the next uses from there on do, however many uses it may have.
pub chain_same : (list after : List ℕ) (count m : ℕ) → Ascending list count m → ((k : ℕ) → m ≤ k → next_noted after k ≡ next_noted list k)
    → (f g n : ℕ) → n ≤ count → (0 < n → m < n) → (0 < n → count < f + n) → (0 < n → count < g + n) → chained after g n ≡ chained list f n
unfolding chained
chain_same list after count m a s zero g zero h l u v = chained_end after g
chain_same list after count m a s zero g (suc j) h l u v = absurd (let q = u (omega arith) in omega arith)
chain_same list after count m a s (suc f) g zero h l u v = chained_end after g
chain_same list after count m a s (suc f) zero (suc j) h l u v = absurd (let q = v (omega arith) in omega arith)
chain_same list after count m a s (suc f) (suc g) (suc j) h l u v =
    let b : m ≤ j = let q = l (omega arith) in omega arith in
    let (few, up) = a j b (omega arith) in
    let x = u (omega arith) in
    let y = v (omega arith) in
    ap (λ n. j ∷ chained after g n) (s j b)
    ∙ ap (◌∷◌ j) (chain_same list after count m a s f g (next_noted list j) few (λ p. let q = up p in omega arith) (λ p. let q = up p in omega arith) (λ p. let q = up p in omega arith))

-- A chain is as long as it is, if enough may be taken.
pub chained_alike : (list : List ℕ) (count : ℕ) → ((n : ℕ) → n < count → (next_noted list n ≤ count) × (0 < next_noted list n → suc n < next_noted list n))
    → (a b n : ℕ) → n ≤ count → (0 < n → count < a + n) → (0 < n → count < b + n) → chained list a n ≡ chained list b n
chained_alike list count f a b n h j k = chain_same list list count 0 (λ m u l. f m l) (λ m u. refl) b a n h (λ p. p) k j

abbrev pub belongs_to : List ℕ → ℕ → ℕ → Bool
belongs_to kept x n = eqb (use_chain (use_at kept n)) x

pub all_filter : (p : ℕ → Bool) (xs : List ℕ) → all p (filter p xs) ≡ true
unfolding all filter
all_filter p [] = refl
all_filter p (x ∷ xs) = by_test (p x) (λ e. rw (e, filter, all, e) (all_filter p xs)) (λ e. rw (e, filter) (all_filter p xs))

by_order : (i m : ℕ) → (i ≡ m → ⊥) → i ≤ m → i < m
by_order i m d h = by_test (ltb i m) (λ e. ltb-true i m e) (λ e. let k = ltb-false i m e in absurd (d (omega arith)))

pub filter_nil : (q : ℕ → Bool) → filter q [] ≡ []
unfolding filter
filter_nil q = refl

pub filter_in : (q : ℕ → Bool) (x : ℕ) (xs : List ℕ) → q x ≡ true → filter q (x ∷ xs) ≡ x ∷ filter q xs
unfolding filter
filter_in q x xs e = rw (e, filter)

pub filter_out : (q : ℕ → Bool) (x : ℕ) (xs : List ℕ) → q x ≡ false → filter q (x ∷ xs) ≡ filter q xs
unfolding filter
filter_out q x xs e = rw (e, filter)

not_either : (a b : Bool) → (a || b) ≡ false → (a ≡ false) × (b ≡ false)
not_either true b e = absurd (true≢false e)
not_either false b e = (refl, e)

any_none : (p : ℕ → Bool) (x : ℕ) (xs : List ℕ) → any p (x ∷ xs) ≡ false → (p x ≡ false) × (any p xs ≡ false)
unfolding any
any_none p x xs e = not_either (p x) (any p xs) e

-- What none of the numbers that meet a test does, each that meets it does not.
pub none_of : (p q : ℕ → Bool) (i n : ℕ) → any p (filter q (run (λ m. m) i n)) ≡ false → (m : ℕ) → i ≤ m → m < i + n → q m ≡ true → p m ≡ false
unfolding run
none_of p q i zero e m h k t = absurd (omega arith)
none_of p q i (suc n) e m h k t =
    let rest : List ℕ = run (λ m. m) (suc i) n in
    by_test (eqb i m)
    (λ y.
    let d : i ≡ m = eqb-true i m y in
    ap p (sym d) ∙ (any_none p i (filter q rest) (sym (ap (any p) (filter_in q i rest (ap q d ∙ t))) ∙ e)).0)
    (λ y.
    let l = eqb-false i m y in
    let later : i < m = by_order i m l h in
    let e' : any p (filter q rest) ≡ false = by_test (q i)
    (λ z. (any_none p i (filter q rest) (sym (ap (any p) (filter_in q i rest z)) ∙ e)).1)
    (λ z. sym (ap (any p) (filter_out q i rest z)) ∙ e) in
    none_of p q (suc i) n e' m (omega arith) (omega arith) t)

pub numbers_none : (i : ℕ) → run (λ n. n) i 0 ≡ []
unfolding run
numbers_none i = refl

pub numbers_more : (i n : ℕ) → run (λ n. n) i (suc n) ≡ i ∷ run (λ n. n) (suc i) n
unfolding run
numbers_more i n = refl

pub none_below : (q : ℕ → Bool) (i n m : ℕ) → i + n ≤ m → any (eqb m) (filter q (run (λ k. k) i n)) ≡ false
unfolding run any
none_below q i zero m h = ap (any (eqb m)) (filter_nil q)
none_below q i (suc n) m h =
    let rest : List ℕ = run (λ k. k) (suc i) n in
    let later = none_below q (suc i) n m (omega arith) in
    by_test (q i)
    (λ e. ap (any (eqb m)) (filter_in q i rest e) ∙ rw (ne_eqb m i (λ d. omega (arith, d))) later)
    (λ e. ap (any (eqb m)) (filter_out q i rest e) ∙ later)
