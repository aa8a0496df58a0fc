-- Lists, and tests on them, that document 01 takes for granted.
use Rattle.std.specs.Prelude.{Bool, true, false, ◌&&◌, ◌||◌, List, [], ◌∷◌, ◌++◌, ℕ, zero, suc, ◌+◌, ◌*◌, ◌/◌, ◌%◌, max, eqb}
use Rattle.std.proofs.Math.Option.{Option, none, some}
use Rattle.rules.specs.Outcome.{Outcome, done, refused, by, ◌>>=◌}

abbrev pub Bytes : Type 0
Bytes = List ℕ

-- The bytes of an outcome: none where it was refused.
unfoldable pub bytes_of : Outcome Bytes → Bytes
bytes_of (done b) = b
bytes_of (refused n) = []

-- Nothing there.
unfoldable pub nothing : Bytes → Bool
nothing [] = true
nothing (b ∷ bs) = false

unfoldable pub absent : {A : Type 0} → Option A → Bool
absent none = true
absent (some a) = false

-- The same bytes.
unfoldable pub same : Bytes → Bytes → Bool
same [] [] = true
same [] (y ∷ ys) = false
same (x ∷ xs) [] = false
same (x ∷ xs) (y ∷ ys) = eqb x y && same xs ys

unfoldable pub all : {A : Type 0} → (A → Bool) → List A → Bool
all f [] = true
all f (x ∷ xs) = f x && all f xs

unfoldable pub any : {A : Type 0} → (A → Bool) → List A → Bool
any f [] = false
any f (x ∷ xs) = f x || any f xs

unfoldable pub filter : {A : Type 0} → (A → Bool) → List A → List A
filter f [] = []
filter f (x ∷ xs) = elim (f x) [ true ↦ x ∷ filter f xs | false ↦ filter f xs ]

-- What a list of pairs has under a key, the first pair that has it.
unfoldable pub look_up : {A : Type 0} → ℕ → List (ℕ × A) → Option A
look_up k [] = none
look_up k (x ∷ xs) = elim (eqb x.0 k) [ true ↦ some x.1 | false ↦ look_up k xs ]

unfoldable pub maximum : List ℕ → ℕ
maximum [] = 0
maximum (x ∷ xs) = max x (maximum xs)

-- f at i, i + 1, ..: n of them.
unfoldable pub run : {A : Type 0} → (ℕ → A) → ℕ → ℕ → List A
run f i zero = []
run f i (suc n) = f i ∷ run f (suc i) n

unfoldable pub join : {A : Type 0} → List (List A) → List A
join [] = []
join (x ∷ xs) = x ++ join xs

-- The first n bytes and those after them; the number k where there are fewer.
unfoldable pub cut : ℕ → ℕ → Bytes → Outcome (Bytes × Bytes)
cut k zero bs = done ([], bs)
cut k (suc n) [] = refused (by k)
cut k (suc n) (b ∷ bs) = cut k n bs >>= λ r. done (b ∷ r.0, r.1)

-- The number that digits spell in a base, after what stands before them.
unfoldable pub spelled : ℕ → List ℕ → ℕ → ℕ
spelled base [] before = before
spelled base (d ∷ ds) before = spelled base ds (before * base + d)

-- The last n digits of a number in a base: all of it where it is below base to the power of n.
unfoldable pub digits : ℕ → ℕ → ℕ → List ℕ
digits base zero x = []
digits base (suc n) x = digits base n (x / base) ++ (x % base ∷ [])

-- All but the last, and the last (0 where there is none).
unfoldable pub but_last : List ℕ → List ℕ
but_last [] = []
but_last (x ∷ []) = []
but_last (x ∷ y ∷ ys) = x ∷ but_last (y ∷ ys)

unfoldable pub last : List ℕ → ℕ
last [] = 0
last (x ∷ []) = x
last (x ∷ y ∷ ys) = last (y ∷ ys)
