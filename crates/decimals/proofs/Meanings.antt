-- When P and U bytes are a value: what the meaning asks of digits and sign, byte after byte.
use mathlib.Core.Path.{◌≡◌, refl, sym, ◌∙◌, ap}
use mathlib.Core.Bool.{Bool, true, false, ◌&&◌, ◌||◌, and-true, and_assoc, and_comm}
use mathlib.Core.List.{List, [], ◌∷◌, ◌++◌, map, reverse}
use Rattle.std.specs.List.{list_all}
use Rattle.std.proofs.lemmas.Bool.Decides.{nat_tests}
use Rattle.std.proofs.lemmas.List.{reverse-append}
use Rattle.std.proofs.lemmas.List.Folds.{list_all-append}
use Prim.Native.Nat.{ℕ, ◌/◌, ◌%◌}
use native.Mathlib.Omega.{arith}
use lib.Dec.{eqb, leb}
use lib.ListN.{length}
use Rattle.rules.specs.Outcome.{done, refused, is_done}
use Rattle.rules.specs.Lists.{Bytes, all, spelled, but_last, last}
use Rattle.rules.specs.Numbers.{refusal, refusal_number}
use Rattle.rules.specs.declared.Refusal.TheVariants.{BadValue}
use Rattle.rules.specs.Values.{signed, halves, accepted_plus, accepted_minus, sign_means, decimal, meaning}
use Rattle.rules.proofs.Bools.{and_regrouped, and_crossed}
use Rattle.rules.proofs.Done.{is_done_then, is_done_after}
use Rattle.decimals.specs.Decimals.{decimal_format}
use Rattle.decimals.specs.Tests.{is_sign, inner_byte, last_byte, value_bytes}

-- ---- when they are a value

sign_is_done : (s : ℕ) → is_done (sign_means s) ≡ is_sign s
unfolding sign_means is_sign
sign_is_done s = go (accepted_plus s) (accepted_minus s)
  where
    go : (a b : Bool) → is_done {A = Bool} (elim a [ true ↦ done false | false ↦ elim b [ true ↦ done true | false ↦ refused (refusal BadValue) ] ]) ≡ (a || b)
    go true b = refl
    go false true = refl
    go false false = refl

decimal_is_done : (ds : List ℕ) (s : ℕ) → is_done (decimal ds s) ≡ (all (λ d. leb d 9) ds && is_sign s)
unfolding decimal
decimal_is_done ds s =
    is_done_after (all (λ d. leb d 9) ds) (refusal_number BadValue) _
    ∙ ap (λ t. all (λ d. leb d 9) ds && t) (is_done_then (sign_means s) (λ below. signed below (spelled 10 ds 0)) ∙ sign_is_done s)

packed_scan : (bs : Bytes) → (all (λ d. leb d 9) (but_last (halves bs)) && is_sign (last (halves bs))) ≡ value_bytes true bs
unfolding all but_last last halves value_bytes inner_byte last_byte is_sign accepted_plus accepted_minus
packed_scan [] = refl
packed_scan (b ∷ []) = rw (and-true (leb (b / 16) 9))
packed_scan (b ∷ c ∷ bs) = rw (← packed_scan (c ∷ bs)) (and_regrouped (leb (b / 16) 9) (leb (b % 16) 9) _ _)

unpacked_scan : (bs : Bytes)
    → (all (λ b. eqb (b / 16) 0xF) (but_last bs) && (all (λ d. leb d 9) (map (λ b. b % 16) bs) && is_sign (last bs / 16))) ≡ value_bytes false bs
unfolding all but_last last value_bytes inner_byte last_byte is_sign accepted_plus accepted_minus
unpacked_scan [] = refl
unpacked_scan (b ∷ []) = rw (and-true (leb (b % 16) 9))
unpacked_scan (b ∷ c ∷ bs) = rw (← unpacked_scan (c ∷ bs)) (and_crossed (eqb (b / 16) 0xF) _ (leb (b % 16) 9) _ _)

pub value_scan : (p : Bool) (bs : Bytes) → is_done (meaning (decimal_format p) bs) ≡ value_bytes p bs
unfolding decimal_format meaning
value_scan true bs = decimal_is_done (but_last (halves bs)) (last (halves bs)) ∙ packed_scan bs
value_scan false bs =
    is_done_after (all (λ b. eqb (b / 16) 0xF) (but_last bs)) (refusal_number BadValue) (λ _. decimal (map (λ b. b % 16) bs) (last bs / 16))
    ∙ ap (λ t. all (λ b. eqb (b / 16) 0xF) (but_last bs) && t) (decimal_is_done (map (λ b. b % 16) bs) (last bs / 16))
    ∙ unpacked_scan bs

-- ---- the bytes before the last, and the last

value_parts : (p : Bool) (front : Bytes) (b : ℕ) → value_bytes p (front ++ (b ∷ [])) ≡ (all (inner_byte p) front && last_byte p b)
unfolding value_bytes all
value_parts p [] b = refl
value_parts p (c ∷ []) b = rw (and-true (inner_byte p c))
value_parts p (c ∷ d ∷ front) b = rw (value_parts p (d ∷ front) b) (sym (and_assoc (inner_byte p c) (all (inner_byte p) (d ∷ front)) (last_byte p b)))

value_none : (p : Bool) (s : Bytes) → length s ≡ 0 → value_bytes p s ≡ false
unfolding value_bytes
value_none p [] e = refl
value_none p (b ∷ s) e = absurd (omega arith)

pub no_bytes : (p : Bool) (s : Bytes) → length s ≡ 0 → is_done (meaning (decimal_format p) s) ≡ false
no_bytes p s e = value_scan p s ∙ value_none p s e

pub value_is : (p : Bool) (s front : Bytes) (b : ℕ) → s ≡ front ++ (b ∷ [])
    → is_done (meaning (decimal_format p) s) ≡ (all (inner_byte p) front && last_byte p b)
value_is p s front b e = value_scan p s ∙ rw e (value_parts p front b)

-- ---- the bytes before the last, each by its number

pub inner_packed : (b : ℕ) → inner_byte true b ≡ (leb b 0x99 && leb (b % 16) 9)
unfolding inner_byte
inner_packed b = grind (arith, nat_tests)

pub inner_unpacked : (b : ℕ) → inner_byte false b ≡ (leb 0xF0 b && leb b 0xF9)
unfolding inner_byte
inner_unpacked b = grind (arith, nat_tests)

pub all_tested : {A : Type 0} (f : A → Bool) (xs : List A) → list_all f xs ≡ all f xs
unfolding all
all_tested f [] = refl
all_tested f (x ∷ xs) = rw (all_tested f xs)

-- From the right they answer as from the left.
pub all_reversed : {A : Type 0} (f : A → Bool) (xs : List A) → list_all f (reverse xs) ≡ all f xs
unfolding all
all_reversed f [] = refl
all_reversed f (x ∷ xs) =
    let e : reverse (x ∷ xs) ≡ reverse xs ++ (x ∷ []) = reverse-append (x ∷ []) xs in
    rw (e, list_all-append f (reverse xs) (x ∷ []), all_reversed f xs, and-true (f x)) (and_comm (all f xs) (f x))
