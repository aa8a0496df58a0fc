-- What holds of a P or U value, from the fact that it has a meaning.
use mathlib.Core.Path.{◌≡◌, refl, sym, ◌∙◌, ap}
use mathlib.Core.Bool.{Bool, true, false, ◌&&◌, false≢true}
use mathlib.Core.List.{List, [], ◌∷◌, ◌++◌, map}
use Prim.Native.Nat.{ℕ, ◌+◌, ◌*◌, ◌/◌, ◌%◌, ◌≤◌, ◌<◌}
use native.Mathlib.Omega.{arith}
use lib.Dec.{T, eqb, leb, ltb, leb→le, eqb→eq}
use lib.ListN.{length, get_or}
use Rattle.rules.specs.Outcome.{Outcome, done, refused, is_done}
use Rattle.rules.specs.Limits.{longest_alpha}
use Rattle.rules.specs.Lists.{Bytes, all, spelled, but_last, last}
use Rattle.rules.specs.Numbers.{refusal, refusal_number}
use Rattle.rules.specs.declared.Refusal.TheVariants.{BadValue}
use Rattle.rules.specs.Values.{Value, number, signed, halves, pairs, zoned, accepted_plus, accepted_minus, sign_means, decimal, meaning}
use Rattle.rules.proofs.Steps.{true_T, T_true, and_left, and_right, not_done, from_bind, from_need, done_inj}
use Rattle.rules.proofs.Done.{done_some}
use Rattle.rules.proofs.Digits.{Below, all_get_d}
use Rattle.decimals.specs.Decimals.{decimal_format, digits_of, sign_half, magnitude_of, is_negative, all_digits, Readable, encoded}
use Rattle.decimals.specs.Tests.{value_bytes}
use Rattle.decimals.proofs.SignHalves.{plus_not_minus}
use Rattle.decimals.proofs.Meanings.{value_scan}

-- ---- the meaning

sign_done : (s : ℕ) (m : Bool) → sign_means s ≡ done m → m ≡ accepted_minus s
unfolding sign_means
sign_done s m e = go (accepted_plus s) (accepted_minus s) (plus_not_minus s) e
  where
    go : (a b : Bool) → (a ≡ true → b ≡ false) → ◌≡◌ {A = Outcome Bool} (elim a [ true ↦ done false | false ↦ elim b [ true ↦ done true | false ↦ refused (refusal BadValue) ] ]) (done m) → m ≡ b
    go true b k e = let f = k refl in cc
    go false true k e = cc
    go false false k e = absurd (not_done e)

decimal_done : (ds : List ℕ) (s : ℕ) (v : Value) {C : Type 0} → decimal ds s ≡ done v
    → (T (all (λ d. leb d 9) ds) → v ≡ number (accepted_minus s && ltb 0 (spelled 10 ds 0)) (spelled 10 ds 0) → C) → C
unfolding decimal signed
decimal_done ds s v e k =
    from_need (all (λ d. leb d 9) ds) (refusal_number BadValue) _ e λ t f.
    from_bind (sign_means s) _ f λ m g h.
    k t (sym (done_inj h) ∙ ap (λ b. number (b && ltb 0 (spelled 10 ds 0)) (spelled 10 ds 0)) (sign_done s m g))

-- ---- the bytes of the digits and the sign

halves_whole : (l : List ℕ) → 0 < length l → but_last l ++ (last l ∷ []) ≡ l
unfolding but_last last
halves_whole [] h = absurd (omega arith)
halves_whole (x ∷ []) h = refl
halves_whole (x ∷ y ∷ l) h = ap (λ r. x ∷ r) (halves_whole (y ∷ l) (omega arith))

pairs_halves : (bs : Bytes) → pairs (halves bs) ≡ bs
unfolding pairs halves
pairs_halves [] = refl
pairs_halves (b ∷ bs) =
    let e : b / 16 * 16 + b % 16 ≡ b = omega arith in
    rw (e, pairs_halves bs)

packed_whole : (bs : Bytes) → 0 < length bs → pairs (but_last (halves bs) ++ (last (halves bs) ∷ [])) ≡ bs
unfolding halves
packed_whole [] h = absurd (omega arith)
packed_whole (b ∷ bs) h = rw (halves_whole (halves (b ∷ bs)) (omega arith)) (pairs_halves (b ∷ bs))

unpacked_whole : (bs : Bytes) → T (all (λ b. eqb (b / 16) 0xF) (but_last bs)) → zoned (map (λ b. b % 16) bs) (last bs / 16) ≡ bs
unfolding all but_last last zoned
unpacked_whole [] a = refl
unpacked_whole (b ∷ []) a =
    let e : b / 16 * 16 + b % 16 ≡ b = omega arith in
    rw e
unpacked_whole (b ∷ c ∷ bs) a =
    let z = all (λ b. eqb (b / 16) 0xF) (but_last (c ∷ bs)) in
    let q : b / 16 ≡ 0xF = eqb→eq (b / 16) 0xF (and_left (eqb (b / 16) 0xF) z a) in
    let e : 0xF0 + b % 16 ≡ b = omega arith in
    rw (e, unpacked_whole (c ∷ bs) (and_right (eqb (b / 16) 0xF) z a))

-- ---- a value: it has bytes and digits, means its number, and is the bytes of its digits and its sign

pub record Sound (p : Bool) (bs : Bytes) : Type 0 where
  pub some : 0 < length bs
  pub nines : all_digits p bs ≡ true
  pub means : meaning (decimal_format p) bs ≡ done (number (is_negative p bs) (magnitude_of p bs))
  pub whole : encoded p (digits_of p bs) (sign_half p bs) ≡ bs

some_bytes : (p : Bool) (bs : Bytes) → value_bytes p bs ≡ true → 0 < length bs
unfolding value_bytes
some_bytes p [] e = absurd (false≢true e)
some_bytes p (b ∷ bs) e = omega arith

-- digits that are at most 9 are below ten
pub below_ten : (p : Bool) (bs : Bytes) → all_digits p bs ≡ true → Below 10 (digits_of p bs)
unfolding all_digits
below_ten p bs e i =
    let q = leb→le (get_or (digits_of p bs) i 0) 9 (all_get_d (λ d. leb d 9) (digits_of p bs) (true_T e) tt i) in
    omega arith

sound_as : (p : Bool) (bs : Bytes) (v : Value) → 0 < length bs → meaning (decimal_format p) bs ≡ done v → Sound p bs
unfolding decimal_format meaning digits_of sign_half magnitude_of is_negative all_digits encoded
sound_as true bs v o e =
    decimal_done (but_last (halves bs)) (last (halves bs)) v e λ t f.
    record { some = o; nines = T_true _ t; means = e ∙ ap (λ (w : Value). done w) f; whole = packed_whole bs o }
sound_as false bs v o e =
    from_need (all (λ b. eqb (b / 16) 0xF) (but_last bs)) (refusal_number BadValue) _ e λ z g.
    decimal_done (map (λ b. b % 16) bs) (last bs / 16) v g λ t f.
    record { some = o; nines = T_true _ t; means = e ∙ ap (λ (w : Value). done w) f; whole = unpacked_whole bs z }

pub sound : (p : Bool) (bs : Bytes) → is_done (meaning (decimal_format p) bs) ≡ true → Sound p bs
sound p bs e =
    let r = done_some (meaning (decimal_format p) bs) e in
    sound_as p bs r.0 (some_bytes p bs (sym (value_scan p bs) ∙ e)) r.1

pub readable : {p : Bool} {bs : Bytes} → Sound p bs → length bs ≤ longest_alpha → Readable p bs
readable v h = record { some = v.some; short = h; nines = v.nines }
