-- What is written in P and U means the number that was written.
use mathlib.Core.Path.{◌≡◌, refl, ◌∙◌}
use mathlib.Core.Bool.{Bool, true, false, ◌&&◌}
use mathlib.Core.List.{List, [], ◌∷◌, ◌++◌, map}
use Prim.Native.Nat.{ℕ, zero, suc, ◌+◌, ◌-◌, ◌*◌, ◌/◌, ◌%◌, ◌^◌, ◌<◌}
use native.Mathlib.Omega.{arith}
use lib.Dec.{T, eqb, leb, ltb, leb→le, ltb→lt, le→leb, lt→ltb, lit<}
use lib.ListN.{length, length-append}
use borrow.Author.Tests.{lt-ltb, eq-eqb}
use Rattle.rules.specs.Outcome.{done}
use Rattle.rules.specs.Lists.{all, spelled, digits, but_last, last}
use Rattle.rules.specs.Values.{number, packed, unpacked, signed, halves, pairs, zoned, accepted_plus, accepted_minus, sign_means, sign_written, decimal, meaning}
use Rattle.rules.proofs.Lists.{but_last_snoc, last_snoc}
use Rattle.rules.proofs.Steps.{need_true, and_intro, and_left, and_right, true_T}
use Rattle.decimals.specs.Decimals.{decimal_format, places, encoded, written}
use Rattle.rules.proofs.Digits.{all_snoc, all_weaker, all_digits_below, length_digits, spelled_digits}

-- P: the halves of pairs.
halves_pairs : (n : ℕ) (ds : List ℕ) → length ds ≡ n + n → T (all (λ d. ltb d 16) ds) → halves (pairs ds) ≡ ds
unfolding halves pairs all
halves_pairs n [] l a = refl
halves_pairs n (h ∷ []) l a = absurd (omega arith)
halves_pairs zero (h ∷ m ∷ ds) l a = absurd (omega arith)
halves_pairs (suc n) (h ∷ m ∷ ds) l a =
    let b = and_right (ltb h 16) (ltb m 16 && all (λ d. ltb d 16) ds) a in
    let hm = ltb→lt m 16 (and_left (ltb m 16) (all (λ d. ltb d 16) ds) b) in
    let p : (h * 16 + m) / 16 ≡ h = omega arith in
    let q : (h * 16 + m) % 16 ≡ m = omega arith in
    rw (p, q, halves_pairs n ds (omega arith) (and_right (ltb m 16) _ b)) refl

-- U: the digits, the sign and the zones.
zoned_digits : (ds : List ℕ) (s : ℕ) → T (all (λ d. leb d 9) ds) → map (λ b. b % 16) (zoned ds s) ≡ ds
unfolding zoned all
zoned_digits [] s a = refl
zoned_digits (d ∷ []) s a =
    let h = leb→le d 9 (and_left (leb d 9) true a) in
    let p : (s * 16 + d) % 16 ≡ d = omega arith in
    rw p
zoned_digits (d ∷ e ∷ ds) s a =
    let h = leb→le d 9 (and_left (leb d 9) (leb e 9 && all (λ d. leb d 9) ds) a) in
    let p : (240 + d) % 16 ≡ d = omega arith in
    rw (p, zoned_digits (e ∷ ds) s (and_right (leb d 9) (leb e 9 && all (λ d. leb d 9) ds) a))

zoned_sign : (ds : List ℕ) (s : ℕ) → 0 < length ds → T (all (λ d. leb d 9) ds) → last (zoned ds s) / 16 ≡ s
unfolding zoned all last
zoned_sign [] s h a = absurd (omega arith)
zoned_sign (d ∷ []) s h a = let q = leb→le d 9 (and_left (leb d 9) true a) in omega arith
zoned_sign (d ∷ e ∷ []) s h a = zoned_sign (e ∷ []) s (omega arith) (and_right (leb d 9) (leb e 9 && true) a)
zoned_sign (d ∷ e ∷ f ∷ ds) s h a = zoned_sign (e ∷ f ∷ ds) s (omega arith) (and_right (leb d 9) (leb e 9 && all (λ d. leb d 9) (f ∷ ds)) a)

zone_first : (d : ℕ) → T (leb d 9) → T (eqb ((240 + d) / 16) 15)
zone_first d a = let q = leb→le d 9 a in true_T (eq-eqb ((240 + d) / 16) 15 (omega arith))

zoned_zones : (ds : List ℕ) (s : ℕ) → T (all (λ d. leb d 9) ds) → T (all (λ b. eqb (b / 16) 15) (but_last (zoned ds s)))
unfolding zoned all but_last
zoned_zones [] s a = tt
zoned_zones (d ∷ []) s a = tt
zoned_zones (d ∷ e ∷ []) s a = and_intro (eqb ((240 + d) / 16) 15) true (zone_first d (and_left (leb d 9) (leb e 9 && true) a)) tt
zoned_zones (d ∷ e ∷ f ∷ ds) s a =
    and_intro (eqb ((240 + d) / 16) 15) (all (λ b. eqb (b / 16) 15) (but_last (zoned (e ∷ f ∷ ds) s)))
    (zone_first d (and_left (leb d 9) (leb e 9 && all (λ d. leb d 9) (f ∷ ds)) a))
    (zoned_zones (e ∷ f ∷ ds) s (and_right (leb d 9) (leb e 9 && all (λ d. leb d 9) (f ∷ ds)) a))

-- The number that digits and a written sign mean.
decimal_means : (ds : List ℕ) (below : Bool) (x : ℕ) → T (all (λ d. leb d 9) ds) → spelled 10 ds 0 ≡ x → (below ≡ true → 0 < x)
    → decimal ds (sign_written below) ≡ done (number below x)
unfolding decimal signed sign_means accepted_plus accepted_minus sign_written
decimal_means ds false x a e p = rw (need_true (all (λ d. leb d 9) ds) 8 a, e)
decimal_means ds true x a e p = rw (need_true (all (λ d. leb d 9) ds) 8 a, e, lt-ltb 0 x (p refl))

nines : (n x : ℕ) → T (all (λ d. leb d 9) (digits 10 n x))
nines n x =
    all_weaker (λ d. ltb d 10) (λ d. leb d 9) (λ d h. le→leb d 9 (let q = ltb→lt d 10 h in omega arith)) (digits 10 n x)
    (all_digits_below 10 n x (lit< tt))

sign_half : (below : Bool) → T (ltb (sign_written below) 16)
unfolding sign_written
sign_half true = tt
sign_half false = tt

module _ (n : ℕ) (below : Bool) (x : ℕ) (h : 0 < n) (p : below ≡ true → 0 < x) where
  packed_means : x < 10 ^ (2 * n - 1) → meaning packed (pairs (digits 10 (2 * n - 1) x ++ (sign_written below ∷ []))) ≡ done (number below x)
  unfolding meaning
  packed_means l =
      let ds = digits 10 (2 * n - 1) x in
      let size = length_digits 10 (2 * n - 1) x in
      let small = all_weaker (λ d. leb d 9) (λ d. ltb d 16) (λ d q. lt→ltb d 16 (let r = leb→le d 9 q in omega arith)) ds (nines (2 * n - 1) x) in
      let e : halves (pairs (ds ++ (sign_written below ∷ []))) ≡ ds ++ (sign_written below ∷ []) = halves_pairs n (ds ++ (sign_written below ∷ []))
      (length-append ds (sign_written below ∷ []) ∙ omega arith) (all_snoc (λ d. ltb d 16) ds (sign_written below) small (sign_half below)) in
      rw (e, but_last_snoc ds (sign_written below), last_snoc ds (sign_written below))
      (decimal_means ds below x (nines (2 * n - 1) x) (spelled_digits 10 (2 * n - 1) x (lit< tt) l) p)

  unpacked_means : x < 10 ^ n → meaning unpacked (zoned (digits 10 n x) (sign_written below)) ≡ done (number below x)
  unfolding meaning
  unpacked_means l =
      let ds = digits 10 n x in
      let size = length_digits 10 n x in
      let a = nines n x in
      rw (
        need_true (all (λ b. eqb (b / 16) 15) (but_last (zoned ds (sign_written below)))) 8 (zoned_zones ds (sign_written below) a),
        zoned_digits ds (sign_written below) a,
        zoned_sign ds (sign_written below) (omega arith) a,
      )
      (decimal_means ds below x a (spelled_digits 10 n x (lit< tt) l) p)

  pub written_means : (d : Bool) → x < 10 ^ places d n → meaning (decimal_format d) (written d n below x) ≡ done (number below x)
  unfolding decimal_format written encoded places
  written_means true l = packed_means l
  written_means false l = unpacked_means l
