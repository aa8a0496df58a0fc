-- Reading a number a digit at a time: what is left to read spells the number as the whole does.
use mathlib.Core.Path.{◌≡◌, refl, sym, ◌∙◌}
use mathlib.Core.Bool.{true, false, ◌&&◌, and-true, and-false}
use mathlib.Core.List.{List, [], ◌∷◌}
use Prim.Native.Nat.{ℕ, suc, ◌+◌, ◌-◌, ◌*◌, ◌^◌, ◌≤◌, ◌<◌}
use native.Mathlib.Nat.{add-zero, zero-add, lt_of_lt_of_le, pow-le-pow_right}
use native.Mathlib.Omega.{arith}
use lib.Dec.{eqb, leb, lit<}
use lib.ListN.{length, get_or}
use borrow.Author.Tests.{le-leb, lt-leb, leb-true}
use Rattle.rules.specs.Outcome.{Outcome, done, refused, by, ◌>>=◌, need}
use Rattle.rules.specs.Limits.{most_digits}
use Rattle.rules.specs.Characters.{digit, digit_0}
use Rattle.rules.specs.Lists.{Bytes, spelled, nothing}
use Rattle.rules.specs.Format.{leading_digits, number_first}
use Rattle.rules.proofs.Bools.{and_both}
use Rattle.format_buffer.specs.Part.{part}
use Rattle.format_buffer.specs.Elements.{number_bound}
use Rattle.format_buffer.specs.Numbers.{byte_alone}
use Rattle.format_buffer.proofs.Parts.{part_nil, part_cons}
use Rattle.buffer.proofs.Cases.{by_order}

pub digit_bounds : (b : ℕ) → digit b ≡ true → (digit_0 ≤ b) × (b ≤ 0xF9)
unfolding digit
digit_bounds b e =
    let h = and_both (leb 0xF0 b) (leb b 0xF9) e in
    (leb-true _ _ h.0, leb-true _ _ h.1)

-- The number that k digits and those that follow spell, of which the k spell n.
unfoldable pub spelling : ℕ → ℕ → List ℕ × Bytes → Outcome (ℕ × Bytes)
spelling k n r = need (leb 1 (k + length r.0) && leb (k + length r.0) most_digits) 3 >>= λ _. done (spelled 10 r.0 n, r.1)

-- From the first digit to the end: no digit read yet, one more, the last one read, nothing left, and one too many.
start : (bs : Bytes) → number_first bs ≡ spelling 0 0 (leading_digits bs)
unfolding number_first spelling
start bs = rw zero-add refl

go : (k n b : ℕ) (bs : Bytes) → digit b ≡ true → spelling k n (leading_digits (b ∷ bs)) ≡ spelling (suc k) (n * 10 + (b - digit_0)) (leading_digits bs)
unfolding spelling leading_digits spelled
go k n b bs e =
    let q : k + suc (length (leading_digits bs).0) ≡ suc k + length (leading_digits bs).0 = omega arith in
    rw (e, leading_digits, q) refl

stop : (k n b : ℕ) (bs : Bytes) → 1 ≤ k → k ≤ most_digits → digit b ≡ false → spelling k n (leading_digits (b ∷ bs)) ≡ done (n, b ∷ bs)
unfolding spelling leading_digits spelled
stop k n b bs lo hi e = rw (e, leading_digits, add-zero, le-leb _ _ lo, le-leb _ _ hi) refl

end : (k n : ℕ) → 1 ≤ k → k ≤ most_digits → spelling k n (leading_digits []) ≡ done (n, [])
unfolding spelling leading_digits spelled
end k n lo hi = rw (add-zero, le-leb _ _ lo, le-leb _ _ hi) refl

many : (k n b : ℕ) (bs : Bytes) → most_digits ≤ k → digit b ≡ true → spelling k n (leading_digits (b ∷ bs)) ≡ refused (by 3)
unfolding spelling leading_digits
many k n b bs hi e =
    let l : most_digits < k + suc (length (leading_digits bs).0) = omega arith in
    rw (e, leading_digits, le-leb 1 (k + suc (length (leading_digits bs).0)) (omega arith), lt-leb _ _ l) refl

-- The digits from `at` up to `i` have been read, and spell n.
pub record Read (f : Bytes) (at upto n i : ℕ) : Type 0 where
  pub past : at < i
  pub inside : i ≤ upto
  pub room : upto ≤ length f
  pub few : i ≤ at + most_digits
  pub small : n < 10 ^ (i - at)
  pub left : number_first (part f at upto) ≡ spelling (i - at) n (leading_digits (part f i upto))

pub read_first : {f : Bytes} {at upto n : ℕ} → at < upto → upto ≤ length f → digit (get_or f at 0) ≡ true → n ≡ get_or f at 0 - digit_0
    → n < 10 → Read f at upto n (at + 1)
read_first {f} {at} {upto} {n} h k d e s =
    let one : at + 1 - at ≡ 1 = omega arith in
    record {
      past = omega arith;
      inside = omega arith;
      room = k;
      few = omega arith;
      small = rw one s;
      left = start (part f at upto) ∙ rw (part_cons f at upto h k, one, e) (go 0 0 (get_or f at 0) (part f (at + 1) upto) d ∙ rw zero-add refl);
    }

pub read_value : {f : Bytes} {at upto n i : ℕ} → Read f at upto n i → n < number_bound
read_value {f} {at} {upto} {n} {i} w = lt_of_lt_of_le w.small (pow-le-pow_right {n = 10} (lit< tt) {i = i - at} {j = most_digits} (omega (arith, w.few)))

module _ {f : Bytes} {at upto n i : ℕ} (w : Read f at upto n i) (h : i < upto) where
  first : part f i upto ≡ get_or f i 0 ∷ part f (i + 1) upto
  first = part_cons f i upto h w.room

  pub read_turn : {d : ℕ} → digit (get_or f i 0) ≡ true → (i - at ≡ most_digits → ⊥) → d ≡ get_or f i 0 - digit_0 → d < 10
      → Read f at upto (n * 10 + d) (i + 1)
  read_turn {d} b m e s =
      let q : i + 1 - at ≡ suc (i - at) = omega arith in
      record {
        past = omega arith;
        inside = omega arith;
        room = w.room;
        few = omega arith;
        small = rw q (omega arith);
        left = w.left ∙ rw (first, q, e) (go (i - at) n (get_or f i 0) (part f (i + 1) upto) b);
      }

  pub read_stop : digit (get_or f i 0) ≡ false → number_first (part f at upto) ≡ done (n, part f i upto)
  read_stop b = w.left ∙ rw first (stop (i - at) n (get_or f i 0) (part f (i + 1) upto) (omega arith) (omega arith) b)

  pub read_many : digit (get_or f i 0) ≡ true → i - at ≡ most_digits → number_first (part f at upto) ≡ refused (by 3)
  read_many b m = w.left ∙ rw first (many (i - at) n (get_or f i 0) (part f (i + 1) upto) (omega arith) b)

pub read_end : {f : Bytes} {at upto n i : ℕ} → Read f at upto n i → upto ≤ i → number_first (part f at upto) ≡ done (n, part f i upto)
read_end {f} {at} {upto} {n} {i} w h = w.left ∙ rw (part_nil f i upto h) (end (i - at) n (omega arith) (omega arith))

pub read_nothing : (f : Bytes) (at upto : ℕ) → at ≡ upto → number_first (part f at upto) ≡ refused (by 3)
unfolding number_first leading_digits
read_nothing f at upto e = rw (part_nil f at upto (omega arith)) refl

pub read_none : (f : Bytes) (at upto : ℕ) → at < upto → upto ≤ length f → digit (get_or f at 0) ≡ false → number_first (part f at upto) ≡ refused (by 3)
unfolding number_first leading_digits
read_none f at upto h k e = rw (part_cons f at upto h k, e, leading_digits) refl

alone_nil : (c : ℕ) → false ≡ byte_alone c []
unfolding byte_alone
alone_nil c = refl

alone_more : (c a b : ℕ) (bs : Bytes) → false ≡ byte_alone c (a ∷ b ∷ bs)
unfolding byte_alone nothing
alone_more c a b bs = sym (and-false (eqb a c))

-- One byte and nothing more.
module _ (f : Bytes) (c at upto : ℕ) (k : upto ≤ length f) where
  pub alone_one : upto - at ≡ 1 → eqb (get_or f at 0) c ≡ byte_alone c (part f at upto)
  unfolding byte_alone nothing
  alone_one e = rw (part_cons f at upto (omega arith) k, part_nil f (at + 1) upto (omega arith)) (sym (and-true (eqb (get_or f at 0) c)))

  pub alone_other : (upto - at ≡ 1 → ⊥) → false ≡ byte_alone c (part f at upto)
  alone_other e = by_order at upto (λ h. more h e) (λ h. none h)
    where
      none : upto ≤ at → false ≡ byte_alone c (part f at upto)
      none h = rw (part_nil f at upto h) (alone_nil c)

      more : at < upto → (upto - at ≡ 1 → ⊥) → false ≡ byte_alone c (part f at upto)
      more h e = rw (part_cons f at upto h k, part_cons f (at + 1) upto (omega arith) k) (alone_more _ _ _ _)
