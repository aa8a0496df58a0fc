-- Null of each format, byte by byte, and its length.
use mathlib.Core.Path.{◌≡◌, refl, sym, ◌∙◌, ap}
use mathlib.Core.Bool.{true, false≢true}
use mathlib.Core.List.{[], ◌∷◌, ◌++◌, append-nil}
use Prim.Native.Nat.{ℕ, zero, suc, ◌+◌, ◌-◌, ◌*◌, ◌^◌, ◌≤◌, ◌<◌}
use native.Mathlib.Nat.{one-le-pow, sub-zero, zero-mul, suc-mul}
use native.Mathlib.Omega.{arith}
use denote.Enum.Bare.{sameb}
use lib.Dec.{ltb, lit<}
use lib.ListN.{length, replicate, length-append, length-replicate, replicate-append-replicate}
use borrow.Author.Tests.{lt-ltb}
use Rattle.rules.specs.Outcome.{done}
use Rattle.rules.specs.Characters.{space}
use Rattle.rules.specs.Limits.{longest_packed}
use Rattle.rules.specs.Lists.{Bytes, bytes_of, digits, join}
use Rattle.rules.specs.Values.{Format as Meant, alpha, binary, fixed, packed, unpacked, allowed, normal, null, null_value, pairs, zoned, sign_written}
use Rattle.rules.proofs.Steps.{by_test}
use Rattle.buffer.specs.Splice.{splice}
use Rattle.buffer.proofs.Laws.{splice_nil, length_splice, splice_rest, splice_push}
use Rattle.rules.proofs.Done.{done_need}
use Rattle.rules.proofs.Digits.{digits_zero}
use Rattle.values.specs.Formats.{format_at}
use Rattle.value_formats.specs.contracts.Format.{the_type}
use Rattle.value_formats.specs.declared.Format.{Format}
use Rattle.value_formats.specs.declared.Format.TheVariants.{Alpha, Binary, Fixed, Packed, Unpacked}
use Rattle.values.proofs.Numbered.{from_one, is_packed, not_packed}
use Rattle.values.proofs.Strip.{normal_text_0, normal_text}

pow_above : (b n : ℕ) → 0 < b → 0 < b ^ n
pow_above b n h = one-le-pow n b h

-- Pairs of zeros with the sign F, and zeros with the zone F.
pair_zeros : (m : ℕ) → pairs (replicate (m + m + 1) 0 ++ (15 ∷ [])) ≡ replicate m 0 ++ (15 ∷ [])
unfolding pairs
pair_zeros zero = refl
pair_zeros (suc m) =
    let e : suc m + suc m + 1 ≡ suc (suc (m + m + 1)) = omega arith in
    rw e (ap (λ l. 0 ∷ l) (pair_zeros m))

zone_zeros : (n : ℕ) → zoned (replicate n 0) 15 ≡ replicate n 240
unfolding zoned
zone_zeros zero = refl
zone_zeros (suc zero) = refl
zone_zeros (suc (suc n)) = ap (λ l. 240 ∷ l) (zone_zeros (suc n))

-- What null is, and that every length holds it.
null_from : (f : Meant) (n : ℕ) {b : Bytes} → normal f n (null_value f) ≡ done b → (null f n ≡ b) × (normal f n (null_value f) ≡ done (null f n))
unfolding null bytes_of
null_from f n e = (ap bytes_of e, e ∙ ap done (sym (ap bytes_of e)))

normal_null_0 : normal alpha 0 (null_value alpha) ≡ done (1 ∷ [])
unfolding null_value
normal_null_0 = normal_text_0 [] (omega arith)

normal_null_alpha : (n : ℕ) → (n ≡ 0 → ⊥) → normal alpha n (null_value alpha) ≡ done (replicate n space)
unfolding null_value
normal_null_alpha n z = normal_text n [] z (omega arith) ∙ rw sub-zero

normal_null_binary : (n : ℕ) → normal binary n (null_value binary) ≡ done (replicate n 0)
unfolding normal null_value
normal_null_binary n = done_need (ltb 0 (256 ^ n)) (digits 256 n 0) (lt-ltb 0 (256 ^ n) (pow_above 256 n (lit< tt))) ∙ rw (digits_zero 256 n)

normal_null_fixed : (n : ℕ) → normal fixed n (null_value fixed) ≡ done (replicate n 0)
unfolding normal null_value
normal_null_fixed n = done_need (ltb 0 (2 ^ (8 * n - 1))) (digits 256 n 0) (lt-ltb 0 (2 ^ (8 * n - 1)) (pow_above 2 (8 * n - 1) (lit< tt))) ∙ rw (digits_zero 256 n)

normal_null_packed : (n : ℕ) → 0 < n → normal packed n (null_value packed) ≡ done (replicate (n - 1) 0 ++ (15 ∷ []))
unfolding normal null_value sign_written
normal_null_packed n h =
    let e : 2 * n - 1 ≡ n - 1 + (n - 1) + 1 = omega arith in
    done_need (ltb 0 (10 ^ (2 * n - 1))) (pairs (digits 10 (2 * n - 1) 0 ++ (15 ∷ []))) (lt-ltb 0 (10 ^ (2 * n - 1)) (pow_above 10 (2 * n - 1) (lit< tt)))
    ∙ ap done (rw (digits_zero 10 (2 * n - 1), e) (pair_zeros (n - 1)))

normal_null_unpacked : (n : ℕ) → normal unpacked n (null_value unpacked) ≡ done (replicate n 240)
unfolding normal null_value sign_written
normal_null_unpacked n =
    done_need (ltb 0 (10 ^ n)) (zoned (digits 10 n 0) 15) (lt-ltb 0 (10 ^ n) (pow_above 10 n (lit< tt)))
    ∙ ap done (rw (digits_zero 10 n) (zone_zeros n))

-- Every allowed length holds null.
pub null_done : (f : Meant) (n : ℕ) → allowed f n ≡ true → normal f n (null_value f) ≡ done (null f n)
unfolding allowed
null_done alpha zero h = (null_from alpha 0 normal_null_0).1
null_done alpha (suc n) h = (null_from alpha (suc n) (normal_null_alpha (suc n) (λ e. omega arith))).1
null_done binary n h = (null_from binary n (normal_null_binary n)).1
null_done fixed n h = (null_from fixed n (normal_null_fixed n)).1
null_done packed n h = (null_from packed n (normal_null_packed n (from_one n longest_packed h))).1
null_done unpacked n h = (null_from unpacked n (normal_null_unpacked n)).1

-- Null by its format.
abbrev pub filler : Format → ℕ
filler Alpha = 0x40
filler Binary = 0
filler Fixed = 0
filler Packed = 0
filler Unpacked = 0xF0

pub null_packed : (n : ℕ) → 0 < n → null packed n ≡ replicate (n - 1) 0 ++ (15 ∷ [])
null_packed n h = (null_from packed n (normal_null_packed n h)).0

pub null_filled : (f : Format) (n : ℕ) → (f ≡ Packed → ⊥) → (n ≡ 0 → ⊥) → null (format_at f) n ≡ replicate n (filler f)
unfolding format_at
null_filled Alpha n p z = (null_from alpha n (normal_null_alpha n z)).0
null_filled Binary n p z = (null_from binary n (normal_null_binary n)).0
null_filled Fixed n p z = (null_from fixed n (normal_null_fixed n)).0
null_filled Packed n p z = absurd (p refl)
null_filled Unpacked n p z = (null_from unpacked n (normal_null_unpacked n)).0

at_0 : (f : Format) → allowed (format_at f) 0 ≡ true → null (format_at f) 0 ≡ 1 ∷ []
unfolding allowed format_at
at_0 Alpha e = (null_from alpha 0 normal_null_0).0
at_0 Binary e = absurd (false≢true e)
at_0 Fixed e = absurd (false≢true e)
at_0 Packed e = absurd (false≢true e)
at_0 Unpacked e = absurd (false≢true e)

pub null_0 : (f : Format) (n : ℕ) → n ≡ 0 → allowed (format_at f) n ≡ true → null (format_at f) n ≡ 1 ∷ []
null_0 f n z a = rw z (at_0 f (rw z at a))

pub packed_long : (n : ℕ) → 0 < n → length (null packed n) ≡ n
packed_long n h = rw (null_packed n h, length-append, length-replicate) (omega arith)

pub packed_at : (f : Format) → f ≡ Packed → format_at f ≡ packed
unfolding format_at
packed_at f e = rw e

pub null_size : (f : Format) (n : ℕ) → (n ≡ 0 → ⊥) → length (null (format_at f) n) ≡ n
null_size f n z = by_test (sameb the_type f Packed)
    (λ q. rw (packed_at f (is_packed f q)) (packed_long n (omega (arith, z))))
    (λ q. rw (null_filled f n (not_packed f q) z) (length-replicate n (filler f)))

-- Null is one byte throughout, where it is not P's.
throughout : (x : Bytes) (m b : ℕ) → x ≡ replicate m b → x ≡ replicate (length x) b
throughout x m b e = e ∙ ap (λ (j : ℕ). replicate j b) (sym (ap length e ∙ length-replicate m b))

filler_0 : (f : Format) → (f ≡ Packed → ⊥) → (f ≡ Alpha → ⊥) → (f ≡ Unpacked → ⊥) → filler f ≡ 0
filler_0 Alpha p a u = absurd (a refl)
filler_0 Binary p a u = refl
filler_0 Fixed p a u = refl
filler_0 Packed p a u = refl
filler_0 Unpacked p a u = absurd (u refl)

module _ (f : Format) (n : ℕ) where
  pub null_byte_0 : n ≡ 0 → allowed (format_at f) n ≡ true → null (format_at f) n ≡ replicate (length (null (format_at f) n)) 1
  null_byte_0 z a = throughout (null (format_at f) n) 1 1 (null_0 f n z a)

  module _ (p : f ≡ Packed → ⊥) (z : n ≡ 0 → ⊥) where
    by_filler : (b : ℕ) → filler f ≡ b → null (format_at f) n ≡ replicate (length (null (format_at f) n)) b
    by_filler b e = throughout (null (format_at f) n) n b (null_filled f n p z ∙ ap (replicate n) e)

    pub null_byte_alpha : f ≡ Alpha → null (format_at f) n ≡ replicate (length (null (format_at f) n)) 0x40
    null_byte_alpha e = by_filler 0x40 (ap filler e)

    pub null_byte_unpacked : f ≡ Unpacked → null (format_at f) n ≡ replicate (length (null (format_at f) n)) 0xF0
    null_byte_unpacked e = by_filler 0xF0 (ap filler e)

    pub null_byte_other : (f ≡ Alpha → ⊥) → (f ≡ Unpacked → ⊥) → null (format_at f) n ≡ replicate (length (null (format_at f) n)) 0
    null_byte_other a u = by_filler 0 (filler_0 f p a u)

-- The same bytes several times.
pub length_copies : (n : ℕ) (x : Bytes) → length (join (replicate n x)) ≡ n * length x
unfolding join
length_copies zero x = sym (zero-mul (length x))
length_copies (suc n) x = length-append x (join (replicate n x)) ∙ ap (λ (m : ℕ). length x + m) (length_copies n x) ∙ (rw (suc-mul n (length x)) (omega arith))

pub one_copy : (x : Bytes) → join (replicate 1 x) ≡ x
unfolding join
one_copy x = append-nil x

pub copies_throughout : (n : ℕ) (x : Bytes) (b : ℕ) → x ≡ replicate (length x) b → join (replicate n x) ≡ replicate (n * length x) b
unfolding join
copies_throughout zero x b e = rw (zero-mul (length x))
copies_throughout (suc n) x b e =
    let m : length x + n * length x ≡ suc n * length x = rw (suc-mul n (length x)) (omega arith) in
    ap (λ (y : Bytes). x ++ y) (copies_throughout n x b e) ∙ ap (λ (y : Bytes). y ++ replicate (n * length x) b) e
    ∙ replicate-append-replicate (length x) (n * length x) b ∙ ap (λ (k : ℕ). replicate k b) m

-- A loop that writes the same bytes n times: what is left, from where it stands, writes as the whole does.
pub record Copying (x : Bytes) (n i at p : ℕ) (out₀ out : Bytes) : Type 0 where
  pub same : length out ≡ length out₀
  pub room : p + length (join (replicate (n - i) x)) ≤ length out
  pub bytes : splice p (join (replicate (n - i) x)) out ≡ splice at (join (replicate n x)) out₀

pub copying : (x : Bytes) (n at : ℕ) (out : Bytes) → at + length (join (replicate n x)) ≤ length out → Copying x n 0 at at out out
copying x n at out h = record { same = refl; room = rw (sub-zero n) h; bytes = rw (sub-zero n) refl }

module _ {x : Bytes} {n i at p : ℕ} {out₀ out : Bytes} (g : Copying x n i at p out₀ out) where
  copies_left : i < n → join (replicate (n - i) x) ≡ x ++ join (replicate (n - (i + 1)) x)
  unfolding join
  copies_left h = let e : n - i ≡ suc (n - (i + 1)) = omega arith in rw e

  pub copy_room : i < n → p + length x ≤ length out
  copy_room h = let r = rw (copies_left h, length-append) at g.room in omega arith

  pub copy_on : (q : ℕ) {out' : Bytes} → i < n → out' ≡ splice p x out → q ≡ p + length x → Copying x n (i + 1) at q out₀ out'
  copy_on q {out'} h w e =
      let l = ap length w ∙ length_splice p x out (copy_room h) in
      let r = rw (copies_left h, length-append) at g.room in
      record {
        same = l ∙ g.same;
        room = omega (arith, r, l, e);
        bytes = splice_rest p x (join (replicate (n - (i + 1)) x)) out out' _ q (ap (λ (y : Bytes). splice p y out) (sym (copies_left h)) ∙ g.bytes) w e (copy_room h);
      }

  pub copied : n ≤ i → out ≡ splice at (join (replicate n x)) out₀
  unfolding join
  copied h = let e : n - i ≡ 0 = omega arith in sym (splice_nil p out) ∙ rw e at g.bytes

-- What the functions of nulls cite.
pub ruleset by_null = (null_0, null_size, null_byte_0, null_byte_alpha, null_byte_unpacked, null_byte_other, packed_at, is_packed, not_packed, length_copies, one_copy, copies_throughout, packed_long, null_packed, splice_push, length-replicate, copying, copied)
