-- The ways out of `decode` and `encode`, over plain lists.
use Rattle.std.specs.Prelude.{None, Some}
use mathlib.Core.Path.{◌≡◌, refl, sym, ap}
use mathlib.Core.Bool.{true, false}
use mathlib.Core.List.{[], ◌∷◌, ◌++◌}
use Prim.Native.Nat.{ℕ, ◌+◌, ◌*◌, ◌≤◌, ◌<◌}
use native.Mathlib.Nat.{add-zero}
use native.Mathlib.Omega.{arith}
use lib.ListN.{length, set}
use Rattle.rules.specs.Lists.{Bytes, same}
use Rattle.buffer.specs.Splice.{splice}
use Rattle.buffer.proofs.Laws.{splice_nil, splice_push}
use Rattle.hexadecimal.specs.Text.{empty_word, paired, parted, is_paired, spelling}
use Rattle.hexadecimal.specs.Answers.{DecodesWord}
use Rattle.hexadecimal.proofs.Pairs.{length_parted, spelled_bytes_hyphen, spelled_bytes_pairs, spelled_bytes_none}

module _ (w : Bytes) (at : ℕ) (out : Bytes) where
  pub way_hyphen : same w empty_word ≡ true → DecodesWord w at out out (Some at)
  way_hyphen e =
      let d = spelled_bytes_hyphen w e in
      record { answer = rw (d, add-zero); after = rw d (sym (splice_nil at out)) }

  pub way_pairs : (out' : Bytes) (r : ℕ) → same w empty_word ≡ false → is_paired w ≡ true → r ≡ at + length (paired w) → out' ≡ splice at (paired w) out
      → DecodesWord w at out out' (Some r)
  way_pairs out' r e p l s =
      let d = spelled_bytes_pairs w e p in
      record { answer = rw d (ap Some l); after = rw d s }

  pub way_none : same w empty_word ≡ false → is_paired w ≡ false → DecodesWord w at out out None
  way_none e p =
      let d = spelled_bytes_none w e p in
      record { answer = rw d; after = rw d (sym (splice_nil at out)) }

-- The cases of `spelling`, by the length as the code tests it.
pub spelling_none : (bs : Bytes) → length bs ≡ 0 → spelling bs ≡ empty_word
unfolding spelling
spelling_none [] e = refl
spelling_none (b ∷ bs) e = absurd (omega arith)

pub spelling_some : (bs : Bytes) → (length bs ≡ 0 → ⊥) → spelling bs ≡ parted bs
unfolding spelling
spelling_some [] e = absurd (e refl)
spelling_some (b ∷ bs) e = refl

pub spelling_short : (bs : Bytes) → length (spelling bs) ≤ 2 * length bs + 1
unfolding spelling
spelling_short [] = omega arith
spelling_short (b ∷ bs) = omega (arith, length_parted (b ∷ bs))

-- One byte after what was written.
pub push : (at : ℕ) (a out out' : Bytes) (q v : ℕ) → out' ≡ splice at a out → q ≡ at + length a → q < length out → set out' q v ≡ splice at (a ++ (v ∷ [])) out
push at a out out' q v e p h = rw e (splice_push at a out q v p h)
