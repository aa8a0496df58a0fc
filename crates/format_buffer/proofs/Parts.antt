-- The laws of `part`: its first byte, its last byte, and when it is empty.
use mathlib.Core.Path.{◌≡◌, refl}
use mathlib.Core.List.{List, [], ◌∷◌, ◌++◌}
use Prim.Native.Nat.{ℕ, suc, ◌+◌, ◌-◌, ◌≤◌, ◌<◌}
use native.Mathlib.Numerals.{add-one}
use native.Mathlib.Omega.{arith}
use lib.ListN.{length, drop, get_or, length-drop}
use lib.Seq.{drop-cons, take-suc, get_or-drop}
use Rattle.buffer.proofs.Laws as laws
use Rattle.format_buffer.specs.Part.{part}

pub part_nil : (f : List ℕ) (a b : ℕ) → b ≤ a → part f a b ≡ []
unfolding part
part_nil f a b h = let e : b - a ≡ 0 = omega arith in rw e refl

pub part_cons : (f : List ℕ) (a b : ℕ) → a < b → b ≤ length f → part f a b ≡ get_or f a 0 ∷ part f (a + 1) b
unfolding part
part_cons f a b h k =
    let e : b - a ≡ suc (b - (a + 1)) = omega arith in
    rw (e, add-one, drop-cons f a 0 (omega arith)) refl

pub part_snoc : (f : List ℕ) (a b : ℕ) → a < b → b ≤ length f → part f a b ≡ part f a (b - 1) ++ (get_or f (b - 1) 0 ∷ [])
unfolding part
part_snoc f a b h k =
    let e : b - a ≡ suc (b - 1 - a) = omega arith in
    let q : a + (b - 1 - a) ≡ b - 1 = omega arith in
    rw (e, take-suc (drop a f) (b - 1 - a) 0 (rw length-drop (omega arith)), get_or-drop, q) refl

pub length_part : (f : List ℕ) (a b : ℕ) → a ≤ b → b ≤ length f → length (part f a b) ≡ b - a
unfolding part
length_part = laws.length_part
