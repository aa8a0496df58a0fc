-- A const parameter PACKED stands in a proof as a number, which is 0 for false.
use mathlib.Core.Path.{◌≡◌, ap}
use mathlib.Core.Bool.{true, false, not}
use Prim.Native.Nat.{ℕ}
use borrow.Author.Tests.{eq-eqb, ne_eqb}
use lib.Dec.{eqb}

pub is_packed : (n : ℕ) → (n ≡ 0 → ⊥) → not (eqb n 0) ≡ true
is_packed n h = ap not (ne_eqb n 0 h)

pub is_unpacked : (n : ℕ) → n ≡ 0 → not (eqb n 0) ≡ false
is_unpacked n e = ap not (eq-eqb n 0 e)
