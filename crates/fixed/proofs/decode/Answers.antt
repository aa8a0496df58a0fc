-- `fixed::decode` meets its contract: the bits of two bytes are those of four, with the sign's bit copied upwards.
use Prim.Native.Nat.{◌+◌}
use native.Mathlib.Omega.{arith}
use mathlib.Core.Logic.{⊎_elim}
use mathlib.Core.Path.{◌∙◌}
use Rattle.fixed.proofs.Fixed.{not_2, decoded, low_bits, high_bits}
use borrow.Author.Rules.{rules}
use Rattle.fixed.proofs.decode.Goals as goal

pub returns-then-n-lt32768 : goal.returns-then-n-lt32768
returns-then-n-lt32768 c =
    let n = c.number_of-n in
    let d = decoded c.from_bits.result n.result (record { sfits = c.from_bits.type_inv }) c.from_bits.ensures (search rules) in
    rw (← n.ensures.0)
    (⊎_elim (λ e. rw e d) (λ h. rw (not_2 c.requires h.0) (d ∙ low_bits n.result h.1)) c.if-n-lt32768.either)

pub returns-else-n-lt32768 : goal.returns-else-n-lt32768
returns-else-n-lt32768 c =
    let n = c.number_of-n in
    let b = c.from_bits-else-n-lt32768 in
    let e = not_2 c.requires c.if-n-lt32768.false.0 in
    let h = rw e at n.ensures.1 in
    rw (e, ← n.ensures.0)
    (decoded b.result (n.result + 4294901760) (record { sfits = b.type_inv }) b.ensures (omega arith)
    ∙ high_bits n.result c.if-n-lt32768.false.1 (omega arith))
