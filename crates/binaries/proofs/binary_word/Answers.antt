use Prim.Native.Nat.{◌+◌, ◌*◌}
use native.Mathlib.Omega.{arith}
use mathlib.Core.Path.{◌∙◌}
use Rattle.rules.proofs.Digits.{spelled_turn}
use Rattle.binaries.proofs.Binary.{word_outside}
use Rattle.binaries.proofs.binary_word.Goals as goal

pub returns-then-from-n : goal.returns-then-from-n
returns-then-from-n c =
    let l = c.loop-b in
    word_outside _ (l.b-index + 1) (l.n * 256 + c.from.result) (rw c.from.ensures (spelled_turn 256 _ l.b-index l.n c.loop-b-test.true ∙ l.invariant.1)) (omega arith)
