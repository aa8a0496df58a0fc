use Prim.Native.Nat.{◌+◌, ◌-◌}
use native.Mathlib.Omega.{arith}
use mathlib.Core.Path.{◌≡◌, sym, ◌∙◌, ap}
use lib.Seq.{take-length}
use Rattle.rules.specs.Values.{strip}
use Rattle.values.proofs.Strip.{text_turn, text_stop, text_none}
use Rattle.values.proofs.texts.text_length.Goals as goal

pub loop-j-init : goal.loop-j-init
loop-j-init c = ap strip (take-length _)

pub returns-then-s-j-ne-SPACE : goal.returns-then-s-j-ne-SPACE
returns-then-s-j-ne-SPACE c =
    let e : c.loop-j.j - 1 + 1 ≡ c.loop-j.j = omega arith in
    rw e (omega arith, sym c.loop-j.invariant ∙ text_stop c.args.s.now c.loop-j.j (omega arith) (omega arith) c.if-s-j-ne-SPACE.true)

pub loop-j-preserved : goal.loop-j-preserved
loop-j-preserved c = text_turn c.args.s.now c.loop-j.j (omega arith) (omega arith) c.if-s-j-ne-SPACE.false ∙ c.loop-j.invariant

pub returns : goal.returns
returns c = (omega arith, sym c.loop-j.invariant ∙ text_none c.args.s.now c.loop-j.j (omega arith))
