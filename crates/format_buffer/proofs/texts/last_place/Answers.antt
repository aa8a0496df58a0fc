use mathlib.Core.Path.{◌≡◌, refl, sym, ◌∙◌}
use native.Mathlib.Omega.{arith}
use Prim.Native.Nat.{◌+◌, ◌-◌}
use Rattle.format_buffer.proofs.Scans.{strip_end, strip_turn, strip_stop}
use Rattle.format_buffer.proofs.texts.last_place.Goals as goal

pub loop-i-init : goal.loop-i-init
loop-i-init c = (omega arith, refl)

pub returns-then-f-i-ne-SPACE : goal.returns-then-f-i-ne-SPACE
returns-then-f-i-ne-SPACE c =
    let a = c.args in
    let e : c.loop-i.i - 1 + 1 ≡ c.loop-i.i = omega arith in
    rw e (record {
      answer = sym (strip_stop a.f.now a.at c.loop-i.i (omega arith) (omega arith) c.if-f-i-ne-SPACE.true) ∙ c.loop-i.invariant.1;
      low = omega arith;
      high = omega arith;
    })

pub loop-i-preserved : goal.loop-i-preserved
loop-i-preserved c =
    let a = c.args in
    (omega arith, sym (strip_turn a.f.now a.at c.loop-i.i (omega arith) (omega arith) c.if-f-i-ne-SPACE.false) ∙ c.loop-i.invariant.1)

pub returns : goal.returns
returns c =
    let a = c.args in
    let e : c.loop-i.i ≡ a.at = omega arith in
    let w = sym (strip_end a.f.now a.at c.loop-i.i (omega arith)) ∙ c.loop-i.invariant.1 in
    record { answer = rw e at w; low = omega arith; high = omega arith }
