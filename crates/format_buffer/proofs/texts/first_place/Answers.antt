use mathlib.Core.Path.{◌≡◌, refl, sym, ◌∙◌}
use native.Mathlib.Omega.{arith}
use borrow.Author.Rules.{rules}
use Rattle.format_buffer.proofs.Scans.{skip_end, skip_turn, skip_stop}
use Rattle.format_buffer.proofs.texts.first_place.Goals as goal

pub loop-i-init : goal.loop-i-init
loop-i-init c = refl

pub returns-then-f-i-ne-SPACE : goal.returns-then-f-i-ne-SPACE
returns-then-f-i-ne-SPACE c =
    let a = c.args in
    record {
      answer = sym (skip_stop a.f.now c.loop-i.i a.upto (omega arith) (omega arith) c.if-f-i-ne-SPACE.true) ∙ c.loop-i.invariant;
      low = omega arith;
      high = omega arith;
    }

pub loop-i-preserved : goal.loop-i-preserved
loop-i-preserved c =
    let a = c.args in
    sym (skip_turn a.f.now c.loop-i.i a.upto (omega arith) (omega arith) c.if-f-i-ne-SPACE.false) ∙ c.loop-i.invariant

pub returns : goal.returns
returns c =
    let a = c.args in
    let e : c.loop-i.i ≡ a.upto = omega arith in
    let w = sym (skip_end a.f.now c.loop-i.i a.upto (omega arith)) ∙ c.loop-i.invariant in
    record { answer = rw e at w; low = omega arith; high = omega arith }
