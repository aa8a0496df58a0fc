use mathlib.Core.Path.{refl, sym, ◌∙◌}
use native.Mathlib.Omega.{arith}
use borrow.Author.Rules.{rules}
use Rattle.format_buffer.proofs.PieceLaws.{none_left, none_turn, none_stop}
use Rattle.format_buffer.proofs.pieces.no_apostrophe.Goals as goal

pub loop-i-init : goal.loop-i-init
loop-i-init c = refl

pub returns-then-f-i-eq-APOSTROPHE : goal.returns-then-f-i-eq-APOSTROPHE
returns-then-f-i-eq-APOSTROPHE c =
    let a = c.args in
    sym (none_stop a.f.now c.loop-i.i a.upto (omega arith) (omega arith) c.if-f-i-eq-APOSTROPHE.true) ∙ c.loop-i.invariant

pub loop-i-preserved : goal.loop-i-preserved
loop-i-preserved c =
    let a = c.args in
    sym (none_turn a.f.now c.loop-i.i a.upto (omega arith) (omega arith) c.if-f-i-eq-APOSTROPHE.false) ∙ c.loop-i.invariant

pub returns : goal.returns
returns c =
    let a = c.args in
    sym (none_left a.f.now c.loop-i.i a.upto (omega arith)) ∙ c.loop-i.invariant
