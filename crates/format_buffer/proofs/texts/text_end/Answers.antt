use mathlib.Core.Path.{refl, sym, ap, ◌∙◌}
use Prim.Native.Nat.{◌+◌}
use native.Mathlib.Omega.{arith}
use borrow.Author.Rules.{rules}
use lib.ListN.{drop}
use Rattle.format_buffer.specs.Texts.{extent}
use Rattle.format_buffer.proofs.Scans.{extent_end, extent_stop, extent_go}
use Rattle.format_buffer.proofs.texts.text_end.Goals as goal

pub loop-i-init : goal.loop-i-init
loop-i-init c = refl

pub returns-then-is_end : goal.returns-then-is_end
returns-then-is_end c =
    let z = extent_stop c.loop-i.inside c.loop-i.i c.args.f.now (omega arith) (sym c.is_end.ensures ∙ c.if-is_end.true) in
    (omega (arith, c.loop-i.invariant), omega arith)

pub loop-i-preserved : goal.loop-i-preserved
loop-i-preserved c =
    let z = extent_go c.loop-i.inside c.loop-i.i c.args.f.now (omega arith) (sym c.is_end.ensures ∙ c.if-is_end.false) in
    let w = ap (λ q. extent q (drop (c.loop-i.i + 1) c.args.f.now)) c.turn-inside.ensures in
    omega (arith, z, w, c.loop-i.invariant)

pub returns : goal.returns
returns c =
    let z = extent_end c.loop-i.inside c.loop-i.i c.args.f.now (omega arith) in
    (omega (arith, c.loop-i.invariant), omega arith)
