use mathlib.Core.Path.{◌∙◌}
use native.Mathlib.Omega.{arith}
use Rattle.assignments.specs.Notes.{highest_noted}
use Rattle.assignments.proofs.Reaching.{highest_named, highest_small}
use Rattle.assignments.proofs.Climbing.{climb_on, climb_end}
use Rattle.assignments.proofs.finding.highest_occurrence.Goals as goal

pub loop-i-preserved : goal.loop-i-preserved
loop-i-preserved c =
    let a = c.args in
    let m = highest_small c.requires.1.5 c.loop-i.i (omega (arith, c.requires.1.6)) in (
      omega (arith, c.loop-i.invariant.0),
      climb_on (highest_noted a.list.now) a.first a.end c.loop-i.highest c.loop-i.i c.loop-i.invariant.1 c.max-highest.result c.loop-i-test.true c.max-highest.ensures,
    )

pub returns : goal.returns
returns c =
    let a = c.args in (
      (λ es f count stage ws x p e k. climb_end (highest_noted a.list.now) a.first a.end c.loop-i.highest c.loop-i.i c.loop-i.invariant.1 c.loop-i-test.false
          ∙ highest_named x a.first a.end c.requires.0 k p e),
      c.loop-i.invariant.0,
    )
