use mathlib.Core.Path.{◌∙◌}
use Rattle.uses.specs.declared.Use.TheVariants.{Values}
use Rattle.uses.proofs.Meeting.{met_here, met_elsewhere, met_nowhere}
use Rattle.uses.proofs.twice.met_before.Goals as goal

pub returns-then-use_alike : goal.returns-then-use_alike
returns-then-use_alike c = λ f. met_here _ _ (Values c.args.s) _ f c.loop-i-test.true c.use_alike.ensures c.if-use_alike.true ∙ c.loop-i.invariant f

pub loop-i-preserved : goal.loop-i-preserved
loop-i-preserved c = λ f. met_elsewhere _ _ (Values c.args.s) _ f c.loop-i-test.true c.use_alike.ensures c.if-use_alike.false ∙ c.loop-i.invariant f

pub returns : goal.returns
returns c = λ f. met_nowhere _ _ (Values c.args.s) _ f c.loop-i-test.false ∙ c.loop-i.invariant f
