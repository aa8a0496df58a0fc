-- `uses::twice::use_alike` meets its contract: a span is compared, and what is no span names nothing.
use mathlib.Core.Path.{sym, ◌∙◌}
use Rattle.tables.specs.Entries.{entries_of}
use Rattle.uses.specs.declared.Use.TheVariants.{Values}
use Rattle.uses.proofs.Meeting.{alike_as, alike_other}
use Rattle.uses.proofs.twice.use_alike.Goals as goal

pub returns-in-Values : goal.returns-in-Values
returns-in-Values c = alike_as (entries_of c.args.t.now) (Values c.args.s) (sym c.get.ensures ∙ c.in-Values.is) c.spans_alike.ensures

pub returns-in_default : goal.returns-in_default
returns-in_default c =
    let es = entries_of c.args.t.now in
    alike_as es (Values c.args.s) (sym c.get.ensures) (alike_other es c.get.result (Values c.args.s) c.in_default.not-Values)
