use mathlib.Core.Path.{◌∙◌}
use native.Mathlib.Omega.{arith}
use Rattle.tables.specs.Entries.{entries_of}
use Rattle.tables.proofs.Tables.{valid_most}
use Rattle.uses.proofs.Meeting.{once_more, twice_found, spans_known}
use Rattle.uses.proofs.twice.named_twice.Goals as goal

pub returns-then-named_before : goal.returns-then-named_before
returns-then-named_before c = twice_found (entries_of c.args.t.now) c.args.kept.now _ _ c.named_before.ensures c.if-named_before.true c.loop-n-test.true

pub mark-requires : goal.mark-requires
mark-requires c =
    let es = entries_of c.args.t.now in
    (omega arith, c.loop-n.invariant.1, (es, valid_most c.args.t.now c.requires.0, spans_known es c.args.kept.now c.requires.2.0 c.args.count c.requires.2.1 c.loop-n.n c.loop-n-test.true))

pub loop-n-preserved : goal.loop-n-preserved
loop-n-preserved c = (
  once_more (entries_of c.args.t.now) c.args.kept.now _ c.args.count c.named_before.ensures c.if-named_before.false c.loop-n.invariant.0,
  c.mark.ensures.same ∙ c.loop-n.invariant.1,
  c.mark.ensures.boxed c.loop-n.invariant.2,
)
