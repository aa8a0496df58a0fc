-- `uses::meaning::use_of_value_count` meets its contract: an index is refused outside periodic groups, and out of order in them.
use mathlib.Core.Path.{sym, ◌∙◌}
use Rattle.tables.specs.Entries.{entries_of}
use Rattle.uses.proofs.Settling.{count_outside_at, count_broken}
use Rattle.uses.proofs.meaning.use_of_value_count.Goals as goal
use Rattle.uses.proofs.meaning.use_of_value_count.Goals.{then-not-inside-via-then-not-inside, then-not-inside-via-else-not-inside+then-not-in_order}

pub returns-then-not-inside : goal.returns-then-not-inside
returns-then-not-inside c = let es = entries_of c.args.t.now in elim c.then-not-inside.branch [
  | then-not-inside-via-then-not-inside w ↦ count_outside_at es c.args.i c.args.c c.requires.2 c.in-Some.x c.in-Some.is (sym c.inside.ensures ∙ w.if-not-inside.true)
  | then-not-inside-via-else-not-inside+then-not-in_order w ↦ count_broken es c.args.i c.args.c c.requires.2 c.in-Some.x c.in-Some.is (sym c.inside.ensures ∙ w.if-not-inside.false)
      (rw c.from-k.ensures at (sym w.in_order.ensures ∙ w.if-not-in_order.true))
]
