use mathlib.Core.Path.{◌≡◌}
use Prim.Native.Nat.{◌-◌}
use native.Mathlib.Omega.{arith}
use Rattle.tables.specs.Entries.{entries_of}
use Rattle.uses.specs.Kept.{use_at}
use Rattle.uses.specs.declared.Span.{Span}
use Rattle.uses.specs.declared.Use.TheVariants as code
use Rattle.assignments.specs.Answers.{CanLink}
use Rattle.assignments.proofs.PutBefore.{put_linked}
use Rattle.assignments.proofs.Linking.{can_link, linking_turn}
use Rattle.assignments.proofs.chains.link_all.Goals as goal
use Rattle.assignments.proofs.chains.link_all.Goals.{In-loop-n}

-- The use before those that were put can be put too.
can : (c : In-loop-n) (s : Span)
    → use_at c.args.kept.now (c.loop-n.n - 1) ≡ code.Values s
    → CanLink (entries_of c.args.t.now) (c.loop-n.n - 1) s c.loop-n.list
can c = can_link c.loop-n.invariant c.loop-n-test.true c.requires.2.3

pub link-requires : goal.link-requires
link-requires c = (c.requires.0, omega (arith, c.requires.2.3.kept_room, c.loop-n.invariant.upto, c.loop-n-test.true), can (goal.at.link-requires c).In-loop-n)

pub loop-n-preserved : goal.loop-n-preserved
loop-n-preserved c = linking_turn c.loop-n.invariant c.loop-n-test.true (put_linked (use_at c.args.kept.now (c.loop-n.n - 1)) (can (goal.at.loop-n-preserved c).In-loop-n) c.link.ensures)
