-- `taking::spans::take_entry` meets its contract: a group adds no items, and those of a field are what is asked of it.
use mathlib.Core.Path.{sym, ◌∙◌}
use Prim.Native.Nat.{◌<◌}
use native.Mathlib.Omega.{arith}
use lib.ListN.{length}
use Rattle.tables.specs.Entries.{entries_of}
use Rattle.taking.proofs.Turns.{nothing_taken}
use Rattle.taking.proofs.Entries.{between_group, between_field}
use Rattle.taking.proofs.spans.take_entry.Goals as goal
use Rattle.taking.proofs.spans.take_entry.Goals.{After-group_at}

known : (c : After-group_at) → c.args.i < length (entries_of c.args.t.now)
known c = omega (arith, c.requires.1.upto, c.requires.3)

pub returns : goal.returns
returns c =
    let a = c.args in
    rw (between_field (entries_of a.t.now) a.u a.o a.i (known (goal.at.returns c).After-group_at) (sym c.group_at.ensures ∙ c.if-group_at.false) c.given_at.result c.given_at.ensures.3 c.given_at.ensures.1)
    (c.take_values.ensures (entries_of a.t.now) c.given_at.ensures.2 c.requires.6.0)

pub returns-then-group_at : goal.returns-then-group_at
returns-then-group_at c =
    let a = c.args in
    nothing_taken (entries_of a.t.now) a.buffer.now _ a.s a.list.now a.stage.now
    (between_group (entries_of a.t.now) a.u a.o a.i (known (goal.at.returns-then-group_at c).After-group_at) (sym c.group_at.ensures ∙ c.if-group_at.true))
