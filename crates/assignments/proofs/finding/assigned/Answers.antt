-- `assignments::finding::assigned` meets its contract: in occurrence 1 it is noted where value 1 stands, in another the use that names it is looked for.
use native.Mathlib.Omega.{arith}
use Rattle.rules.specs.Lists.{Bytes}
use Prim.Native.Nat.{ℕ}
use mathlib.Core.List.{List}
use Rattle.rules.specs.Update.{Assignment}
use Rattle.tables.specs.Entries.{entries_of}
use Rattle.assignments.specs.Notes.{Indexed}
use Rattle.assignments.specs.Answers.{NamedBy}
use Rattle.assignments.proofs.CellSpans.{block_within, block_takes, one_value, found_named, first_takes, none_takes}
use Rattle.assignments.proofs.finding.assigned.Goals as goal
use Rattle.assignments.proofs.finding.assigned.Goals.{After-size_at}

pub returns-then-o-eq1 : goal.returns-then-o-eq1
returns-then-o-eq1 c f count ws ix = first_takes ix c.args.i c.args.o c.requires.1 c.requires.2 c.if-o-eq1.true

-- The use that was found names the cell.
named : (c : After-size_at) (f : Bytes) (count : ℕ) (ws : List Assignment) → let a = c.args in let es = entries_of a.t.now in
    Indexed es f a.kept.now count a.list.now a.stage.now ws → NamedBy es f a.kept.now count a.list.now a.stage.now ws c.in-Some.n a.i a.o c.size_at.result
named c f count ws ix =
    let a = c.args in
    found_named ix a.i a.o c.requires.1 c.requires.2 c.in-Some.n c.size_at.result (c.in-Some.ensures (entries_of a.t.now) f count a.stage.now ws ix) c.requires.4.0 c.if-o-eq1.false c.size_at.ensures.0

pub returns-in-None : goal.returns-in-None
returns-in-None c f count ws ix = none_takes ix c.args.i c.args.o c.requires.1 c.requires.2 (c.in-None.ensures (entries_of c.args.t.now) f count c.args.stage.now ws ix)

pub cell_start-requires : goal.cell_start-requires
cell_start-requires c =
    let r = c.requires.4.2 in
    (entries_of c.args.t.now, r.0, r.1, r.2, named (goal.at.cell_start-requires c).After-size_at r.0 r.1 r.2 r.3)

pub overflow_add-result-in-Some : goal.overflow_add-result-in-Some
overflow_add-result-in-Some c =
    let r = c.requires.4.2 in
    let b = named (goal.at.overflow_add-result-in-Some c).After-size_at r.0 r.1 r.2 r.3 in
    omega (arith, block_within b (c.cell_start.ensures (entries_of c.args.t.now) r.0 r.1 r.2 b), r.3.listed.stands.most)

pub returns-in-Some : goal.returns-in-Some
returns-in-Some c f count ws ix =
    let b = named (goal.at.returns-in-Some c).After-size_at f count ws ix in
    block_takes b (c.cell_start.ensures (entries_of c.args.t.now) f count ws b) (one_value b c.requires.3)
