use mathlib.Core.Path.{◌≡◌, sym, ap, ◌∙◌}
use mathlib.Core.Bool.{true}
use mathlib.Core.List.{[]}
use Prim.Native.Nat.{◌+◌, ◌-◌, ◌*◌}
use lib.ListN.{length}
use Rattle.rules.specs.Limits.{highest_index}
use Rattle.uses.specs.Kept.{numbers_kept, span_at}
use Rattle.assignments.specs.Notes.{next_noted, names_cell}
use Rattle.assignments.proofs.Searching.{Walk, walk_room, walk_falls}
use Rattle.assignments.specs.declared.Naming.{Naming}
use Rattle.assignments.proofs.Tallying.{Tallying, walk_named, walk_fills, tallying_start, tallying_end, turn_in, turn_out}
use Rattle.assignments.proofs.finding.named_in.Goals as goal
use Rattle.assignments.proofs.finding.named_in.Goals.{then-names, else-names}
use Rattle.assignments.proofs.finding.named_in.Goals.{At-loop-n, Then-names}

walk : (l : At-loop-n) → Walk l.args.kept.now l.args.list.now l.args.chain l.requires.2.2 l.loop-n.n
walk l = (l.loop-n.invariant.2 l.requires.2.0 l.requires.2.1 l.requires.2.2 l.requires.2.3 [] l.requires.2.4).0

pub loop-n-init : goal.loop-n-init
loop-n-init c =
    let a = c.args in
    let k = tallying_start a.kept.now a.list.now a.stage.now a.chain a.i a.o a.size c.requires.0 a.by.now a.so_far in
    (walk_room c.requires.2.4.indexed c.requires.0 (k c.requires.2.0 c.requires.2.1 c.requires.2.2 c.requires.2.3 [] c.requires.2.4).0, c.requires.1, k)

-- The use names the cell.
names_it : (t : Then-names)
    → (names_cell (span_at t.args.kept.now (numbers_kept * (t.loop-n.n - 1))) t.args.i t.args.o ≡ true)
names_it t = sym t.names.ensures ∙ t.if-names.true

pub cell_start-at-requires : goal.cell_start-at-requires
cell_start-at-requires c = (c.requires.2.0, c.requires.2.1, c.requires.2.2, c.requires.2.3, walk_named c.requires.2.4 c.requires.0 (walk (goal.at.cell_start-at-requires c).At-loop-n) c.loop-n-test.true c.args.o (names_it (goal.at.cell_start-at-requires c).Then-names))

pub fill-requires : goal.fill-requires
fill-requires c = (c.loop-n.invariant.1, (c.requires.2.0, c.requires.2.3, c.args.i, c.args.o, walk_fills c.requires.2.4 c.requires.0 (walk (goal.at.fill-requires c).At-loop-n) c.loop-n-test.true c.args.o (names_it (goal.at.fill-requires c).Then-names) c.cell_start-at.result c.span_at-s.ensures c.cell_start-at.ensures))

pub loop-n-smaller : goal.loop-n-smaller
loop-n-smaller c = walk_falls c.requires.2.4.indexed c.requires.0 (walk (goal.at.loop-n-smaller c).At-loop-n) c.loop-n-test.true

pub loop-n-preserved : goal.loop-n-preserved
loop-n-preserved c =
    let a = c.args in
    let e = sym c.names.ensures in
    let turn : (length c.if-names.by ≡ highest_index + 1) × Tallying a.kept.now a.list.now a.stage.now a.chain a.i a.o a.size a.by.now a.so_far c.if-names.by c.if-names.all (next_noted a.list.now (c.loop-n.n - 1)) = elim c.if-names.branch [
      | then-names w ↦
          turn_in a.kept.now a.list.now a.stage.now a.chain a.i a.o a.size c.requires.0 a.by.now a.so_far c.loop-n.by c.loop-n.all c.loop-n.n c.loop-n.invariant.2 c.loop-n-test.true c.requires.2.4 c.loop-n.invariant.1
          (e ∙ w.if-names.true) w.span_at-s.result w.span_at-s.ensures w.cell_start-at.result w.cell_start-at.ensures w.fill.ensures c.if-names.by w.by-is c.if-names.all
          (ap (λ (v : Naming). v.highest) w.all-is ∙ w.max.ensures)
          (ap (λ (v : Naming). v.bare) w.all-is)
      | else-names w ↦
          turn_out a.kept.now a.list.now a.stage.now a.chain a.i a.o a.size c.requires.0 a.by.now a.so_far c.loop-n.by c.loop-n.all c.loop-n.n c.loop-n.invariant.2 c.loop-n-test.true c.loop-n.invariant.1
          (e ∙ w.if-names.false) c.if-names.by w.by-is c.if-names.all w.all-is
    ] in
    (walk_room c.requires.2.4.indexed c.requires.0 (turn.1 c.requires.2.0 c.requires.2.1 c.requires.2.2 c.requires.2.3 [] c.requires.2.4).0, turn.0, turn.1)

pub returns : goal.returns
returns c =
    let a = c.args in
    tallying_end a.kept.now a.list.now a.stage.now a.chain a.i a.o a.size c.requires.0 a.by.now a.so_far
    c.loop-n.by c.loop-n.all c.loop-n.n c.loop-n.invariant.2 c.loop-n-test.false
