use Rattle.std.proofs.lemmas.Result.{err_from_is_err_and}
use mathlib.Core.Path.{sym, subst}
use Prim.Native.Nat.{◌+◌, ◌<◌}
use native.Mathlib.Omega.{arith}
use lib.ListN.{length}
use Rattle.rules.specs.Record.{Record}
use Rattle.tables.specs.Entries.{entries_of}
use Rattle.records.specs.Places.{IsRecord}
use Rattle.updating.specs.Member.{CelledMember, CellsFrom}
use Rattle.updating.proofs.Laying.{lay_start, lay_on, lay_off, lay_end}
use Rattle.updating.proofs.Left.{member_added, members_left, member_first}
use Rattle.updating.proofs.Membering.{members_none, cells_here, cells_member, cells_next}
use Rattle.updating.proofs.members.put_members.Goals as goal
use Rattle.updating.proofs.members.put_members.Goals.{In-loop-i, Joined-i-last, else-i-last, then-i-last}

less : (c : In-loop-i) → c.loop-i.i < length (entries_of c.args.t.now)
less c = omega (arith, c.loop-i-test.true, c.requires.1)

-- The cell of the entry that the loop is at.
cell : (c : In-loop-i) (r : Record) → IsRecord (entries_of c.args.t.now) c.args.b.now c.args.places.now r
    → CelledMember (entries_of c.args.t.now) c.args.b.now c.loop-i.i c.args.o r c.loop-i.cell
cell c r held = cells_here c.args.t.now c.requires.0 c.loop-i.cell (less c) (c.loop-i.invariant.0 r held c.loop-i-test.true)

pub loop-i-init : goal.loop-i-init
loop-i-init c =
    let a = c.args in
    (c.requires.5, lay_start (members_left (entries_of a.t.now) a.o a.last a.first) c.requires.4 c.requires.6.0 c.requires.6.1)

pub put_member-requires : goal.put_member-requires
put_member-requires c =
    let d = (goal.at.put_member-requires c).In-loop-i in
    let (r, held) = c.requires.4.0 in
    (c.requires.0, less d, c.requires.2, c.requires.3, ((r, cell d r held), c.requires.4.1), (c.loop-i.invariant.1.fits, c.loop-i.invariant.1.room))

pub returns-in_err-p : goal.returns-in_err-p
returns-in_err-p c =
    let d = (goal.at.returns-in_err-p c).In-loop-i in
    let es = entries_of c.args.t.now in
    let o = c.args.o in
    let i = c.loop-i.i in
    let p = err_from_is_err_and c.from_residual.result c.from_residual.ensures.1 in
    rw (p.1, p.2) (lay_off c.loop-i.invariant.1 (member_added es o i) (members_left es o c.args.last (i + 1)) (member_first es o c.args.last i c.loop-i-test.true) (λ r ws p a. c.put_member.ensures r ws (cell d r p) a) _ c.in_err-p.was)

pub next_cell-cell-requires : goal.next_cell-cell-requires
next_cell-cell-requires c =
    let (r, held) = c.requires.4.0 in
    let m = cells_member c.args.t.now c.requires.0 c.loop-i.cell c.if-i-last.true (c.loop-i.invariant.0 r held c.loop-i-test.true) in
    (c.requires.0, less (goal.at.next_cell-cell-requires c).In-loop-i, (c.args.places.now, m.0, c.args.o, r, m.2))

-- The cells of the entries that are left.
left : (c : Joined-i-last) (r : Record)
    → IsRecord (entries_of c.args.t.now) c.args.b.now c.args.places.now r
    → c.loop-i.i + 1 < c.args.last
    → CellsFrom (entries_of c.args.t.now) c.args.b.now c.args.places.now (c.loop-i.i + 1)
    c.args.last c.args.o r c.if-i-last.cell
left c r held more =
    let a = c.args in
    elim c.if-i-last.branch [
      | then-i-last w ↦
          subst (CellsFrom (entries_of a.t.now) a.b.now a.places.now (c.loop-i.i + 1) a.last a.o r) (sym w.cell-is)
          (cells_next a.t.now c.requires.0 c.loop-i.cell w.next_cell-cell.result more (c.loop-i.invariant.0 r held c.loop-i-test.true) (λ g m. w.next_cell-cell.ensures a.places.now g a.o r m))
      | else-i-last w ↦ absurd (omega (arith, more, w.if-i-last.false))
    ]

pub loop-i-preserved : goal.loop-i-preserved
loop-i-preserved c =
    let d = (goal.at.loop-i-preserved c).In-loop-i in
    let es = entries_of c.args.t.now in
    let o = c.args.o in
    let i = c.loop-i.i in
    (left c, lay_on c.loop-i.invariant.1 (member_added es o i) (members_left es o c.args.last (i + 1)) (member_first es o c.args.last i c.loop-i-test.true) (λ r ws p a. c.put_member.ensures r ws (cell d r p) a) _ c.in_ok-p.was)

pub returns : goal.returns
returns c = lay_end c.loop-i.invariant.1 (λ w r. members_none w c.args.o (entries_of c.args.t.now) c.loop-i.i c.args.last (omega (arith, c.loop-i-test.false)))
