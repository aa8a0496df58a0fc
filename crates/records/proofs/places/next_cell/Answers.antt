-- `records::places::next_cell` meets its contract: the next cell stands where this one ends, or the occurrence does not exist.
use Rattle.std.specs.Prelude.{Some}
use mathlib.Core.Path.{subst}
use mathlib.Core.List.{List}
use Prim.Native.Nat.{ℕ}
use native.Mathlib.Omega.{arith}
use Rattle.tables.specs.Entries.{entries_of}
use Rattle.rules.specs.Record.{Record}
use Rattle.records.specs.Places.{MemberEntered}
use Rattle.records.proofs.Members.{member_ends, member_next}
use Rattle.records.proofs.places.next_cell.Goals as goal
use Rattle.records.proofs.places.next_cell.Goals.{In_ok-from}

-- The entry that stands at that place.
stands : (c : In_ok-from) {places : List ℕ} {g o : ℕ} {r : Record}
    → MemberEntered (entries_of c.args.t.now) c.args.b.now places g c.args.i o r c.args.cell
    → MemberEntered (entries_of c.args.t.now) c.args.b.now places g c.args.i o r (Some c.in_ok-from.from)
stands c {places} {g} {o} {r} m =
    subst (MemberEntered (entries_of c.args.t.now) c.args.b.now places g c.args.i o r) c.in_ok-from.was m

pub members_end-requires : goal.members_end-requires
members_end-requires c =
    let m = stands c c.requires.2.4 in
    (c.requires.0, omega arith, omega (arith, c.requires.1), m.entered.1.before.place, member_ends c.args.t.now c.requires.0 c.requires.1 m)

pub returns-in_err-from : goal.returns-in_err-from
returns-in_err-from c places g o r m =
    rw c.from_residual.ensures (subst (MemberEntered (entries_of c.args.t.now) c.args.b.now places g c.args.i o r) c.in_err-from.was m).entered

pub returns : goal.returns
returns c places g o r m = member_next c.args.t.now c.requires.0 c.requires.1 (stands (goal.at.returns c).In_ok-from m) c.members_end.result c.members_end.ensures
