-- `updating::members::put_members` meets its contract: the members that are left are laid as all of them are from the first, beside the cells that they
-- had.
use Prim.Native.Nat.{◌<◌}
use Rattle.rules.specs.Record.{Record}
use Rattle.tables.specs.Entries.{entries_of}
use Rattle.records.specs.Places.{IsRecord}
use Rattle.updating.specs.Member.{CellsFrom}
use Rattle.updating.proofs.Laying.{Laying}
use Rattle.updating.proofs.Left.{members_left}
use Rattle.updating.proofs.members.put_members.Given as goal

abbrev pub invariant-loop-i : goal.invariant-loop-i
invariant-loop-i l =
    ((r : Record) → IsRecord (entries_of l.t) l.b l.places r → l.i < l.last → CellsFrom (entries_of l.t) l.b l.places l.i l.last l.o r l.cell)
    × Laying (entries_of l.t) l.b l.places l.kept l.list l.stage (members_left (entries_of l.t) l.o l.last l.first) (members_left (entries_of l.t) l.o l.last l.i) l.at l.p l.end l.initial.out l.out
