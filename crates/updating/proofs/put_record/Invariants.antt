-- `updating::put_record` meets its contract: after the head, what the entries that are left add is laid as what all of them add.
use mathlib.Core.Bool.{false}
use Rattle.tables.specs.Entries.{entries_of}
use Rattle.updating.proofs.Laying.{Laying}
use Rattle.updating.proofs.Left.{entries_left}
use Rattle.updating.proofs.Grouping.{Insides}
use Rattle.updating.proofs.put_record.Given as goal

abbrev pub invariant-loop-i : goal.invariant-loop-i
invariant-loop-i l =
    Insides (entries_of l.t) l.i l.inside
    × Laying (entries_of l.t) l.b l.places l.kept l.list l.stage (entries_left (entries_of l.t) false 0) (entries_left (entries_of l.t) l.inside l.i) l.initial.p l.p l.end l.initial.out l.out
