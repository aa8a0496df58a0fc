-- `updating::members::put_occurrences` meets its contract: the occurrences that are left are laid as all of them are from the first.
use Prim.Native.Nat.{◌+◌, ◌≤◌}
use lib.ListN.{drop}
use Rattle.tables.specs.Entries.{entries_of}
use Rattle.updating.specs.Laid.{occurrences_laid}
use Rattle.updating.proofs.Laying.{Laying}
use Rattle.updating.proofs.Left.{occurrences_left}
use Rattle.updating.proofs.members.put_occurrences.Given as goal

abbrev pub invariant-loop-o : goal.invariant-loop-o
invariant-loop-o l =
    (1 ≤ l.o)
    × Laying (entries_of l.t) l.b l.places l.kept l.list l.stage (λ w r. occurrences_laid w (drop (l.g + 1) (entries_of l.t)) 1 l.n) (occurrences_left (entries_of l.t) l.g l.n l.o) l.at l.p l.end l.initial.out l.out
