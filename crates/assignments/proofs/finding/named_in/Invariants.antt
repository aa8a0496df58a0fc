-- `assignments::finding::named_in` meets its contract: the uses of the chain that were gone over are tallied, and with those that are left they are the whole.
use mathlib.Core.Path.{◌≡◌}
use Prim.Native.Nat.{◌+◌}
use lib.ListN.{length}
use Rattle.rules.specs.Limits.{highest_index}
use Rattle.assignments.proofs.Searching.{turns_left, Room}
use Rattle.assignments.proofs.Tallying.{Tallying}
use Rattle.assignments.proofs.finding.named_in.Given as goal

abbrev pub invariant-loop-n : goal.invariant-loop-n
invariant-loop-n l =
    Room l.kept l.list l.n × (length l.by ≡ highest_index + 1) × Tallying l.kept l.list l.stage l.chain l.i l.o l.size l.initial.by l.initial.all l.by l.all l.n

abbrev pub decreases-loop-n : goal.decreases-loop-n
decreases-loop-n l = turns_left l.n
