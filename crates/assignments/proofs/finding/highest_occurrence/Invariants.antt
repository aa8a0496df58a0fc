-- `assignments::finding::highest_occurrence` meets its contract: the highest so far, and that of the entries that are left, is that of all.
use Prim.Native.Nat.{◌≤◌}
use Rattle.rules.specs.Limits.{highest_index}
use Rattle.assignments.specs.Notes.{highest_noted}
use Rattle.assignments.proofs.Climbing.{Climbing}
use Rattle.assignments.proofs.finding.highest_occurrence.Given as goal

abbrev pub invariant-loop-i : goal.invariant-loop-i
invariant-loop-i l = (l.highest ≤ highest_index) × Climbing (highest_noted l.list) l.first l.end l.highest l.i
