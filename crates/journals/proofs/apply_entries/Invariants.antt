-- `journals::apply_entries` meets its contract: after each turn the entries so far are a history, and those that are left go on with it.
use mathlib.Core.Path.{◌≡◌}
use Prim.Native.Nat.{◌-◌}
use lib.ListN.{length, take}
use Rattle.journals.specs.Journal.{entry_end}
use Rattle.journals.proofs.Replaying.{Going}
use Rattle.journals.proofs.apply_entries.Given as goal

abbrev pub invariant-loop-at : goal.invariant-loop-at
invariant-loop-at l = Going l.table l.journal (take l.start l.initial.stored) l.at l.used l.stored × (l.end ≡ entry_end l.journal l.at)

abbrev pub decreases-loop-at : goal.decreases-loop-at
decreases-loop-at l = length l.journal - l.at
