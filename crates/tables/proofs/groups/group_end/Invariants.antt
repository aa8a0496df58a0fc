-- `tables::groups::group_end` meets its contract: what is left of the run ends where the whole does.
use mathlib.Core.Path.{◌≡◌}
use Prim.Native.Nat.{◌+◌}
use lib.ListN.{drop}
use Rattle.tables.specs.Entries.{entries_of}
use Rattle.tables.specs.Groups.{run_below, group_end}
use Rattle.tables.proofs.groups.group_end.Given as goal

abbrev pub invariant-loop-j : goal.invariant-loop-j
invariant-loop-j l = l.j + run_below l.level (drop l.j (entries_of l.t)) ≡ group_end (entries_of l.t) l.i
