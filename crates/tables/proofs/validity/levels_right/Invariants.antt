-- `tables::validity::levels_right` meets its contract: what is left of the levels answers as the whole does.
use mathlib.Core.Path.{◌≡◌}
use mathlib.Core.Bool.{false}
use lib.ListN.{drop}
use Rattle.rules.specs.Table.{levels, group}
use Rattle.tables.specs.Validity.{read_entries}
use Rattle.tables.proofs.Levels.{mark}
use Rattle.tables.proofs.validity.levels_right.Given as goal

abbrev pub invariant-loop-i : goal.invariant-loop-i
invariant-loop-i l = levels (mark l.after_group) l.before (drop l.i (read_entries l.n l.t)) ≡ levels (group false) 0 (read_entries l.n l.t)
