-- `tables::groups::expand_from` meets its contract: a field's number before those after it, a group's members before those after them;
-- the entries that remain fall.
use Prim.Native.Nat.{◌-◌}
use Rattle.tables.proofs.groups.+expand_from.Given as goal

abbrev pub decreases-expand_from : goal.decreases-expand_from
decreases-expand_from l = l.n - l.at
