-- `tables::groups::plain_group` meets its contract: what is left of the group's fields answers as the whole does.
use mathlib.Core.Path.{◌≡◌}
use Prim.Native.Nat.{◌+◌}
use lib.ListN.{get_or, drop}
use Rattle.rules.specs.Lists.{all}
use Rattle.rules.specs.Table.{fields_below}
use Rattle.rules.specs.Use.{plain}
use Rattle.tables.specs.Entries.{entries_of, blank}
use Rattle.tables.proofs.groups.plain_group.Given as goal

abbrev pub invariant-loop-j : goal.invariant-loop-j
invariant-loop-j l =
    all plain (fields_below l.level (drop l.j (entries_of l.t))) ≡ all plain (fields_below (get_or (entries_of l.t) l.i blank).level (drop (l.i + 1) (entries_of l.t)))
