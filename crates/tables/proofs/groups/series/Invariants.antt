-- `tables::groups::series` meets its contract: what is left of the series is done where the whole is; names differ, so the last entry is j.
use mathlib.Core.Path.{◌≡◌}
use lib.ListN.{get_or, drop}
use Rattle.rules.specs.Outcome.{is_done}
use Rattle.rules.specs.Use.{fields_to}
use Rattle.tables.specs.Entries.{entries_of, blank}
use Rattle.tables.proofs.groups.series.Given as goal

abbrev pub invariant-loop-k : goal.invariant-loop-k
invariant-loop-k l =
    is_done (fields_to (get_or (entries_of l.t) l.j blank).name (drop l.k (entries_of l.t))) ≡ is_done (fields_to (get_or (entries_of l.t) l.j blank).name (drop l.i (entries_of l.t)))
