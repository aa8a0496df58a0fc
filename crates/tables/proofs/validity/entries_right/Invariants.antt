-- `tables::validity::entries_right` meets its contract: what is left to read answers as the whole does.
use mathlib.Core.Path.{◌≡◌}
use Prim.Native.Nat.{◌-◌}
use lib.ListN.{drop}
use Rattle.rules.specs.Limits.{table_head_size}
use Rattle.rules.specs.Outcome.{is_done}
use Rattle.rules.specs.Table.{entries}
use Rattle.tables.specs.Entries.{bytes_at}
use Rattle.tables.proofs.validity.entries_right.Given as goal

abbrev pub invariant-loop-i : goal.invariant-loop-i
invariant-loop-i l = is_done (entries (l.n - l.i) (bytes_at l.t l.i)) ≡ is_done (entries l.n (drop table_head_size l.t))
