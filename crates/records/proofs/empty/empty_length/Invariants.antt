-- `records::empty::empty_length` meets its contract: the total so far and what the entries to come add are the whole.
use mathlib.Core.Path.{◌≡◌}
use mathlib.Core.Bool.{false}
use Prim.Native.Nat.{◌+◌, ◌*◌, ◌≤◌}
use lib.ListN.{length, drop}
use Rattle.rules.specs.Limits.{record_head_size, longest_alpha}
use Rattle.tables.specs.Entries.{entries_of}
use Rattle.records.specs.Empty.{empty_from}
use Rattle.records.proofs.empty.empty_length.Given as goal

abbrev pub invariant-loop-i : goal.invariant-loop-i
invariant-loop-i l =
    (l.total ≤ record_head_size + longest_alpha * l.i)
    × (l.total + length (empty_from l.inside (drop l.i (entries_of l.t))) ≡ record_head_size + length (empty_from false (entries_of l.t)))
