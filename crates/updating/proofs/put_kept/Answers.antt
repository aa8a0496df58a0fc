-- `updating::put_kept` meets its contract: what stands from the first part on is the old bytes, and then what stands from the next part on.
use mathlib.Core.Path.{◌≡◌}
use Prim.Native.Nat.{◌-◌, ◌≤◌}
use lib.ListN.{take, drop}
use Rattle.rules.specs.Lists.{Bytes}
use Rattle.tables.specs.Entries.{entries_of}
use Rattle.updating.specs.New.{Between}
use Rattle.updating.proofs.Laying.{puts_as}
use Rattle.updating.proofs.Unchanged.{piece_between}
use Rattle.updating.proofs.put_kept.Goals as goal
use Rattle.updating.proofs.put_kept.Goals.{After-part_start-upto}

-- The bytes between the two places.
piece : (c : After-part_start-upto) (old : Bytes) → Between (entries_of c.args.t.now) c.args.b.now c.args.first c.args.next old
    → (c.part_start-from.result ≤ c.part_start-upto.result) × (take (c.part_start-upto.result - c.part_start-from.result) (drop c.part_start-from.result c.args.b.now) ≡ old)
piece c old e =
    let a = c.args in
    piece_between (entries_of a.t.now) a.b.now a.first a.next c.part_start-from.result c.part_start-upto.result c.part_start-from.ensures.0 c.part_start-from.ensures.1 c.part_start-upto.ensures.0 c.part_start-upto.ensures.1 old e

pub slice_bounds-put_bytes-count : goal.slice_bounds-put_bytes-count
slice_bounds-put_bytes-count c = (piece c c.requires.4.0 c.requires.4.1).0

pub slice_bounds-put_bytes-start : goal.slice_bounds-put_bytes-start
slice_bounds-put_bytes-start c = (piece c c.requires.4.0 c.requires.4.1).0

pub returns : goal.returns
returns c old e = puts_as (c.args.end - c.args.at) (piece (goal.at.returns c).After-part_start-upto old e).1 c.put_bytes.ensures
