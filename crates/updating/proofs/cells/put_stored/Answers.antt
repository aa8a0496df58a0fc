-- `updating::cells::put_stored` meets its contract: a value that stands at a place is the bytes up to where it ends.
use Prim.Native.Nat.{◌-◌, ◌≤◌}
use native.Mathlib.Omega.{arith}
use lib.ListN.{length}
use Rattle.updating.proofs.OldValues.{filling_as, was_ends, was_ordered, was_within, was_bytes}
use Rattle.updating.proofs.cells.put_stored.Goals as goal
use Rattle.updating.proofs.cells.put_stored.Goals.{After-values_end-upto}

between : (c : After-values_end-upto) → (c.args.from ≤ c.values_end-upto.result) × (c.values_end-upto.result ≤ length c.args.s.now)
between c =
    let a = c.args in
    let (f, v, w) = c.requires.0 in (
      was_ordered a.s.now f a.size v a.from w c.values_end-upto.result (c.values_end-upto.ensures f),
      was_within a.s.now f a.size v a.from w c.values_end-upto.result (c.values_end-upto.ensures f),
    )

pub values_end-upto-requires : goal.values_end-upto-requires
values_end-upto-requires c =
    let (f, v, w) = c.requires.0 in
    (w.0, (f, was_ends c.args.s.now f c.args.size v c.args.from w))

pub slice_bounds-put_bytes-count : goal.slice_bounds-put_bytes-count
slice_bounds-put_bytes-count c = (between c).0

pub slice_bounds-put_bytes-start : goal.slice_bounds-put_bytes-start
slice_bounds-put_bytes-start c = omega (arith, (between c).0, (between c).1)

pub slice_bounds-put_bytes-end : goal.slice_bounds-put_bytes-end
slice_bounds-put_bytes-end c = omega (arith, (between c).0, (between c).1)

pub returns : goal.returns
returns c f v w =
    let a = c.args in
    filling_as (a.end - a.at) c.put_bytes.ensures (was_bytes a.s.now f a.size v a.from w c.values_end-upto.result (c.values_end-upto.ensures f))
