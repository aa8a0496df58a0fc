-- `reading::spans::put_adjacent` meets its contract: what stands in one piece is put so, and of no occurrence there is nothing to put.
use mathlib.Core.Path.{refl}
use Prim.Native.Nat.{◌+◌, ◌-◌, ◌≤◌}
use native.Mathlib.Omega.{arith}
use Rattle.tables.specs.Entries.{entries_of}
use Rattle.reading.proofs.Running.{fills_none}
use Rattle.reading.proofs.SpanItems.{bounds}
use Rattle.reading.proofs.Adjacents.{rows_none, rows_put, group_of, whole_width}
use Rattle.reading.proofs.spans.put_adjacent.Goals as goal

pub returns-then-n-eq0 : goal.returns-then-n-eq0
returns-then-n-eq0 c =
    let a = c.args in
    let es = entries_of a.t.now in
    let u = bounds a.s.from a.s.upto c.requires.1.occurrences in
    fills_none es a.b.now a.places.now (rows_none es a.s a.s.from (a.s.from + a.n - 1) (omega (arith, u.0, c.if-n-eq0.true))) a.at a.end a.write c.requires.5 c.requires.6.0 c.requires.6.1

pub occurrences_at-from-requires : goal.occurrences_at-from-requires
occurrences_at-from-requires c =
    let a = c.args in
    let some : 1 ≤ a.n = omega (arith, c.if-n-eq0.false) in
    let whole = c.requires.4.whole some in
    let g = group_of c.requires.1 c.requires.3.entry c.requires.3.leads whole.inside in (
      c.requires.0,
      g.0,
      g.1,
      ((bounds a.s.from a.s.upto c.requires.1.occurrences).0, some, whole.exist, whole_width whole (c.requires.3.wide whole.inside), c.requires.5),
    )

pub overflow_mul-upto : goal.overflow_mul-upto
overflow_mul-upto c = omega (arith, (c.occurrences_at-from.ensures c.requires.5.0 c.requires.5.1).inside)

pub overflow_add-upto : goal.overflow_add-upto
overflow_add-upto c = omega (arith, (c.occurrences_at-from.ensures c.requires.5.0 c.requires.5.1).inside)

pub slice_bounds-put_bytes-end : goal.slice_bounds-put_bytes-end
slice_bounds-put_bytes-end c = omega (arith, (c.occurrences_at-from.ensures c.requires.5.0 c.requires.5.1).inside)

pub returns : goal.returns
returns c =
    let a = c.args in
    let u = bounds a.s.from a.s.upto c.requires.1.occurrences in
    rows_put (entries_of a.t.now) a.b.now a.places.now a.s c.requires.1 c.requires.2 u.0 (c.requires.4.whole (omega (arith, c.if-n-eq0.false))) a.width _ c.occurrences_at-from.ensures _ refl
    a.at a.end a.write c.put_bytes.ensures
