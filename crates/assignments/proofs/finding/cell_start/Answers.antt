-- `assignments::finding::cell_start` meets its contract: the values before are passed over one by one, or counted by widths.
use Prim.Native.Nat.{◌+◌, ◌-◌}
use native.Mathlib.Omega.{arith}
use Rattle.tables.specs.Groups.{field_at}
use Rattle.assignments.specs.Notes.{note_place, widths_from, width_noted}
use Rattle.assignments.proofs.Blocks.{single_starts}
use Rattle.assignments.proofs.CellSpans.{CellSpan, cell_span, starts_end, starts_single, several_noted, starts_several, values_few, widths_few}
use Rattle.assignments.proofs.finding.cell_start.Goals as goal
use Rattle.assignments.proofs.finding.cell_start.Goals.{After-span_at-s}

here : (c : After-span_at-s) → CellSpan c.span_at-s.result c.args.i c.args.o
here c = cell_span c.requires.4 c.span_at-s.ensures

pub overflow_sub-values : goal.overflow_sub-values
overflow_sub-values c = omega (arith, (here (goal.at.overflow_sub-values c).After-span_at-s).occurrences.0)

pub overflow_sub-values-2 : goal.overflow_sub-values-2
overflow_sub-values-2 c = omega (arith, (here (goal.at.overflow_sub-values-2 c).After-span_at-s).values.1)

pub overflow_mul-values : goal.overflow_mul-values
overflow_mul-values c = omega (arith, values_few (here (goal.at.overflow_mul-values c).After-span_at-s))

pub values_end-requires : goal.values_end-requires
values_end-requires c = (single_starts c.requires.4, ((field_at c.requires.0 c.args.i).format, starts_end c.requires.4 c.span_at-s.ensures c.if-s.true))

pub returns-then-s : goal.returns-then-s
returns-then-s c es f count ws b = starts_single b c.span_at-s.ensures c.if-s.true c.values_end.result (c.values_end.ensures (field_at es c.args.i).format)

pub bounds-list-s : goal.bounds-list-s
bounds-list-s c =
    let h = here (goal.at.bounds-list-s c).After-span_at-s in
    omega (arith, h.entries.0, h.entries.1, h.entries.2, c.requires.4.indexed.listed.room)

pub bounds-list-s-2 : goal.bounds-list-s-2
bounds-list-s-2 c = omega (arith, (here (goal.at.bounds-list-s-2 c).After-span_at-s).entries.2, c.requires.4.indexed.listed.room)

pub overflow_sub-width : goal.overflow_sub-width
overflow_sub-width c =
    let w = several_noted c.requires.4 c.span_at-s.ensures c.if-s.false in
    omega (arith, w.0, w.1)

pub overflow_mul-result : goal.overflow_mul-result
overflow_mul-result c =
    let w = c.type_inv.list (widths_from + c.span_at-s.result.end) in
    omega (arith, widths_few (here (goal.at.overflow_mul-result c).After-span_at-s) (width_noted c.args.list.now c.span_at-s.result.end - width_noted c.args.list.now c.span_at-s.result.first) (omega (arith, w)))

pub overflow_add-result : goal.overflow_add-result
overflow_add-result c =
    let w = c.type_inv.list (widths_from + c.span_at-s.result.end) in
    let a = c.type_inv.list (note_place c.args.n) in
    omega (arith, a, widths_few (here (goal.at.overflow_add-result c).After-span_at-s) (width_noted c.args.list.now c.span_at-s.result.end - width_noted c.args.list.now c.span_at-s.result.first) (omega (arith, w)))

pub overflow_sub-result : goal.overflow_sub-result
overflow_sub-result c = omega (arith, (several_noted c.requires.4 c.span_at-s.ensures c.if-s.false).0)

pub overflow_add-result-3 : goal.overflow_add-result-3
overflow_add-result-3 c =
    let w = c.type_inv.list (widths_from + c.span_at-s.result.end) in
    let w₂ = c.type_inv.list (widths_from + c.args.i) in
    let a = c.type_inv.list (note_place c.args.n) in
    omega (arith, a, w₂, widths_few (here (goal.at.overflow_add-result-3 c).After-span_at-s) (width_noted c.args.list.now c.span_at-s.result.end - width_noted c.args.list.now c.span_at-s.result.first) (omega (arith, w)))

pub returns : goal.returns
returns c es f count ws b = starts_several b c.span_at-s.ensures c.if-s.false
