use mathlib.Core.Path.{refl}
use Prim.Native.Nat.{◌+◌}
use native.Mathlib.Omega.{arith}
use Rattle.tables.specs.Entries.{entries_of}
use Rattle.reading.specs.Spans.{occurrence_items, span_items, Way}
use Rattle.reading.proofs.Running.{Running, run_on, run_off, run_end}
use Rattle.reading.proofs.Passing.{handed_on}
use Rattle.reading.proofs.Pieces.{way}
use Rattle.reading.proofs.SpanItems.{bounds}
use Rattle.reading.proofs.Adjacents.{rows_first, rows_none, rows_begun, rows_refused}
use Rattle.reading.proofs.spans.put_occurrences.Goals as goal
use Rattle.reading.proofs.spans.put_occurrences.Goals.{After-adjacent_count-n, In_ok-p-2}

-- The way to the span, and its width.
known : (c : After-adjacent_count-n) → Way (entries_of c.args.t.now) c.args.s c.path_to-path.result c.width-width.result
known c = way (entries_of c.args.t.now) c.args.s c.requires.1 c.requires.2 c.path_to-path.result c.width-width.result c.path_to-path.ensures.0 c.path_to-path.ensures.1 c.width-width.ensures

pub put_adjacent-requires : goal.put_adjacent-requires
put_adjacent-requires c = (c.requires.0, c.requires.1, c.requires.2, known (goal.at.put_adjacent-requires c).After-adjacent_count-n, c.adjacent_count-n.ensures, c.requires.3, c.requires.4)

pub returns-in_err-p : goal.returns-in_err-p
returns-in_err-p c =
    rw (handed_on c.from_residual.result c.from_residual.ensures.1)
    (rows_refused c.requires.1 _ c.adjacent_count-n.ensures.upto c.requires.3 c.requires.4.0 c.requires.4.1 c.in_err-p.ensures _ refl)

pub overflow_step-o : goal.overflow_step-o
overflow_step-o c = let u = bounds c.args.s.from c.args.s.upto c.requires.1.occurrences in omega (arith, u.2, c.adjacent_count-n.ensures.upto)

pub loop-o-init : goal.loop-o-init
loop-o-init c = rows_begun c.requires.1 _ c.adjacent_count-n.ensures.upto c.requires.3 c.requires.4.0 c.requires.4.1 c.in_ok-p.ensures _ refl

pub put_occurrence-requires : goal.put_occurrence-requires
put_occurrence-requires c = (
  c.requires.0,
  c.requires.1,
  c.requires.2,
  known (goal.at.put_occurrence-requires c).After-adjacent_count-n,
  omega (arith, (bounds c.args.s.from c.args.s.upto c.requires.1.occurrences).0, c.loop-o.auto.o),
  omega (arith, c.loop-o-test.true),
  c.requires.3,
  (c.loop-o.invariant.fits, c.loop-o.invariant.room),
)

pub returns-in_err-p-2 : goal.returns-in_err-p-2
returns-in_err-p-2 c =
    let a = c.args in
    let es = entries_of a.t.now in
    rw (handed_on c.from_residual-in_err-p-2.result c.from_residual-in_err-p-2.ensures.1)
    (run_off c.loop-o.invariant (λ r. occurrence_items es a.s c.loop-o.o) (λ r. span_items es a.s (c.loop-o.o + 1)) (λ r. rows_first es a.s c.loop-o.o a.s.upto (omega arith)) c.in_err-p-2.ensures _ refl)

-- One occurrence more is put.
turned : (c : In_ok-p-2) → let es = entries_of c.args.t.now in let s = c.args.s in
    Running es c.args.b.now c.args.places.now c.args.end (λ r. span_items es s s.from) (λ r. span_items es s (c.loop-o.o + 1)) c.args.at c.in_ok-p-2.p c.args.write c.args.out.now c.put_occurrence.new.out
turned c =
    let s = c.args.s in
    let es = entries_of c.args.t.now in
    run_on c.loop-o.invariant (λ r. occurrence_items es s c.loop-o.o) (λ r. span_items es s (c.loop-o.o + 1)) (λ r. rows_first es s c.loop-o.o s.upto (omega arith)) c.in_ok-p-2.ensures _ refl

pub loop-o-preserved : goal.loop-o-preserved
loop-o-preserved c = turned (goal.at.loop-o-preserved c).In_ok-p-2

pub returns-in_ok-p : goal.returns-in_ok-p
returns-in_ok-p c = let l = c.loop-o-test.false in run_end c.loop-o.invariant (λ r. rows_none (entries_of c.args.t.now) c.args.s c.loop-o.o c.args.s.upto (omega arith))
