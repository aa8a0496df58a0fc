use Rattle.std.proofs.lemmas.Result.{err_from_is_err_and}
use mathlib.Core.Path.{◌≡◌, ap}
use Prim.Native.Nat.{suc, ◌+◌, ◌-◌}
use native.Mathlib.Omega.{arith}
use lib.ListN.{drop}
use Rattle.tables.specs.Entries.{entries_of}
use Rattle.updating.specs.Laid.{occurrences_laid}
use Rattle.updating.proofs.Turns.{occurrences_over}
use Rattle.updating.proofs.Laying.{lay_start, lay_past, lay_on, lay_off, lay_end}
use Rattle.updating.proofs.Left.{occurrence_added, occurrences_left, occurrence_first}
use Rattle.updating.proofs.members.put_occurrences.Goals as goal

pub loop-o-init : goal.loop-o-init
loop-o-init c =
    let a = c.args in
    let es = entries_of a.t.now in
    let e : a.n ≡ suc a.n - 1 = omega arith in
    (omega arith, lay_past (lay_start (λ w r. occurrences_laid w (drop (a.g + 1) es) 1 a.n) c.requires.5 c.requires.6.0 c.requires.6.1) (occurrences_left es a.g a.n 1) (λ w r. ap (occurrences_laid w (drop (a.g + 1) es) 1) e))

pub put_occurrence-requires : goal.put_occurrence-requires
put_occurrence-requires c = (c.requires.0, c.requires.1, c.requires.2, (c.requires.3, c.loop-o.invariant.0, omega (arith, c.loop-o-test.true, c.requires.4), c.requires.5, (c.loop-o.invariant.1.fits, c.loop-o.invariant.1.room)))

pub returns-in_err-p : goal.returns-in_err-p
returns-in_err-p c =
    let es = entries_of c.args.t.now in
    let g = c.args.g in
    let n = c.args.n in
    let o = c.loop-o.o in
    let p = err_from_is_err_and c.from_residual.result c.from_residual.ensures.1 in
    rw (p.1, p.2) (lay_off c.loop-o.invariant.1 (occurrence_added es g o) (occurrences_left es g n (o + 1)) (occurrence_first es g n o c.loop-o-test.true) c.put_occurrence.ensures _ c.in_err-p.was)

pub loop-o-preserved : goal.loop-o-preserved
loop-o-preserved c =
    let es = entries_of c.args.t.now in
    let g = c.args.g in
    let n = c.args.n in
    let o = c.loop-o.o in
    (omega arith, lay_on c.loop-o.invariant.1 (occurrence_added es g o) (occurrences_left es g n (o + 1)) (occurrence_first es g n o c.loop-o-test.true) c.put_occurrence.ensures _ c.in_ok-p.was)

pub returns : goal.returns
returns c = lay_end c.loop-o.invariant.1 (λ w r. occurrences_over w (drop (c.args.g + 1) (entries_of c.args.t.now)) c.loop-o.o c.args.n (omega (arith, c.loop-o-test.false)))

pub returns-in_ok-p : goal.returns-in_ok-p
returns-in_ok-p c =
    let es = entries_of c.args.t.now in
    let g = c.args.g in
    let n = c.args.n in
    let o = c.loop-o.o in
    lay_end (lay_on c.loop-o.invariant.1 (occurrence_added es g o) (occurrences_left es g n (o + 1)) (occurrence_first es g n o c.loop-o-test.true) c.put_occurrence.ensures _ c.in_ok-p.was)
    (λ w r. occurrences_over w (drop (g + 1) es) (o + 1) n (omega arith))
