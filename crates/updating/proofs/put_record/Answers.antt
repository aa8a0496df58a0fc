use Rattle.std.proofs.lemmas.Result.{err_from_is_err_and}
use mathlib.Core.Path.{refl, sym, ◌∙◌, subst}
use mathlib.Core.Bool.{true, false}
use Prim.Native.Nat.{◌+◌, ◌-◌, ◌<◌}
use native.Mathlib.Omega.{arith}
use lib.ListN.{length}
use Rattle.rules.specs.Table.{parts}
use Rattle.rules.specs.Record.{record_head, group_count_at}
use Rattle.tables.specs.Entries.{entries_of}
use Rattle.filling.proofs.Singles.{item_written}
use Rattle.updating.specs.Laid.{entry_added, record_added}
use Rattle.updating.proofs.Turns.{entries_over}
use Rattle.updating.proofs.Laying.{Laying, lay_start, lay_on, lay_off, lay_end, lay_upto}
use Rattle.updating.proofs.Left.{entries_left, entry_first}
use Rattle.updating.proofs.Grouping.{Insides, insides_start, inside_here, insides_on}
use Rattle.updating.proofs.put_record.Goals as goal
use Rattle.updating.proofs.put_record.Goals.{After-put_head-p, In-loop-i}

headed : (c : After-put_head-p)
    → Laying (entries_of c.args.t.now) c.args.b.now c.args.places.now c.args.kept.now c.args.list.now c.args.stage.now (record_added (entries_of c.args.t.now)) (entries_left (entries_of c.args.t.now) false 0) 0 c.put_head-p.result (length c.args.out.now) c.args.out.now c.put_head-p.new.out
unfolding record_head
headed c =
    let es = entries_of c.args.t.now in
    lay_on (lay_start (record_added es) c.requires.1 (omega arith) (omega arith)) (λ w r. record_head) (entries_left es false 0) (λ w r. refl)
    (λ r ws p k. item_written (length c.args.out.now - 0) 0 record_head c.args.out.now true c.put_head-p.result refl (omega (arith, c.requires.2)) (omega (arith, c.requires.2)) c.put_head-p.ensures.0 c.put_head-p.ensures.1) _ refl

less : (c : In-loop-i) → c.loop-i.i < length (entries_of c.args.t.now)
less c = omega (arith, c.loop-i-test.true, c.count-i-end.ensures)

pub loop-i-init : goal.loop-i-init
loop-i-init c =
    let h = headed (goal.at.loop-i-init c).After-put_head-p in
    (insides_start (entries_of c.args.t.now), lay_start (entries_left (entries_of c.args.t.now) false 0) c.requires.1 h.fits h.room)

pub inside_next-inside-requires : goal.inside_next-inside-requires
inside_next-inside-requires c = (c.requires.0, less c)

pub put_entry-requires : goal.put_entry-requires
put_entry-requires c =
    let l = less (goal.at.put_entry-requires c).In-loop-i in
    (c.requires.0, l, c.inside_next-inside.ensures ∙ inside_here c.loop-i.invariant.0 l, c.requires.1, (c.loop-i.invariant.1.fits, c.loop-i.invariant.1.room))

pub returns-in_err-p : goal.returns-in_err-p
returns-in_err-p c =
    let d = goal.at.returns-in_err-p c in
    let es = entries_of c.args.t.now in
    let inside = c.inside_next-inside.result in
    let p = err_from_is_err_and c.from_residual.result c.from_residual.ensures.1 in
    rw (p.1, p.2) (lay_upto (headed d.After-put_head-p) c.requires.2 (lay_off c.loop-i.invariant.1 (entry_added es inside c.loop-i.i) (entries_left es inside (c.loop-i.i + 1)) (entry_first es c.loop-i.inside inside c.loop-i.i (less d.In-loop-i) c.inside_next-inside.ensures) c.put_entry.ensures _ c.in_err-p.was))

pub loop-i-preserved : goal.loop-i-preserved
loop-i-preserved c =
    let es = entries_of c.args.t.now in
    let inside = c.inside_next-inside.result in
    let l = less (goal.at.loop-i-preserved c).In-loop-i in (
      subst (Insides es (c.loop-i.i + 1)) (sym c.inside_next-inside.ensures) (insides_on c.loop-i.invariant.0 l),
      lay_on c.loop-i.invariant.1 (entry_added es inside c.loop-i.i) (entries_left es inside (c.loop-i.i + 1)) (entry_first es c.loop-i.inside inside c.loop-i.i l c.inside_next-inside.ensures) c.put_entry.ensures _ c.in_ok-p.was,
    )

pub returns : goal.returns
returns c =
    let es = entries_of c.args.t.now in
    lay_upto (headed (goal.at.returns c).After-put_head-p) c.requires.2
    (lay_end c.loop-i.invariant.1 (λ w r. entries_over w (group_count_at (parts es) r) c.loop-i.inside es c.loop-i.i (omega (arith, c.loop-i-test.false, c.count-i-end.ensures))))
