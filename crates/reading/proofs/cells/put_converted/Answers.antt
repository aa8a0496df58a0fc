use Rattle.std.proofs.Common.{rules}
use mathlib.Core.Path.{refl}
use mathlib.Core.List.{List}
use Prim.Native.Nat.{◌+◌, ◌-◌}
use Rattle.rules.specs.Lists.{Bytes}
use Rattle.reading.specs.Cells.{Stand}
use Rattle.reading.proofs.Converting.{Ahead, convert_ahead, convert_none, value_asked, convert_on, convert_off, convert_end}
use Rattle.reading.proofs.Passing.{handed_on, err_made, ok_kept}
use Rattle.reading.proofs.cells.put_converted.Goals as goal
use Rattle.reading.proofs.cells.put_converted.Goals.{In_ok-start}

-- The value that was found is the first of those that are left.
ahead : (c : In_ok-start) (us : List Bytes) (t : Stand c.args.w c.args.b.now c.args.from c.args.n us)
    → Ahead c.args.w c.args.b.now (c.loop.invariant us t).left (c.args.n - (c.loop.counter + 1)) c.in_ok-start.start c.in_ok-start.next
ahead c us t = convert_ahead c.requires.0 (c.loop.invariant us t) c.loop-test.true c.in_ok-start.ensures refl

pub first_value-requires : goal.first_value-requires
first_value-requires c = (c.loop.invariant c.requires.2.0 c.requires.2.1).place

pub returns-in_err-start : goal.returns-in_err-start
returns-in_err-start c us t = absurd (convert_none c.requires.0 (c.loop.invariant us t) c.loop-test.true c.in_err-start.ensures refl)

pub put_value-requires : goal.put_value-requires
put_value-requires c =
    let g = c.loop.invariant c.requires.2.0 c.requires.2.1 in
    (value_asked c.requires.0 g (ahead (goal.at.put_value-requires c).In_ok-start c.requires.2.0 c.requires.2.1), c.requires.0.converts, (g.fits, g.room))

pub map_err-requires : goal.map_err-requires
map_err-requires c =
    let x = value_asked c.requires.0 (c.loop.invariant c.requires.2.0 c.requires.2.1) (ahead (goal.at.map_err-requires c).In_ok-start c.requires.2.0 c.requires.2.1) in
    search (rules, c.requires.0.converts)

pub returns-in_err-p : goal.returns-in_err-p
returns-in_err-p c us t =
    let e = err_made _ c.put_value.result c.map_err.ensures.cases _ c.in_err-p.was in
    rw (handed_on c.from_residual-in_err-p.result c.from_residual-in_err-p.ensures.1)
    (convert_off c.requires.0 (c.loop.invariant us t) (ahead (goal.at.returns-in_err-p c).In_ok-start us t) c.put_value.ensures e.1 c.in_err-p.field-0.0 (let z = e.2 in search rules))

pub loop-preserved : goal.loop-preserved
loop-preserved c us t = convert_on c.requires.0 (c.loop.invariant us t) (ahead (goal.at.loop-preserved c).In_ok-start us t) c.put_value.ensures _ (ok_kept _ c.put_value.result c.map_err.ensures.cases _ c.in_ok-p.was)

pub returns : goal.returns
returns c us t = convert_end c.requires.0 (c.loop.invariant us t) c.loop-test.false
