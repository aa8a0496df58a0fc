use mathlib.Core.Path.{◌≡◌, ap}
use native.Mathlib.Omega.{arith}
use lib.ListN.{length, drop, length-append}
use Rattle.tables.specs.Entries.{entries_of, blank}
use Rattle.records.specs.Empty.{empty_from}
use Rattle.records.proofs.EmptyEntries.{empty_turn, empty_over}
use Rattle.records.proofs.empty.empty_length.Goals as goal

pub loop-i-preserved : goal.loop-i-preserved
loop-i-preserved c =
    let es = entries_of c.args.t.now in
    let t = rw (← c.inside_next-inside.ensures, length-append) at
    (ap length (empty_turn c.loop-i.inside es c.loop-i.i blank (omega arith))) in
    (omega arith, omega arith)

pub returns : goal.returns
returns c =
    let es = entries_of c.args.t.now in
    let z : length (empty_from c.loop-i.inside (drop c.loop-i.i es)) ≡ 0 = ap length (empty_over c.loop-i.inside es c.loop-i.i (omega arith)) in
    omega arith
