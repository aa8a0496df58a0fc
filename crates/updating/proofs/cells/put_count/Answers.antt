-- `updating::cells::put_count` meets its contract: a count is one byte.
use mathlib.Core.Bool.{true}
use mathlib.Core.Path.{refl}
use Prim.Native.Nat.{◌-◌}
use native.Mathlib.Omega.{arith}
use Rattle.rules.specs.Record.{count_bytes}
use Rattle.filling.proofs.Singles.{item_beyond, item_written}
use Rattle.updating.proofs.cells.put_count.Goals as goal

pub returns-then-end-at-lt-COUNT_SIZE : goal.returns-then-end-at-lt-COUNT_SIZE
unfolding count_bytes
returns-then-end-at-lt-COUNT_SIZE c = let a = c.args in item_beyond (a.end - a.at) a.at (count_bytes a.n) a.out.now true (omega arith)

pub returns : goal.returns
unfolding count_bytes
returns c =
    let a = c.args in
    item_written (a.end - a.at) a.at (count_bytes a.n) a.out.now true c.put_count.result refl (omega arith) (omega arith) c.put_count.ensures.0 c.put_count.ensures.1
