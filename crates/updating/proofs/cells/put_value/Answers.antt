-- `updating::cells::put_value` meets its contract: it puts the bytes on the stage, or the value as it was.
use mathlib.Core.Path.{sym, ap}
use mathlib.Core.Option.{Option}
use Prim.Native.Nat.{◌-◌}
use Rattle.rules.specs.Lists.{Bytes}
use Rattle.value_formats.specs.Formats.{format_at}
use Rattle.updating.specs.New.{taken}
use Rattle.updating.proofs.OldValues.{filling_as, stands_there, stands_none}
use Rattle.updating.proofs.cells.put_value.Goals as goal

pub put_stored-requires : goal.put_stored-requires
put_stored-requires c =
    let a = c.args in
    let (v, e, w) = stands_there a.stage.now (format_at a.format) a.size c.requires.1.0 a.staged c.requires.1.1 c.if-staged-gt0.true in
    ((format_at a.format, v, w), c.requires.3)

pub returns-then-staged-gt0 : goal.returns-then-staged-gt0
returns-then-staged-gt0 c o v t w =
    let a = c.args in
    let (x, e, k) = stands_there a.stage.now (format_at a.format) a.size o a.staged t c.if-staged-gt0.true in
    filling_as (a.end - a.at) (c.put_stored.ensures (format_at a.format) x k) (sym (ap (λ (z : Option Bytes). taken z v) e))

pub returns : goal.returns
returns c o v t w =
    let a = c.args in
    filling_as (a.end - a.at) (c.put_old.ensures v w) (sym (ap (λ (z : Option Bytes). taken z v) (stands_none a.stage.now (format_at a.format) a.size o a.staged t c.if-staged-gt0.false)))
