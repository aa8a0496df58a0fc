-- `decimals::is_value` meets its contract: the bytes before the last, and the last.
use mathlib.Core.Path.{sym, ◌∙◌}
use Rattle.decimals.proofs.Meanings.{value_is}
use Rattle.decimals.proofs.is_value.Goals as goal

pub returns-then-all_inner : goal.returns-then-all_inner
returns-then-all_inner c =
    let p = c.in-Some in
    sym (value_is c.args.packed c.args.s.now p.front.now p.last.now p.ensures.cases.0 ∙ rw (← c.all_inner.ensures, c.if-all_inner.true, ← c.last_byte.ensures))

pub returns-else-all_inner : goal.returns-else-all_inner
returns-else-all_inner c =
    let p = c.in-Some in
    sym (value_is c.args.packed c.args.s.now p.front.now p.last.now p.ensures.cases.0 ∙ rw (← c.all_inner.ensures, c.if-all_inner.false))
