-- `uses::memory::remember_span` meets its contract: a span of one MU field sets its index, and no other does.
use mathlib.Core.Path.{sym, ◌∙◌}
use native.Mathlib.Omega.{arith}
use Rattle.uses.proofs.Remembering.{values_within, standard_remembered, single_remembered, last_remembered}
use Rattle.uses.proofs.memory.remember_span.Goals as goal
use Rattle.uses.proofs.memory.remember_span.Goals.{then-s-via-then-s, then-s-via-else-s+then-not-multiple_at}

pub returns-then-s : goal.returns-then-s
returns-then-s c = let a = c.args in elim c.then-s.branch [
  | then-s-via-then-s w ↦ standard_remembered a.t.now c.requires.0 a.s c.requires.1 a.scope a.last.now c.requires.2 w.if-s.true
  | then-s-via-else-s+then-not-multiple_at w ↦ single_remembered a.t.now c.requires.0 a.s c.requires.1 a.scope a.last.now c.requires.2 (sym w.multiple_at.ensures ∙ w.if-not-multiple_at.true)
]

pub overflow_cast-last-in-AsWritten : goal.overflow_cast-last-in-AsWritten
overflow_cast-last-in-AsWritten c = omega (arith, values_within _ c.args.s c.requires.1)

pub returns-in_default : goal.returns-in_default
returns-in_default c = let a = c.args in
    last_remembered a.t.now c.requires.0 a.s c.requires.1 a.scope a.last.now c.requires.2 c.if-s.false (sym c.multiple_at.ensures ∙ c.if-not-multiple_at.false) c.in_default.not-AsWritten
