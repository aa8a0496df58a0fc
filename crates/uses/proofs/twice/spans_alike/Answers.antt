-- `uses::twice::spans_alike` meets its contract: both pairs of ranges meet, and then the fields do.
use mathlib.Core.Path.{sym, ◌∙◌}
use mathlib.Core.Bool.{false≢true}
use Rattle.uses.proofs.Sharing.{ranges_meet, values_apart, occurrences_apart}
use Rattle.uses.proofs.twice.spans_alike.Goals as goal
use Rattle.uses.proofs.twice.spans_alike.Goals.{then-meet, else-meet}

pub returns-then-meet-2 : goal.returns-then-meet-2
returns-then-meet-2 c = elim c.if-meet.branch [
  | then-meet w ↦ ranges_meet c.requires.1 c.requires.2 c.meet.ensures w.if-meet.true w.meet-then-meet.ensures (sym w.value-is ∙ c.if-meet-2.true) c.share_entries.ensures
  | else-meet w ↦ absurd (false≢true (sym w.if-meet.false ∙ sym w.value-is ∙ c.if-meet-2.true))
]

pub returns-else-meet-2 : goal.returns-else-meet-2
returns-else-meet-2 c = rw c.if-meet-2.false (elim c.if-meet.branch [
  | then-meet w ↦ values_apart c.requires.1 c.requires.2 w.meet-then-meet.ensures (sym w.value-is ∙ c.if-meet-2.false)
  | else-meet w ↦ occurrences_apart c.requires.1 c.requires.2 c.meet.ensures w.if-meet.false
])
