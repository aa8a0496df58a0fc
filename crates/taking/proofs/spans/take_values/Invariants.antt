-- `taking::spans::take_values` meets its contract: the values that are left give what all of them give from the start.
use mathlib.Core.List.{List, [], ◌∷◌}
use Rattle.rules.specs.Table.{Entry}
use Rattle.rules.specs.Use.{value_items, just}
use Rattle.rules.proofs.Ranges.{from_to}
use Rattle.taking.specs.Taking.{RoomEnough, Gives, asked_given}
use Rattle.taking.proofs.Turns.{TakenOn}
use Rattle.taking.proofs.spans.take_values.Given as goal

abbrev pub invariant-loop-k : goal.invariant-loop-k
invariant-loop-k l =
    (es : List Entry) → Gives es l.g → RoomEnough l.initial.list l.initial.stage
    → TakenOn es l.buffer (value_items (asked_given es l.g ∷ []) (just l.o) (from_to l.first l.last) l.g.bare)
    (value_items (asked_given es l.g ∷ []) (just l.o) (from_to l.k l.last) l.g.bare) l.initial.state l.state l.initial.list l.list l.initial.stage l.stage
