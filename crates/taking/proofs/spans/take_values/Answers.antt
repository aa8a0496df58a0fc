use mathlib.Core.List.{List, [], ◌∷◌}
use Prim.Native.Nat.{◌+◌}
use native.Mathlib.Omega.{arith}
use Rattle.std.proofs.lemmas.Result.{err_from_is_err_and}
use Rattle.rules.specs.Table.{Entry}
use Rattle.rules.specs.Use.{value_items, just}
use Rattle.rules.proofs.Ranges.{from_to, item_at, first_value_item, no_value}
use Rattle.taking.specs.Taking.{RoomEnough, Gives, asked_given}
use Rattle.taking.proofs.Turns.{TakenOn, turn_roomy, turn_on, turn_off, turn_end}
use Rattle.taking.proofs.spans.take_values.Goals as goal
use Rattle.taking.proofs.spans.take_values.Goals.{In_ok-next}

pub returns-in_err-next : goal.returns-in_err-next
returns-in_err-next c es gives room =
    let a = c.args in
    let d = c.loop-k.invariant es gives room in
    let p = err_from_is_err_and c.from_residual.result c.from_residual.ensures.1 in
    rw (p.1, p.2)
    (turn_off d (item_at a.g.bare (asked_given es a.g) a.o c.loop-k.k ∷ [])
    (value_items (asked_given es a.g ∷ []) (just a.o) (from_to (c.loop-k.k + 1) a.last) a.g.bare) _ _
    (first_value_item (asked_given es a.g) a.o a.g.bare c.loop-k.k a.last (omega arith))
    c.in_err-next.was
    (c.take_value.ensures es gives (turn_roomy d room)))

-- The value was taken.
on : (c : In_ok-next) (es : List Entry) → let a = c.args in Gives es a.g → RoomEnough a.list.now a.stage.now
    → TakenOn es a.buffer.now (value_items (asked_given es a.g ∷ []) (just a.o) (from_to a.first a.last) a.g.bare)
    (value_items (asked_given es a.g ∷ []) (just a.o) (from_to (c.loop-k.k + 1) a.last) a.g.bare) a.s c.in_ok-next.next a.list.now c.take_value.new.list a.stage.now c.take_value.new.stage
on c es gives room =
    let a = c.args in
    let d = c.loop-k.invariant es gives room in
    turn_on d (item_at a.g.bare (asked_given es a.g) a.o c.loop-k.k ∷ []) _ _ _
    (first_value_item (asked_given es a.g) a.o a.g.bare c.loop-k.k a.last (omega arith))
    c.in_ok-next.was
    (c.take_value.ensures es gives (turn_roomy d room))

pub loop-k-preserved : goal.loop-k-preserved
loop-k-preserved c = on (goal.at.loop-k-preserved c).In_ok-next

pub returns-in_ok-next : goal.returns-in_ok-next
returns-in_ok-next c es gives room =
    let a = c.args in
    turn_end (on (goal.at.returns-in_ok-next c).In_ok-next es gives room) (no_value (asked_given es a.g) a.o a.g.bare (c.loop-k.k + 1) a.last (omega arith))

pub returns : goal.returns
returns c es gives room =
    let a = c.args in
    turn_end (c.loop-k.invariant es gives room) (no_value (asked_given es a.g) a.o a.g.bare c.loop-k.k a.last (omega arith))
