-- `taking::value::stage_value` meets its contract: the value comes to the stage, or it is only tested, or it is refused.
use mathlib.Core.Path.{ap, ◌∙◌}
use Rattle.std.specs.Prelude.{Err}
use mathlib.Core.Logic.{inl, inr}
use mathlib.Core.List.{List}
use Prim.Native.Nat.{◌-◌}
use native.Mathlib.Omega.{arith}
use lib.ListN.{take, drop}
use Rattle.rules.specs.Table.{Entry}
use Rattle.taking.specs.Taking.{RoomEnough, Gives}
use Rattle.taking.proofs.Finding.{value_place}
use Rattle.filling.proofs.Beyond.{not_beyond}
use Rattle.taking.proofs.Staging.{Begins, begins_at, begins_inside, Puts, stage_beyond, stage_refused, stage_tested, stage_on}
use borrow.Author.Rules.{rules}
use Rattle.taking.proofs.value.stage_value.Goals as goal
use Rattle.taking.proofs.value.stage_value.Goals.{then-s, else-s, After-put_given, Joined-s}

begun : (c : Joined-s) → Begins c.args.s c.if-s.to
begun c = begins_at (elim c.if-s.branch [ then-s w ↦ inl (w.if-s.true, w.to-is) | else-s w ↦ inr (w.if-s.false, w.to-is) ])

-- What was put, for whatever entries there are.
puts : (c : After-put_given) (es : List Entry) → let a = c.args in
    Gives es a.g → RoomEnough a.list.now a.stage.now
    → Puts es a.buffer.now a.g (take (a.next - a.from) (drop a.from a.buffer.now)) a.next a.s a.list.now a.stage.now c.if-s.to
puts c es gives room =
    let a = c.args in
    let l = value_place a.buffer.now a.g a.s.at a.from a.next c.requires.0 in
    record { gives = gives; less = l.2; within = l.1; room = room; begins = begins_at (elim c.if-s.branch [ then-s w ↦ inl (w.if-s.true, w.to-is) | else-s w ↦ inr (w.if-s.false, w.to-is) ]) }

pub put_given-requires : goal.put_given-requires
put_given-requires c = ((c.requires.5.0, c.requires.5.1), c.requires.0, begins_inside c.requires.5.2.1.1 (begun (goal.at.put_given-requires c).Joined-s))

pub returns-in-Ok : goal.returns-in-Ok
returns-in-Ok c es gives room = rw c.without_room-in-Ok.ensures (stage_tested (puts (goal.at.returns-in-Ok c).After-put_given es gives room) c.put_given.ensures _ _ _ c.if-s-2.true c.in-Ok.is)

pub returns-in-Err-BeyondBuffer : goal.returns-in-Err-BeyondBuffer
returns-in-Err-BeyondBuffer c es gives room = rw c.without_room.ensures (stage_beyond (puts (goal.at.returns-in-Err-BeyondBuffer c).After-put_given es gives room) c.put_given.ensures _ _ (c.in-Err-BeyondBuffer.is ∙ ap Err c.in-Err-BeyondBuffer.field-0-is))

pub returns-in-Err : goal.returns-in-Err
returns-in-Err c es gives room = stage_refused (puts (goal.at.returns-in-Err c).After-put_given es gives room) c.put_given.ensures _ _ _ (not_beyond c.in-Err.x (search rules)) c.in-Err.is

pub returns-in-Ok-2 : goal.returns-in-Ok-2
returns-in-Ok-2 c es gives room = stage_on (puts (goal.at.returns-in-Ok-2 c).After-put_given es gives room) c.put_given.ensures _ _ _ c.if-s-2.false c.in-Ok.is c.note.ensures (omega (arith, c.requires.5.1.entry, c.requires.5.2.1.1.entries))
