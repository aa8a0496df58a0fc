-- `lyrecanyon::read_short` meets its contract: what is made in the work area is put to the buffer, a refusal there is the buffer's unless for want of room, and then the rest is left to `read_long`.
use mathlib.Core.Path.{sym, ◌∙◌}
use mathlib.Core.Bool.{false≢true}
use Prim.Native.Nat.{◌≤◌}
use native.Mathlib.Omega.{arith}
use lib.Seq.{length-take-le}
use Rattle.filling.proofs.Beyond.{not_beyond}
use Rattle.lyrecanyon.proofs.Readings.{Ready, all_refused, less_refused, made_within, short_read}
use Rattle.lyrecanyon.proofs.read_short.Goals as goal
use Rattle.lyrecanyon.proofs.read_short.Goals.{After-scan, In-Ok, else-room-end-via-then-room-end+else-eq, else-room-end-via-else-room-end}

ready : (c : After-scan)
    → Ready c.args.table.now c.args.stored.now c.args.places.now c.args.format.now c.args.buffer.now c.min-end.result
ready c = record { valid = c.requires.0; holds = c.requires.1; room = c.min-end.ensures }

less : (c : After-scan) → c.min-room.result ≤ c.min-end.result
less c = omega (arith, c.min-room.ensures)

-- What is made ends within the area and within the buffer.
within : (c : In-Ok) → c.in-Ok.made ≤ c.min-room.result
within c = made_within (ready (goal.at.slice_bounds-put-end c).After-scan) _ c.scan.ensures c.in-Ok.is

pub slice_bounds-put-end : goal.slice_bounds-put-end
slice_bounds-put-end c = omega (arith, within c, c.min-room.ensures, c.area-1.given)

pub slice_bounds-put-end-in-Ok : goal.slice_bounds-put-end-in-Ok
slice_bounds-put-end-in-Ok c = sym (length-take-le _ _ (slice_bounds-put-end c))

pub put-requires : goal.put-requires
put-requires c =
    let d = goal.at.put-requires c in
    omega (arith, slice_bounds-put-end-in-Ok d.In-Ok, within d.In-Ok, less d.After-scan, (ready d.After-scan).room)

pub returns-in-Ok : goal.returns-in-Ok
returns-in-Ok c =
    let d = (goal.at.returns-in-Ok c).After-scan in
    short_read (ready d) _ c.scan.ensures c.in-Ok.is (less d) c.put.ensures.1

-- The area is as long as the buffer has room, or the refusal is another.
pub returns-else-room-end : goal.returns-else-room-end
returns-else-room-end c =
    let d = (goal.at.returns-else-room-end c).After-scan in
    elim c.else-room-end.branch [
      | else-room-end-via-then-room-end+else-eq w ↦ less_refused (ready d) _ c.scan.ensures c.in-Err.is (less d) (not_beyond c.in-Err.x (λ e. false≢true (sym w.if-eq.false ∙ (rw e at w.eq.ensures))))
      | else-room-end-via-else-room-end w ↦ all_refused (ready d) _ c.scan.ensures c.in-Err.is (omega (arith, less d, w.if-room-end.false))
    ]
