-- `lyrecanyon::update` meets its contract: the record that was made within its own limit is lent within the room.
use lib.ListN.{length}
use Rattle.lyrecanyon.proofs.Updates.{update_lent, settled_as}
use Rattle.lyrecanyon.proofs.update.Goals as goal

pub returns : goal.returns
returns c =
    let a = c.args in
    settled_as _ _ c.lend.result (update_lent a.table.now a.stored.now a.format.now a.buffer.now (length a.room.now)) (c.lend.ensures _ c.make-answer.ensures)
