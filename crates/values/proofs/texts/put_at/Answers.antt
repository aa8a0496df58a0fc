-- `values::texts::put_at` meets its contract: a text that fits a length, and is filled to it, has its room.
use Rattle.values.proofs.Strip.{padded_room}
use Rattle.values.proofs.texts.put_at.Goals as goal

pub put_padded-requires : goal.put_padded-requires
put_padded-requires c = padded_room c.args.n c.args.t.now c.if-n-eq0.false c.requires.0 c.args.at _ c.requires.1
