-- `protocol::take_three` meets its contract: each word is taken where the one before it ends.
use Rattle.protocol.proofs.ThreeWords.{takes_three}
use Rattle.protocol.proofs.take_three.Goals as goal

pub returns : goal.returns
returns c = takes_three _ _ _ _ _ _ _ _ c.requires.1 c.take_bytes-first.ensures c.take_bytes-second.ensures c.take_bytes-third.ensures
