-- `format_buffer::pieces::name_of` meets its contract: it computes as the definition does.
use Rattle.rules.specs.Table.{name_of}
use Rattle.format_buffer.proofs.pieces.name_of.Goals as goal

pub returns : goal.returns
unfolding name_of
returns c = c.from_be_bytes.ensures
