-- `records::places::piece_outside` meets its contract: what stands from the first entry on is the fields' values, and then what stands from the end on.
use native.Mathlib.Omega.{arith}
use Rattle.tables.proofs.Tables.{valid_names}
use Rattle.records.proofs.Pieces.{piece_stands}
use Rattle.records.proofs.places.piece_outside.Goals as goal

pub part_start-from-requires : goal.part_start-from-requires
part_start-from-requires c = (c.requires.0, omega (arith, c.requires.1, c.requires.2), c.requires.4)

pub part_start-requires : goal.part_start-requires
part_start-requires c = (c.requires.0, c.requires.2, c.requires.4)

pub returns : goal.returns
returns c r held =
    let a = c.args in
    piece_stands held (valid_names a.t.now c.requires.0) a.first a.end c.requires.1 c.requires.2 c.requires.3 c.part_start-from.result c.part_start.result c.part_start-from.ensures.0 c.part_start-from.ensures.1 c.part_start.ensures.0 c.part_start.ensures.1
