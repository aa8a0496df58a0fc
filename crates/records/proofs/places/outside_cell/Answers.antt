-- `records::places::outside_cell` meets its contract: a field outside periodic groups has its cell at its own place.
use mathlib.Core.Path.{refl}
use native.Mathlib.Omega.{arith}
use Rattle.tables.proofs.Tables.{valid_most, valid_names}
use Rattle.records.proofs.Placed.{cell_outside}
use Rattle.records.proofs.places.outside_cell.Goals as goal

pub place_of-requires : goal.place_of-requires
place_of-requires c = omega (arith, valid_most c.args.t.now c.requires.0, c.requires.1)

pub returns : goal.returns
returns c r held =
    let a = c.args in
    rw c.place_of.ensures.0 (cell_outside held (valid_names a.t.now c.requires.0) a.i 1 c.requires.1 c.requires.2 c.requires.3 refl)
