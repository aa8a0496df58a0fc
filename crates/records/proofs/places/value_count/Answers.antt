-- `records::places::value_count` meets its contract: the count stands at the cell's place.
use Rattle.std.specs.Prelude.{Some}
use mathlib.Core.Path.{◌∙◌, subst}
use native.Mathlib.Omega.{arith}
use lib.ListN.{get_or}
use Rattle.rules.specs.Record.{Record}
use Rattle.tables.specs.Entries.{entries_of, blank}
use Rattle.records.specs.Places.{IsRecord, CellOf}
use Rattle.records.proofs.Placed.{multiple_field, values_counted, values_none}
use Rattle.records.proofs.places.value_count.Goals as goal
use Rattle.records.proofs.places.value_count.Goals.{In-Some}

pub cell_at-requires : goal.cell_at-requires
cell_at-requires c = (c.requires.0, c.requires.1, multiple_field (get_or (entries_of c.args.t.now) c.args.i blank).what c.requires.2, c.requires.3, c.requires.4, c.requires.5)

-- The cell of the field in a record.
cell : (c : In-Some) (r : Record) → IsRecord (entries_of c.args.t.now) c.args.b.now c.args.places.now r
    → CellOf (entries_of c.args.t.now) c.args.b.now c.args.i c.args.o r (Some c.in-Some.p)
cell c r held =
    let a = c.args in
    subst (CellOf (entries_of a.t.now) a.b.now a.i a.o r) c.in-Some.is (c.cell_at.ensures r held)

pub count_at-requires : goal.count_at-requires
count_at-requires c = (values_counted (entries_of c.args.t.now) c.args.b.now c.args.i c.args.o c.requires.5.0 c.requires.2 _ (cell c c.requires.5.0 c.requires.5.1)).0

pub returns-in-Some : goal.returns-in-Some
returns-in-Some c = (c.count_at.ensures.1, λ r held. c.count_at.ensures.0 ∙ (values_counted (entries_of c.args.t.now) c.args.b.now c.args.i c.args.o r c.requires.2 _ (cell (goal.at.returns-in-Some c).In-Some r held)).1)

pub returns-in-None : goal.returns-in-None
returns-in-None c =
    let es = entries_of c.args.t.now in
    (omega arith, λ r held. values_none es c.args.b.now c.args.i c.args.o r (subst (CellOf es c.args.b.now c.args.i c.args.o r) c.in-None.is (c.cell_at.ensures r held)))
