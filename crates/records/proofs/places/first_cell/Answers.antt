-- `records::places::first_cell` meets its contract: no field stands before the first member of an occurrence.
use mathlib.Core.Path.{refl}
use native.Mathlib.Omega.{arith}
use Prim.Native.Nat.{◌+◌}
use lib.Seq.{slice_empty}
use Rattle.rules.specs.Record.{each}
use Rattle.tables.specs.Entries.{entries_of}
use Rattle.tables.specs.Groups.{fields_in}
use Rattle.tables.proofs.Tables.{valid_names}
use Rattle.records.proofs.Placed.{count_there}
use Rattle.records.proofs.places.first_cell.Goals as goal

pub returns-then-group_count-o : goal.returns-then-group_count-o
returns-then-group_count-o c r held = omega (arith, c.group_count.ensures.1 r held, c.if-group_count-o.true)

pub occurrence_at-requires : goal.occurrence_at-requires
occurrence_at-requires c =
    let a = c.args in (
      c.requires.0,
      c.requires.1,
      c.requires.2,
      c.requires.3,
      omega (arith, c.group_count.ensures.1 c.requires.4.0 c.requires.4.1, (count_there c.requires.4.1 (valid_names a.t.now c.requires.0) a.g c.requires.1 c.requires.2).1, c.if-group_count-o.false),
      c.requires.4,
    )

pub returns : goal.returns
unfolding each fields_in
returns c r held = (
  c.occurrence_at.result,
  record {
    many = omega (arith, c.group_count.ensures.1 r held, c.if-group_count-o.false);
    row = c.occurrence_at.ensures;
    before = rw (slice_empty (c.args.g + 1) (entries_of c.args.t.now)) (record { answer = refl; place = c.occurrence_at.ensures.place });
  },
)
