-- `records::places::entry_in` meets its contract: the entry stands after the fields before it, from the place of the occurrence on.
use native.Mathlib.Omega.{arith}
use Prim.Native.Nat.{◌≤◌, ◌<◌}
use lib.ListN.{length, get_or}
use Rattle.rules.specs.Table.{parts}
use Rattle.rules.specs.Record.{Record, group_count_at}
use Rattle.tables.specs.Entries.{entries_of, blank}
use Rattle.tables.proofs.Tables.{valid_names}
use Rattle.records.specs.Places.{IsRecord}
use Rattle.records.proofs.Placed.{home_end, count_there, members_end}
use Rattle.records.proofs.places.entry_in.Goals as goal
use Rattle.records.proofs.places.entry_in.Goals.{After-occurrence_at-row}

pub group_count-requires : goal.group_count-requires
group_count-requires c = (c.requires.0, omega (arith, c.requires.1, c.requires.2), (c.requires.4.home c.requires.5).periodic, c.requires.6)

pub returns-then-group_count-o : goal.returns-then-group_count-o
returns-then-group_count-o c r held = omega (arith, c.group_count.ensures.1 r held, c.if-group_count-o.true)

pub occurrence_at-row-requires : goal.occurrence_at-row-requires
occurrence_at-row-requires c =
    let a = c.args in
    let home = c.requires.4.home c.requires.5 in
    let less : a.path.group < length (entries_of a.t.now) = omega (arith, c.requires.1, c.requires.2) in (
      c.requires.0,
      less,
      home.periodic,
      c.requires.3,
      omega (arith, c.group_count.ensures.1 c.requires.6.0 c.requires.6.1, (count_there c.requires.6.1 (valid_names a.t.now c.requires.0) a.path.group less home.periodic).1, c.if-group_count-o.false),
      c.requires.6,
    )

many : (c : After-occurrence_at-row) (r : Record) → IsRecord (entries_of c.args.t.now) c.args.b.now c.args.places.now r
    → c.args.o ≤ group_count_at (parts (entries_of c.args.t.now)) r (get_or (entries_of c.args.t.now) c.args.path.group blank).name
many c r held = omega (arith, c.group_count.ensures.1 r held, c.if-group_count-o.false)

pub place_in-requires : goal.place_in-requires
place_in-requires c =
    let a = c.args in
    let es = entries_of a.t.now in
    let home = c.requires.4.home c.requires.5 in
    let less : a.path.group < length es = omega (arith, c.requires.1, c.requires.2) in (
      c.requires.0,
      c.requires.1,
      omega (arith, c.requires.2),
      c.requires.4,
      c.occurrence_at-row.ensures.place,
      members_end c.requires.6.1 (valid_names a.t.now c.requires.0) a.path.group less home.periodic home.level a.o c.requires.3 (many c c.requires.6.0 c.requires.6.1) c.occurrence_at-row.result c.occurrence_at-row.ensures a.path.entry c.requires.1
          (home_end es a.path.entry a.path.group home),
    )

pub returns : goal.returns
returns c r held = (c.occurrence_at-row.result, record { many = many (goal.at.returns c).After-occurrence_at-row r held; row = c.occurrence_at-row.ensures; before = c.place_in.ensures })
