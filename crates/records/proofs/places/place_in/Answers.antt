-- `records::places::place_in` meets its contract: the width of the fields before the entry is known, or they are walked over.
use Rattle.std.specs.Prelude.{Some}
use mathlib.Core.Path.{sym, subst}
use Prim.Native.Nat.{◌+◌}
use native.Mathlib.Omega.{arith}
use lib.ListN.{drop}
use lib.Seq.{slice}
use Rattle.rules.specs.Record.{each, stored_cell}
use Rattle.tables.specs.Entries.{entries_of}
use Rattle.tables.specs.Groups.{fields_in}
use Rattle.records.specs.Walk.{rest_of, Walked}
use Rattle.records.proofs.Skips.{fields_skipped}
use Rattle.records.proofs.places.place_in.Goals as goal

pub overflow_add-result : goal.overflow_add-result
overflow_add-result c =
    let a = c.args in
    let wide = c.requires.3.fixed c.if-path.true in
    let fs = fields_in (slice (a.path.group + 1) a.path.entry (entries_of a.t.now)) in
    omega (arith, (fields_skipped fs wide.plains a.b.now a.row c.requires.4 c.requires.5).place, wide.width)

pub returns-then-path : goal.returns-then-path
returns-then-path c =
    let a = c.args in
    let wide = c.requires.3.fixed c.if-path.true in
    let fs = fields_in (slice (a.path.group + 1) a.path.entry (entries_of a.t.now)) in
    subst (λ w. Walked a.b.now (rest_of (each stored_cell fs (drop a.row a.b.now))) (Some (a.row + w))) (sym wide.width)
    (fields_skipped fs wide.plains a.b.now a.row c.requires.4 c.requires.5)

pub returns : goal.returns
returns c = c.members_end.ensures c.requires.5
