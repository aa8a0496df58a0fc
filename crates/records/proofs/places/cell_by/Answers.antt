-- `records::places::cell_by` meets its contract: a field lies in a periodic group, or its cell stands at its own place.
use native.Mathlib.Omega.{arith}
use lib.ListN.{get_or}
use Rattle.tables.specs.Entries.{entries_of, blank}
use Rattle.tables.proofs.Tables.{valid_most, valid_names}
use Rattle.tables.proofs.EntryFields.{field_periodic}
use Rattle.records.proofs.Placed.{home_before, cell_outside, cell_entered}
use Rattle.records.proofs.places.cell_by.Goals as goal

pub entry_in-requires : goal.entry_in-requires
entry_in-requires c =
    let a = c.args in
    let es = entries_of a.t.now in
    (c.requires.0, home_before es a.path.entry a.path.group (field_periodic (get_or es a.path.entry blank).what c.requires.2) (c.requires.5.home c.if-path.true), c.requires.1, c.requires.3, c.requires.5, c.if-path.true, c.requires.6)

pub returns-then-path : goal.returns-then-path
returns-then-path c r held =
    let a = c.args in
    cell_entered held (valid_names a.t.now c.requires.0) a.path.entry a.path.group a.o c.requires.1 c.requires.2 c.requires.3 (c.requires.5.home c.if-path.true) c.entry_in.result (c.entry_in.ensures r held)

pub place_of-requires : goal.place_of-requires
place_of-requires c = omega (arith, valid_most c.args.t.now c.requires.0, c.requires.1)

pub returns : goal.returns
returns c r held =
    let a = c.args in
    let out = c.requires.5.outside c.if-path.false in
    rw c.place_of.ensures.0 (cell_outside held (valid_names a.t.now c.requires.0) a.path.entry a.o c.requires.1 c.requires.2 out (c.requires.4 out))
