-- `records::places::part_start` meets its contract: an entry's part stands from its place on, and nothing stands after the last one's.
use mathlib.Core.Path.{sym, ◌∙◌}
use native.Mathlib.Omega.{arith}
use lib.ListN.{drop}
use lib.Seq.{drop-length}
use Rattle.rules.specs.Limits.{record_head_size}
use Rattle.tables.specs.Entries.{entries_of}
use Rattle.tables.proofs.Tables.{valid_most}
use Rattle.records.proofs.Pieces.{start_none}
use Rattle.records.proofs.places.part_start.Goals as goal

pub place_of-requires : goal.place_of-requires
place_of-requires c = omega (arith, valid_most c.args.t.now c.requires.0, c.requires.1)

pub returns-then-i-count : goal.returns-then-i-count
returns-then-i-count c = rw c.place_of.ensures.0 (c.requires.2.1.starts c.args.i (omega (arith, c.count.ensures, c.if-i-count.true)))

pub returns : goal.returns
returns c =
    let a = c.args in
    let es = entries_of a.t.now in
    (omega arith, drop-length a.b.now ∙ sym (start_none _ es (drop record_head_size a.b.now) a.i (omega (arith, c.count.ensures, c.if-i-count.false))))
