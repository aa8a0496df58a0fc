-- `format_buffer::numbers::range_end` meets its contract, by a hyphen being there or not.
use native.Mathlib.Omega.{arith}
use Rattle.format_buffer.specs.Elements.{indexing_of}
use Rattle.format_buffer.proofs.Indexes.{range_end_nothing, range_end_none, range_end_hyphen, indexes_later}
use Rattle.format_buffer.proofs.numbers.range_end.Goals as goal

pub returns-then-at-upto : goal.returns-then-at-upto
returns-then-at-upto c =
    let a = c.args in
    record { answer = range_end_nothing (indexing_of a.x) a.f.now a.at a.upto c.if-at-upto.true; place = (omega arith, omega arith, c.requires.2) }

pub returns-then-f-at-ne-HYPHEN : goal.returns-then-f-at-ne-HYPHEN
returns-then-f-at-ne-HYPHEN c =
    let a = c.args in
    record {
      answer = range_end_none (indexing_of a.x) a.f.now a.at a.upto (omega arith) (omega arith) c.if-f-at-ne-HYPHEN.true;
      place = (omega arith, omega arith, c.requires.2);
    }

pub range_to-requires : goal.range_to-requires
range_to-requires c = (omega arith, omega arith, c.requires.2)

pub returns : goal.returns
returns c =
    let a = c.args in
    indexes_later (range_end_hyphen (indexing_of a.x) a.f.now a.at a.upto (omega arith) (omega arith) c.if-f-at-ne-HYPHEN.false) (omega arith) c.range_to.ensures
