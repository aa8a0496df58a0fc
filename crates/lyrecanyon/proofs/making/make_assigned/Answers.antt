-- `lyrecanyon::making::make_assigned` meets its contract: a format that is too long is refused, and else the area has room for its uses.
use mathlib.Core.Path.{ap}
use mathlib.Core.List.{List}
use native.Mathlib.Omega.{arith}
use Rattle.rules.specs.Outcome.{Outcome, ◌>>=◌}
use Rattle.rules.specs.Update.{Assignment}
use Rattle.tables.specs.Entries.{entries_of}
use Rattle.assignments.specs.Notes.{note_place}
use Rattle.lyrecanyon.specs.Making.{new_record}
use Rattle.lyrecanyon.proofs.Makings.{zeros, format_long}
use Rattle.lyrecanyon.proofs.making.make_assigned.Goals as goal

pub make_decoded-requires : goal.make_decoded-requires
make_decoded-requires c = (c.requires.0, c.requires.1, omega (arith, c.if-format-le-SHORT_FORMAT.true), (λ n h. record { few = omega (arith, h); room = omega (arith, h); zeros = zeros (note_place 32) }), c.requires.2)

pub returns-then-format-gt-LONGEST_FORMAT : goal.returns-then-format-gt-LONGEST_FORMAT
returns-then-format-gt-LONGEST_FORMAT c r held =
    let es = entries_of c.args.table.now in
    ap (λ (z : Outcome (List Assignment)). z >>= new_record es r) (format_long es c.args.format.now c.args.buffer.now c.if-format-gt-LONGEST_FORMAT.true)

pub make_decoded-requires-2 : goal.make_decoded-requires-2
make_decoded-requires-2 c = (c.requires.0, c.requires.1, omega (arith, c.if-format-gt-LONGEST_FORMAT.false), (λ n h. record { few = omega (arith, h); room = omega (arith, h); zeros = zeros (note_place 683) }), c.requires.2)
