-- `records::places::group_count` meets its contract: the group's count stands at its place.
use mathlib.Core.Path.{◌∙◌}
use native.Mathlib.Omega.{arith}
use Rattle.tables.proofs.Tables.{valid_most, valid_names}
use Rattle.records.proofs.Placed.{count_there}
use Rattle.records.proofs.places.group_count.Goals as goal

pub place_of-requires : goal.place_of-requires
place_of-requires c = omega (arith, valid_most c.args.t.now c.requires.0, c.requires.1)

pub count_at-requires : goal.count_at-requires
count_at-requires c = rw c.place_of.ensures.0 (count_there c.requires.3.1 (valid_names c.args.t.now c.requires.0) c.args.g c.requires.1 c.requires.2).0

pub returns : goal.returns
returns c = (c.count_at.ensures.1, λ r held. c.count_at.ensures.0 ∙ rw c.place_of.ensures.0 (count_there held (valid_names c.args.t.now c.requires.0) c.args.g c.requires.1 c.requires.2).1)
