-- `lyre::listing::say_periodic` is safe: a group ends among the entries, after its own.
use native.Mathlib.Omega.{arith}
use Rattle.tables.specs.Entries.{entries_of}
use Rattle.uses.proofs.Fields.{group_upto}
use Rattle.lyre.proofs.listing.say_periodic.Goals as goal

pub overflow_add-i : goal.overflow_add-i
overflow_add-i g c = omega (arith, (group_upto (entries_of c.args.t.now) c.args.i c.requires.1).0, c.group_end-end.ensures)

pub say_occurrences-requires : goal.say_occurrences-requires
say_occurrences-requires g c =
    (c.requires.0, omega (arith, (group_upto (entries_of c.args.t.now) c.args.i c.requires.1).1, c.group_end-end.ensures))
