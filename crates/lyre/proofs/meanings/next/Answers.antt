-- `lyre::meanings::next` is safe, and an element stops in its format: its syntax says where, and what it means is well formed.
use mathlib.Core.Path.{subst}
use Rattle.tables.specs.Entries.{entries_of}
use Rattle.uses.specs.Meant.{GoodMeaning}
use Rattle.uses.proofs.Decoding.{step_as}
use Rattle.uses.proofs.Remembering.{span_known}
use Rattle.lyre.proofs.meanings.next.Goals as goal

pub remember-requires : goal.remember-requires
remember-requires c =
    let es = entries_of c.args.t.now in
    let s = step_as c.in_ok-e.ensures.ok_part c.next.ensures in
    (c.requires.0, span_known es c.args.f.now c.in_ok-u.u (subst (GoodMeaning es c.args.f.now) c.in_ok-u.was (c.use_of-m.ensures.held c.args.f.now s.place.2)), c.requires.2)
