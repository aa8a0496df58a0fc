-- `records::paths::path_to` meets its contract: an entry lies in a periodic group, or outside of all.
use mathlib.Core.Path.{refl, subst}
use Rattle.tables.specs.Entries.{entries_of}
use Rattle.tables.specs.Places.{Homes}
use Rattle.records.proofs.Entries.{never}
use Rattle.records.proofs.Placed.{home_before}
use Rattle.records.proofs.paths.path_to.Goals as goal

pub path_in-requires : goal.path_in-requires
path_in-requires c =
    let es = entries_of c.args.t.now in
    let home = subst (Homes es c.args.i) c.in-Some.is c.periodic_group.ensures in
    (c.requires.0, c.requires.1, home_before es c.args.i _ c.requires.2 home, home)

pub returns-in-Some : goal.returns-in-Some
returns-in-Some c = c.path_in.ensures

pub returns-in-None : goal.returns-in-None
returns-in-None c =
    let a = c.args in
    let out = subst (Homes (entries_of a.t.now) a.i) c.in-None.is c.periodic_group.ensures in
    (refl, record { home = λ z. absurd (never refl z); outside = λ z. out; fixed = λ z. absurd (never refl z) })
