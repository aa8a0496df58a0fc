-- `records::places::occurrences_at` meets its contract: where the first of the occurrences stands, all stand, one after the other.
use mathlib.Core.Path.{sym, subst}
use Prim.Native.Nat.{ℕ}
use native.Mathlib.Omega.{arith}
use Rattle.tables.specs.Entries.{entries_of}
use Rattle.tables.proofs.Tables.{valid_names}
use Rattle.tables.proofs.Known.{periodic_level}
use Rattle.records.specs.Places.{OccurrencesOf}
use Rattle.records.proofs.Placed.{count_there}
use Rattle.records.proofs.Adjacent.{rows_in}
use Rattle.records.proofs.places.occurrences_at.Goals as goal

pub occurrence_at-requires : goal.occurrence_at-requires
occurrence_at-requires c =
    let a = c.args in
    let n = (count_there c.requires.3.4.1 (valid_names a.t.now c.requires.0) a.g c.requires.1 c.requires.2).1 in
    (c.requires.0, c.requires.1, c.requires.2, c.requires.3.0, omega (arith, n, c.requires.3.1, c.requires.3.2 c.requires.3.4.0 c.requires.3.4.1), c.requires.3.4)

pub returns : goal.returns
returns c r held =
    let a = c.args in
    subst (λ (w : ℕ). OccurrencesOf (entries_of a.t.now) a.b.now a.g a.o a.n w r c.occurrence_at.result) (sym c.requires.3.3.width)
    (rows_in a.t.now c.requires.0 held a.g (periodic_level a.t.now c.requires.0 a.g c.requires.1 c.requires.2) c.requires.2 c.requires.1 c.requires.3.3.plains
    a.n a.o c.occurrence_at.result c.requires.3.0 (c.requires.3.2 r held) c.occurrence_at.ensures)
