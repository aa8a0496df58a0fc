-- `records::places::cell_at` meets its contract: the way to an entry leads to it.
use mathlib.Core.Path.{◌≡◌, sym, subst}
use mathlib.Core.Bool.{false}
use Prim.Native.Nat.{◌<◌}
use lib.ListN.{length, get_or}
use Rattle.tables.specs.Entries.{entries_of, blank, is_group}
use Rattle.tables.specs.Places.{inside_at}
use Rattle.records.specs.Places.{CellOf}
use Rattle.tables.proofs.EntryFields.{field_periodic}
use Rattle.records.proofs.places.cell_at.Goals as goal

pub path_to-requires : goal.path_to-requires
path_to-requires c = (c.requires.0, c.requires.1, field_periodic (get_or (entries_of c.args.t.now) c.args.i blank).what c.requires.2)

pub cell_by-requires : goal.cell_by-requires
cell_by-requires c =
    let es = entries_of c.args.t.now in
    let e = sym c.path_to.ensures.0 in (
      c.requires.0,
      subst (λ j. j < length es) e c.requires.1,
      subst (λ j. is_group (get_or es j blank).what ≡ false) e c.requires.2,
      c.requires.3,
      subst (λ j. inside_at es j ≡ false → c.args.o ≡ 1) e c.requires.4,
      c.path_to.ensures.1,
      c.requires.5,
    )

pub returns : goal.returns
returns c r held =
    let a = c.args in
    subst (λ j. CellOf (entries_of a.t.now) a.b.now j a.o r c.cell_by.result) c.path_to.ensures.0 (c.cell_by.ensures r held)
