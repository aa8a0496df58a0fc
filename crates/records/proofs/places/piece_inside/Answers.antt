-- `records::places::piece_inside` meets its contract: plain fields stand one after the other, from the place of the first on.
use Rattle.std.specs.Prelude.{Some}
use mathlib.Core.Path.{sym, subst}
use Prim.Native.Nat.{◌+◌}
use native.Mathlib.Omega.{arith}
use Rattle.tables.specs.Entries.{entries_of}
use Rattle.rules.specs.Record.{Record}
use Rattle.records.specs.Places.{IsRecord, Entered, PieceOf}
use Rattle.records.proofs.Strips.{none_in, piece_in}
use Rattle.records.proofs.places.piece_inside.Goals as goal
use Rattle.records.proofs.places.piece_inside.Goals.{In_ok-from}

pub entry_in-requires : goal.entry_in-requires
entry_in-requires c =
    let a = c.args in
    (c.requires.0, c.requires.1, omega (arith, c.requires.2.0, c.requires.2.1), c.requires.2.3, c.requires.2.4, c.requires.2.5, c.requires.2.7)

found : (c : In_ok-from) (r : Record)
    → IsRecord (entries_of c.args.t.now) c.args.b.now c.args.places.now r
    → PieceOf (entries_of c.args.t.now) c.args.b.now c.args.path.entry c.args.end c.args.o r
    (Some (c.in_ok-from.from, (c.in_ok-from.from + c.args.width)))
found c r held =
    let a = c.args in
    let es = entries_of a.t.now in
    let g = a.path.group in
    let home = c.requires.2.4.home c.requires.2.5 in
    let e = subst (Entered es a.b.now a.places.now g a.path.entry a.o r) c.in_ok-from.was (c.entry_in.ensures r held) in
    subst (λ w. PieceOf es a.b.now a.path.entry a.end a.o r (Some (c.in_ok-from.from, (c.in_ok-from.from + w)))) (sym c.requires.2.6.width)
    (piece_in a.t.now c.requires.0 held g a.o c.requires.2.3 home.level home.periodic (omega (arith, c.requires.1, c.requires.2.0, c.requires.2.1)) e.1.many e.0 e.1.row
    a.path.entry a.end c.in_ok-from.from (omega (arith, c.requires.2.0)) c.requires.1 c.requires.2.2 c.requires.2.6.plains e.1.before)

pub overflow_add-result : goal.overflow_add-result
overflow_add-result c = omega (arith, (found (goal.at.overflow_add-result c).In_ok-from c.requires.2.7.0 c.requires.2.7.1).1)

pub returns-in_err-from : goal.returns-in_err-from
returns-in_err-from c r held =
    let a = c.args in
    let es = entries_of a.t.now in
    let home = c.requires.2.4.home c.requires.2.5 in
    let e = subst (Entered es a.b.now a.places.now a.path.group a.path.entry a.o r) c.in_err-from.was (c.entry_in.ensures r held) in
    rw c.from_residual.ensures
    (home.inside, none_in a.t.now c.requires.0 held a.path.group a.o c.requires.2.3 home.level home.periodic (omega (arith, c.requires.1, c.requires.2.0, c.requires.2.1)) e a.path.entry a.end c.requires.1 c.requires.2.2)

pub returns : goal.returns
returns c r held = found (goal.at.returns c).In_ok-from r held
