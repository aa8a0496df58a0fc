-- `reading::spans::piece` meets its contract: the span lies in one periodic group, or outside of all.
use mathlib.Core.Path.{◌≡◌, sym, subst}
use mathlib.Core.Bool.{false}
use Prim.Native.Nat.{ℕ}
use native.Mathlib.Omega.{arith}
use Rattle.tables.specs.Entries.{entries_of}
use Rattle.tables.specs.Places.{inside_at}
use Rattle.records.specs.Places.{PieceOf}
use Rattle.reading.proofs.Pieces.{row_single}
use Rattle.reading.proofs.spans.piece.Goals as goal
use Rattle.reading.proofs.spans.piece.Goals.{Else-path}

outside : (c : Else-path) → inside_at (entries_of c.args.t.now) c.args.s.first ≡ false
outside c =
    subst (λ (j : ℕ). inside_at (entries_of c.args.t.now) j ≡ false) c.requires.3.entry (c.requires.3.leads.outside c.if-path.false)

pub piece_outside-requires : goal.piece_outside-requires
piece_outside-requires c =
    let a = c.args in (
      c.requires.0,
      omega (arith, c.requires.1.ordered),
      c.requires.1.upto,
      λ j low high. (c.requires.1.outside c.requires.2 (outside c) j low high, row_single (entries_of a.t.now) a.b.now a.places.now a.s c.requires.1 c.requires.2 a.o j low high),
      c.requires.6,
    )

pub returns : goal.returns
returns c r held =
    let a = c.args in
    let e : a.o ≡ 1 = omega (arith, c.requires.4, c.requires.5, c.requires.1.only a.s.first (omega arith) c.requires.1.ordered (outside (goal.at.returns c).Else-path)) in
    subst (λ (k : ℕ). PieceOf (entries_of a.t.now) a.b.now a.s.first a.s.end k r c.piece_outside.result) (sym e) (c.piece_outside.ensures r held)
