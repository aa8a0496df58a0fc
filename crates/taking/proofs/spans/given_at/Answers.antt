-- `taking::spans::given_at` meets its contract: the format and the length are those of the entry, or of the span where it has its own.
use mathlib.Core.Path.{refl}
use Prim.Native.Nat.{◌<◌}
use native.Mathlib.Omega.{arith}
use lib.ListN.{length}
use Rattle.tables.specs.Entries.{entries_of}
use Rattle.taking.proofs.Asking.{gives_stored, asks_stored, gives_one}
use Rattle.taking.proofs.spans.given_at.Goals as goal

pub returns-then-s : goal.returns-then-s
returns-then-s c =
    let known : c.args.i < length (entries_of c.args.t.now) = omega (arith, c.requires.1.upto) in (
      refl,
      refl,
      gives_stored c.args.t.now c.requires.0 c.args.i known c.requires.4 _ _ c.field_format-own.ensures c.size_at-standard.ensures.0 c.args.s.bare,
      asks_stored c.args.t.now c.requires.0 c.args.i known c.requires.4 _ _ c.field_format-own.ensures c.size_at-standard.ensures.0 c.args.s c.args.s.bare c.if-s.true,
    )

pub returns-else-s : goal.returns-else-s
returns-else-s c =
    let known : c.args.i < length (entries_of c.args.t.now) = omega (arith, c.requires.1.upto) in (
      refl,
      refl,
      gives_one c.args.t.now c.requires.0 c.args.i known c.requires.4 _ _ c.field_format-own.ensures c.size_at-standard.ensures.0 c.args.s (c.requires.1.alone c.if-s.false) c.requires.2 c.requires.3 c.args.s.bare,
      rw c.if-s.false,
    )
