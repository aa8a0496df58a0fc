-- `decimals::digits::within` meets its contract: a value has no more digits than its bytes hold.
use native.Mathlib.Omega.{arith}
use mathlib.Core.Path.{sym, ◌∙◌}
use borrow.Author.Tests.{le-leb}
use Rattle.decimals.proofs.Spelling.{spelling_start, spelling_fits}
use Rattle.decimals.proofs.digits.within.Goals as goal

pub returns-then-n-m : goal.returns-then-n-m
returns-then-n-m c =
    le-leb _ _ c.if-n-m.true ∙ sym (spelling_fits (spelling_start c.args.packed c.args.s.now) c.args.m c.requires.nines (omega arith))
