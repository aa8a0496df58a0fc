-- `journals::entry_end` meets its contract: an entry is cut short in its lengths, or in its bytes, or it is whole.
use mathlib.Core.Path.{sym}
use native.Mathlib.Omega.{arith}
use Rattle.journals.proofs.Replaying.{cut_end, short_head, short_entry, is_whole, end_at}
use Rattle.journals.proofs.entry_end.Goals as goal

pub returns-then-left-lt-HEAD : goal.returns-then-left-lt-HEAD
returns-then-left-lt-HEAD c =
    let a = c.args in
    sym (cut_end a.journal.now a.at (short_head a.journal.now a.at (omega (arith, c.if-left-lt-HEAD.true, c.requires))))

pub returns-then-left-size : goal.returns-then-left-size
returns-then-left-size c =
    let a = c.args in
    sym (cut_end a.journal.now a.at (short_entry a.journal.now a.at
    (omega (arith, c.if-left-size.true, c.requires, c.length_at.ensures.0, c.length_at-2.ensures.0))))

pub returns : goal.returns
returns c =
    let a = c.args in
    let w = is_whole a.journal.now a.at
    (omega (arith, c.if-left-size.false, c.requires, c.length_at.ensures.0, c.length_at-2.ensures.0)) in
    omega (arith, end_at a.journal.now a.at w, c.length_at.ensures.0, c.length_at-2.ensures.0)
