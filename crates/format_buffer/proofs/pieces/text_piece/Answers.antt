-- `format_buffer::pieces::text_piece` meets its contract: the last byte, the length and the bytes between are tested as the rule says.
use mathlib.Core.Path.{sym, ◌∙◌}
use native.Mathlib.Omega.{arith}
use Rattle.format_buffer.proofs.PieceLaws.{text_unclosed, text_empty, text_long, text_broken, text_is}
use Rattle.format_buffer.proofs.Answers.{pieced_bad}
use Rattle.format_buffer.proofs.pieces.text_piece.Goals as goal

pub returns-then-f-last-ne-APOSTROPHE : goal.returns-then-f-last-ne-APOSTROPHE
returns-then-f-last-ne-APOSTROPHE c =
    let a = c.args in
    pieced_bad (text_unclosed a.f.now a.at a.upto (omega arith) (omega arith) c.if-f-last-ne-APOSTROPHE.true)

pub returns-then-last-at : goal.returns-then-last-at
returns-then-last-at c =
    let a = c.args in
    pieced_bad (text_empty a.f.now a.at a.upto (omega arith) (omega arith) c.if-last-at.true)

pub returns-then-last-at-gt-LONGEST_TEXT : goal.returns-then-last-at-gt-LONGEST_TEXT
returns-then-last-at-gt-LONGEST_TEXT c =
    let a = c.args in
    pieced_bad (text_long a.f.now a.at a.upto (omega arith) (omega arith) c.if-last-at-gt-LONGEST_TEXT.true)

pub returns-then-no_apostrophe : goal.returns-then-no_apostrophe
returns-then-no_apostrophe c =
    let a = c.args in
    record {
      answer =
          text_is a.f.now a.at a.upto (omega arith) (omega arith) c.if-f-last-ne-APOSTROPHE.false (sym c.no_apostrophe.ensures ∙ c.if-no_apostrophe.true) (omega arith) c.if-last-at-gt-LONGEST_TEXT.false;
      sound = ((omega arith, omega arith, omega arith), tt);
    }

pub returns-else-no_apostrophe : goal.returns-else-no_apostrophe
returns-else-no_apostrophe c =
    let a = c.args in
    pieced_bad (text_broken a.f.now a.at a.upto (omega arith) (omega arith) c.if-f-last-ne-APOSTROPHE.false (sym c.no_apostrophe.ensures ∙ c.if-no_apostrophe.false))
