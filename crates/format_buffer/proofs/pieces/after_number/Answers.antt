-- `format_buffer::pieces::after_number` meets its contract: a length, blanks, or neither.
use mathlib.Core.Path.{sym, ◌∙◌}
use native.Mathlib.Omega.{arith}
use Rattle.format_buffer.proofs.PieceLaws.{number_length, number_large, number_long, number_blanks, number_other}
use Rattle.format_buffer.proofs.Answers.{pieced_bad}
use Rattle.format_buffer.proofs.pieces.after_number.Goals as goal

pub returns-then-n-gt-GREATEST_LENGTH : goal.returns-then-n-gt-GREATEST_LENGTH
returns-then-n-gt-GREATEST_LENGTH c =
    let a = c.args in
    pieced_bad (number_large a.n a.f.now a.at a.upto c.if-at-upto.true (omega arith))

pub returns-then-at-upto : goal.returns-then-at-upto
returns-then-at-upto c =
    let a = c.args in
    record { answer = number_length a.n a.f.now a.at a.upto c.if-at-upto.true (omega arith); sound = omega arith }

pub returns-then-n-gt-LONGEST_BLANKS : goal.returns-then-n-gt-LONGEST_BLANKS
returns-then-n-gt-LONGEST_BLANKS c =
    let a = c.args in
    pieced_bad (number_long a.n a.f.now a.at a.upto (omega arith) (omega arith) c.if-n-gt-LONGEST_BLANKS.true)

pub returns-then-alone : goal.returns-then-alone
returns-then-alone c =
    let a = c.args in
    record {
      answer = number_blanks a.n a.f.now a.at a.upto (omega arith) (omega arith) (sym c.alone.ensures ∙ c.if-alone.true) (omega arith) c.if-n-gt-LONGEST_BLANKS.false;
      sound = (omega arith, tt);
    }

pub returns-else-alone : goal.returns-else-alone
returns-else-alone c =
    let a = c.args in
    pieced_bad (number_other a.n a.f.now a.at a.upto (omega arith) (omega arith) (sym c.alone.ensures ∙ c.if-alone.false))
