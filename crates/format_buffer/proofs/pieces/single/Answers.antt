-- `format_buffer::pieces::single` meets its contract: a digit, a letter of a format, or neither.
use mathlib.Core.Path.{sym, ap, ◌∙◌}
use native.Mathlib.Omega.{arith}
use Rattle.rules.specs.Outcome.{done}
use Rattle.rules.specs.Format.{length_piece}
use Rattle.format_buffer.proofs.PieceLaws.{single_digit, single_format, single_bad}
use Rattle.format_buffer.proofs.pieces.single.Goals as goal

pub digit_of-requires : goal.digit_of-requires
digit_of-requires c = sym c.is_digit.ensures ∙ c.if-is_digit.true

pub returns-then-is_digit : goal.returns-then-is_digit
returns-then-is_digit c =
    λ f. record {
      answer =
          single_digit c.args.b (sym c.is_digit.ensures ∙ c.if-is_digit.true) ∙ ap (λ n. done (length_piece n)) (sym c.digit_of.ensures.0);
      sound = omega (arith, c.digit_of.ensures.1);
    }

pub returns-then-is_override : goal.returns-then-is_override
returns-then-is_override c = λ f. record { answer = single_format c.args.b (sym c.is_digit.ensures ∙ c.if-is_digit.false) (sym c.is_override.ensures ∙ c.if-is_override.true); sound = tt }

pub returns-else-is_override : goal.returns-else-is_override
returns-else-is_override c = λ f. record { answer = single_bad c.args.b (sym c.is_digit.ensures ∙ c.if-is_digit.false) (sym c.is_override.ensures ∙ c.if-is_override.false); sound = tt }
