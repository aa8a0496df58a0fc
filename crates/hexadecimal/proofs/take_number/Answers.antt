-- `hexadecimal::take_number` meets its contract: the place lies after the line, or the rest of the line is the word.
use mathlib.Core.Path.{◌∙◌, sym, ap}
use native.Mathlib.Omega.{arith}
use Rattle.hexadecimal.specs.Text.{number}
use Rattle.hexadecimal.specs.Answers.{number_read}
use Rattle.hexadecimal.proofs.Taking.{number_beyond, number_here}
use Rattle.hexadecimal.proofs.take_number.Goals as goal

pub returns-in_err-get : goal.returns-in_err-get
returns-in_err-get c = c.from_residual.ensures ∙ ap number_read (sym (number_beyond c.args.at c.args.line.now (omega (arith, c.in_err-get.ensures.lookup.0))))

pub returns : goal.returns
returns c =
    let rest = c.in_ok-get.ensures.lookup.0 in
    c.read_number.ensures ∙ ap number_read (ap number rest.2 ∙ sym (number_here c.args.at c.args.line.now rest.0))
