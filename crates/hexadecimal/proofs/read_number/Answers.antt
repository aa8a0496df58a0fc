use mathlib.Core.Path.{◌∙◌, sym, ap}
use borrow.Author.Rules.{rules}
use Rattle.hexadecimal.specs.Answers.{number_read}
use Rattle.hexadecimal.proofs.Numbers.{reads_start, reads_turn, reads_stop, reads_end}
use Rattle.hexadecimal.proofs.read_number.Goals as goal

pub loop-c-init : goal.loop-c-init
loop-c-init c = reads_start c.args.word.now

pub loop-c-preserved : goal.loop-c-preserved
loop-c-preserved c = rw c.from.ensures (reads_turn _ _ _ c.loop-c.invariant c.loop-c-test.true (sym c.is_ascii_digit.ensures.value ∙ c.if-not-is_ascii_digit.false))

pub returns-then-not-is_ascii_digit : goal.returns-then-not-is_ascii_digit
returns-then-not-is_ascii_digit c =
    ap number_read (sym (reads_stop _ _ _ c.loop-c.invariant c.loop-c-test.true (sym c.is_ascii_digit.ensures.value ∙ c.if-not-is_ascii_digit.true)))

pub returns : goal.returns
returns c = ap number_read (sym (reads_end _ _ _ c.loop-c.invariant c.loop-c-test.false (search rules) c.if-word-gt6.false))
