-- `format_buffer::numbers::digit_of` meets its contract: a digit lies between F0 and F9.
use borrow.Author.Rules.{rules}
use native.Mathlib.Omega.{arith}
use Rattle.format_buffer.proofs.Digits.{digit_bounds}
use Rattle.format_buffer.proofs.numbers.digit_of.Goals as goal

pub overflow_sub-b : goal.overflow_sub-b
overflow_sub-b c = omega (arith, digit_bounds c.args.b c.requires)

pub returns : goal.returns
returns c = (search rules, omega (arith, digit_bounds c.args.b c.requires))
