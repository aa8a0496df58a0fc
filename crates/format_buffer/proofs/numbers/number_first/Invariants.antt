-- `format_buffer::numbers::number_first` meets its contract: at each turn what is left to read spells the number as the whole does.
use Rattle.format_buffer.proofs.Digits.{Read}
use Rattle.format_buffer.proofs.numbers.number_first.Given as goal

abbrev pub invariant-loop-i : goal.invariant-loop-i
invariant-loop-i l = Read l.f l.at l.upto l.n l.i
