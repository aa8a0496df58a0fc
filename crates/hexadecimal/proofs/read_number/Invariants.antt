-- `hexadecimal::read_number` meets its contract: what was read and the characters that are left spell the whole.
use Rattle.hexadecimal.proofs.Numbers.{Reads}
use Rattle.hexadecimal.proofs.read_number.Given as goal

abbrev pub invariant-loop-c : goal.invariant-loop-c
invariant-loop-c l = Reads l.word l.c-index l.n
