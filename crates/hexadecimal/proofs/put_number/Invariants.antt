-- `hexadecimal::put_number` meets its contract: it writes the digits from the last to the first.
use Rattle.buffer.proofs.Loops.{Down}
use Rattle.hexadecimal.specs.Text.{decimal_places, decimal_word}
use Rattle.hexadecimal.proofs.Numbers.{Left}
use Rattle.hexadecimal.proofs.put_number.Given as goal

abbrev pub invariant-loop-i : goal.invariant-loop-i
invariant-loop-i l = record {
  left : Left l.n (decimal_places l.n) l.i l.rest;
  written : Down l.at l.k (decimal_word l.n) l.initial.out l.out l.i;
}
