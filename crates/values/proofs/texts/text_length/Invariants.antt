-- `values::texts::text_length` meets its contract: what is left has the text of the whole, since what was passed are blanks.
use mathlib.Core.Path.{◌≡◌}
use lib.ListN.{take}
use Rattle.rules.specs.Values.{strip}
use Rattle.values.proofs.texts.text_length.Given as goal

abbrev pub invariant-loop-j : goal.invariant-loop-j
invariant-loop-j l = strip (take l.j l.s) ≡ strip l.s
