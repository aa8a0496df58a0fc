-- `fixed::put_number` meets its contract: the digits of the rest are the first digits of the whole.
use mathlib.Core.Path.{◌≡◌}
use lib.ListN.{take}
use Rattle.rules.specs.Lists.{digits}
use Rattle.buffer.proofs.Loops.{Down}
use Rattle.fixed.proofs.put_number.Given as goal

abbrev pub invariant-loop-j : goal.invariant-loop-j
invariant-loop-j l = Down l.at l.n (digits 256 l.n l.x) l.initial.out l.out l.j × (take l.j (digits 256 l.n l.x) ≡ digits 256 l.j l.rest)
