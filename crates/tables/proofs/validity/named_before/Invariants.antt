-- `tables::validity::named_before` meets its contract: none of the entries passed has the name.
use mathlib.Core.Bool.{false}
use Rattle.tables.specs.Validity.{NamedBefore}
use Rattle.tables.proofs.validity.named_before.Given as goal

abbrev pub invariant-loop-j : goal.invariant-loop-j
invariant-loop-j l = NamedBefore l.t l.j l.name false
