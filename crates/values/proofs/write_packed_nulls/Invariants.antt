-- `values::write_packed_nulls` meets its contract: the nulls that are left write as all of them do from the start.
use Prim.Native.Nat.{◌+◌, ◌*◌}
use Rattle.rules.specs.Values.{packed, null}
use Rattle.values.proofs.Nulls.{Copying}
use Rattle.values.proofs.write_packed_nulls.Given as goal

abbrev pub invariant-loop-i : goal.invariant-loop-i
invariant-loop-i l = Copying (null packed l.size) l.n l.i l.at (l.at + l.i * l.size) l.initial.out l.out
