-- `assignments::chains::index` meets its contract: the uses are in their chains, and the widths are noted where a use has several fields.
use native.Mathlib.Omega.{arith}
use Rattle.assignments.proofs.Linking.{indexed_single, indexed_widened}
use Rattle.assignments.proofs.chains.index.Goals as goal

pub returns-then-list-gt0 : goal.returns-then-list-gt0
returns-then-list-gt0 c f stage ws x o = indexed_widened (c.link_all.ensures f stage ws x) o c.put_widths.ensures

pub returns-else-list-gt0 : goal.returns-else-list-gt0
returns-else-list-gt0 c f stage ws x o = indexed_single (c.link_all.ensures f stage ws x) o (λ h. absurd (omega (arith, c.if-list-gt0.false)))
