-- `assignments::chains::link_all` meets its contract: the uses from n on were put before their chains.
use Rattle.tables.specs.Entries.{entries_of}
use Rattle.assignments.proofs.Linking.{Linking}
use Rattle.assignments.proofs.chains.link_all.Given as goal

abbrev pub invariant-loop-n : goal.invariant-loop-n
invariant-loop-n l = Linking (entries_of l.t) l.kept l.count l.initial.list l.list l.n
