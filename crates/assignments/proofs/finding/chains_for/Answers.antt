-- `assignments::finding::chains_for` meets its contract: the three chains, unless the occurrence lies above the highest that is noted.
use Rattle.assignments.proofs.Searching.{three_chains}
use Rattle.assignments.proofs.finding.chains_for.Goals as goal

pub returns : goal.returns
returns c = let a = c.args in three_chains a.list.now a.i a.o c.if-list-i.false c.requires.1 c.cell_chain.result c.cell_chain.ensures
