-- `uses::memory::remember` meets its contract: only a span changes an index.
use Rattle.tables.specs.Entries.{entries_of}
use Rattle.uses.proofs.Remembering.{others_remembered}
use Rattle.uses.proofs.memory.remember.Goals as goal

pub returns-in_default : goal.returns-in_default
returns-in_default c = let a = c.args in others_remembered (entries_of a.t.now) a.u a.scope a.last.now c.in_default.not-Values
