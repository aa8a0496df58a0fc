-- `taking::take` meets its contract: the uses that are left give what all of them give from the start.
use Rattle.rules.specs.Lists.{Bytes}
use Rattle.tables.specs.Entries.{entries_of}
use Rattle.uses.specs.Kept.{GoodUses}
use Rattle.taking.proofs.Kept.{Gone}
use Rattle.taking.proofs.take.Given as goal

abbrev pub invariant-loop-n : goal.invariant-loop-n
invariant-loop-n l =
    (f : Bytes) → GoodUses (entries_of l.t) f l.kept l.count → Gone (entries_of l.t) f l.buffer l.kept l.n l.initial.list l.list l.initial.stage l.stage l.state
