-- `records::empty::write_empty` meets its contract: what the entries to come add, after what is written, makes up the whole.
use Rattle.tables.specs.Entries.{entries_of}
use Rattle.records.proofs.EmptyEntries.{Writing}
use Rattle.records.proofs.empty.write_empty.Given as goal

abbrev pub invariant-loop-i : goal.invariant-loop-i
invariant-loop-i l = Writing (entries_of l.t) l.initial.at l.initial.out l.out l.inside l.i l.at
