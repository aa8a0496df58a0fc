-- `records::skip::values_end` meets its contract: values are as long as their standard length, or as their length bytes say.
use lib.ListN.{drop}
use Rattle.rules.specs.Values.{Format}
use Rattle.rules.specs.Record.{times, stored_value}
use Rattle.records.specs.Walk.{rest_of, Ends}
use Rattle.records.proofs.Turns.{Repeating}
use Rattle.records.proofs.skip.values_end.Given as goal

abbrev pub invariant-loop-i : goal.invariant-loop-i
invariant-loop-i l =
    (f : Format) → Ends (rest_of (times l.n (stored_value f l.size) (drop l.at l.b))) → Repeating (stored_value f l.size) l.b (rest_of (times l.n (stored_value f l.size) (drop l.at l.b))) l.n l._i l.p
