-- `uses::twice::named_twice` meets its contract: no use so far names what one before it names, and the boxes hold what they name.
use mathlib.Core.Path.{◌≡◌}
use lib.ListN.{length}
use Rattle.tables.specs.Entries.{entries_of}
use Rattle.rules.specs.Limits.{most_entries}
use Rattle.uses.specs.Boxes.{Boxed}
use Rattle.uses.proofs.Meeting.{Once}
use Rattle.uses.proofs.twice.named_twice.Given as goal

abbrev pub invariant-loop-n : goal.invariant-loop-n
invariant-loop-n l = Once (entries_of l.t) l.kept l.n × (length l.boxes ≡ most_entries) × Boxed l.kept l.n l.boxes
