-- `reading::meant::occurrences_stored` meets its contract: an entry lies in one periodic group alone, and the count of that is no more than an index can be.
use mathlib.Core.Path.{◌∙◌, ap}
use Prim.Native.Nat.{ℕ}
use native.Mathlib.Omega.{arith}
use lib.ListN.{get_or}
use Rattle.rules.specs.Table.{parts}
use Rattle.rules.specs.Record.{group_count_at}
use Rattle.tables.specs.Entries.{entries_of, blank}
use Rattle.tables.proofs.Tables.{valid_names}
use Rattle.records.proofs.Placed.{one_home, count_most}
use Rattle.reading.proofs.meant.occurrences_stored.Goals as goal
use Rattle.reading.proofs.meant.occurrences_stored.Goals.{In-Some}

pub returns-in-Some : goal.returns-in-Some
returns-in-Some c =
    let home = c.in-Some.ensures in
    let (r, h) = c.requires.2 in
    let es = entries_of c.args.t.now in (
      omega (arith, c.group_count.ensures.1 r h, count_most h (valid_names c.args.t.now c.requires.0) _ (omega (arith, home.upto, c.requires.1)) home.periodic),
      λ g home' r h. c.group_count.ensures.1 r h ∙ ap (λ (j : ℕ). group_count_at (parts es) r (get_or es j blank).name) (one_home es c.args.i _ g home home'),
    )
