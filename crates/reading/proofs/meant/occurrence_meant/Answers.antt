-- `reading::meant::occurrence_meant` meets its contract: with N it is the last of the periodic group that holds the entry, or 1.
use Rattle.reading.proofs.Reaching.{occurrence_last}
use Rattle.reading.proofs.meant.occurrence_meant.Goals as goal

pub returns-in_default : goal.returns-in_default
returns-in_default c =
    let d = c.in_default.not-AsWritten in
    occurrence_last c.args.t.now c.requires.0 d c.requires.6 c.requires.1 c.requires.2 (c.requires.5 d) c.occurrences_stored.ensures.1 c.resolved_upto.ensures
