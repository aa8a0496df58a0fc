-- `reading::meant::occurrences_meant` meets its contract: with N the occurrences are those of the periodic group in which the span lies.
use Rattle.reading.proofs.Reaching.{meant_last}
use Rattle.reading.proofs.meant.occurrences_meant.Goals as goal

pub returns-in_default : goal.returns-in_default
returns-in_default c =
    let d = c.in_default.not-AsWritten in
    meant_last c.args.t.now c.requires.0 c.requires.1 d (c.requires.2 d) c.occurrences_stored-n.ensures.0 c.occurrences_stored-n.ensures.1 c.resolved_from.ensures c.resolved_upto.ensures
