-- `reading::spans::put_span` meets its contract: the values of fields as they are stored are as written.
use Rattle.reading.proofs.Reaching.{fills_written}
use Rattle.reading.proofs.spans.put_span.Goals as goal

pub returns-then-s : goal.returns-then-s
returns-then-s c =
    let a = c.args in
    fills_written a.s a.scope a.at a.end c.requires.2 c.if-s.true c.put_occurrences.ensures
