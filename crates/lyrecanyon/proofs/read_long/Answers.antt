-- `lyrecanyon::read_long` meets its contract: one pass tests the items, and one more writes what has passed.
use Rattle.std.proofs.lemmas.Result.{err_from_is_err_and}
use Rattle.lyrecanyon.proofs.Readings.{Ready, tested_refused, long_read}
use Rattle.lyrecanyon.proofs.read_long.Goals as goal
use Rattle.lyrecanyon.proofs.read_long.Goals.{Start}

ready : (c : Start) → Ready c.args.table.now c.args.stored.now c.args.places.now c.args.format.now c.args.buffer.now c.args.end
ready c = record { valid = c.requires.0; holds = c.requires.1; room = c.requires.2 }

pub returns-in_err-scan : goal.returns-in_err-scan
returns-in_err-scan c =
    let p = err_from_is_err_and c.from_residual.result c.from_residual.ensures.1 in
    rw (p.1, p.2) (tested_refused (ready (goal.at.returns-in_err-scan c).Start) c.scan.ensures c.in_err-scan.was)

pub returns : goal.returns
returns c = long_read (ready (goal.at.returns c).Start) c.scan.ensures c.in_ok-scan.was c.scan-2.result c.scan-2.ensures
