use mathlib.Core.Path.{sym}
use native.Mathlib.Omega.{arith}
use Rattle.tables.proofs.Known.{one_entry}
use Rattle.uses.proofs.Sharing.{apart}
use Rattle.uses.proofs.twice.share_entries.Goals as goal

pub returns : goal.returns
returns c = sym (apart c.loop-i.invariant c.args.end c.args.high c.requires.1 c.requires.2 (one_entry c.args.t.now c.requires.0) (omega arith))
