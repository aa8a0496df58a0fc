use Rattle.tables.specs.Entries.{entries_of, blank}
use Rattle.records.proofs.Turns.{among, among_on, among_off, among_all}
use Rattle.records.proofs.walk.members_end.Goals as goal

pub loop-i-init : goal.loop-i-init
loop-i-init c = among (entries_of c.args.t.now) c.args.b.now c.args.end c.args.first c.args.at c.requires.1 c.requires.3

pub returns-in_err-p : goal.returns-in_err-p
returns-in_err-p c = rw c.from_residual.ensures (among_off c.loop-i.invariant blank c.loop-i-test.true c.requires.2 c.member_end.ensures c.in_err-p.was)

pub loop-i-preserved : goal.loop-i-preserved
loop-i-preserved c = among_on c.loop-i.invariant blank c.loop-i-test.true c.requires.2 c.member_end.ensures c.in_ok-p.was

pub returns : goal.returns
returns c = among_all c.loop-i.invariant c.loop-i-test.false
