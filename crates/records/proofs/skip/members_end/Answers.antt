use mathlib.Core.Path.{refl}
use native.Mathlib.Omega.{arith}
use Rattle.tables.specs.Entries.{entries_of, blank}
use Rattle.records.proofs.Turns.{among, among_on, among_there, among_all}
use Rattle.records.proofs.skip.members_end.Goals as goal

pub loop-i-init : goal.loop-i-init
loop-i-init c = among (entries_of c.args.t.now) c.args.b.now c.args.end c.args.first c.args.at c.requires.1 c.requires.3

pub member_end-p-requires : goal.member_end-p-requires
member_end-p-requires c = (c.requires.0, omega (arith, c.requires.2, c.loop-i-test.true), c.loop-i.invariant.place, among_there c.loop-i.invariant blank c.loop-i-test.true c.requires.2 c.requires.4)

pub loop-i-preserved : goal.loop-i-preserved
loop-i-preserved c = among_on c.loop-i.invariant blank c.loop-i-test.true c.requires.2 (c.member_end-p.ensures (among_there c.loop-i.invariant blank c.loop-i-test.true c.requires.2 c.requires.4)) refl

pub returns : goal.returns
returns c e = among_all c.loop-i.invariant c.loop-i-test.false
