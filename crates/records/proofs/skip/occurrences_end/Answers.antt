use mathlib.Core.Path.{refl}
use Rattle.records.proofs.Turns.{repeating, repeat_on, repeat_there, repeated}
use Rattle.records.proofs.skip.occurrences_end.Goals as goal

pub loop-i-init : goal.loop-i-init
loop-i-init c = repeating _ c.args.b.now c.args.n c.args.at c.requires.3

pub members_end-p-requires : goal.members_end-p-requires
members_end-p-requires c = (c.requires.0, c.requires.1, c.requires.2, c.loop-i.invariant.place, repeat_there c.loop-i.invariant c.loop-i-test.true c.requires.4)

pub loop-i-preserved : goal.loop-i-preserved
loop-i-preserved c = repeat_on c.loop-i.invariant c.loop-i-test.true (c.members_end-p.ensures (repeat_there c.loop-i.invariant c.loop-i-test.true c.requires.4)) refl

pub returns : goal.returns
returns c e = repeated c.loop-i.invariant c.loop-i-test.false
