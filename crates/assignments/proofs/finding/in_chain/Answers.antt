use mathlib.Core.Path.{sym, ◌∙◌}
use Rattle.assignments.proofs.Searching.{Walk, walk_room, walk_falls, seek_start, seek_on, seek_found, seek_end}
use Rattle.assignments.proofs.finding.in_chain.Goals as goal
use Rattle.assignments.proofs.finding.in_chain.Goals.{At-loop-n}

walk : (l : At-loop-n) → Walk l.args.kept.now l.args.list.now l.args.chain l.requires.0.2 l.loop-n.n
walk l = (l.loop-n.invariant.1 l.requires.0.0 l.requires.0.1 l.requires.0.2 l.requires.0.3 l.requires.0.4 l.requires.0.5).0

pub loop-n-init : goal.loop-n-init
loop-n-init c =
    let a = c.args in
    let k = seek_start a.kept.now a.list.now a.chain a.i a.o c.requires.1 in
    (walk_room c.requires.0.5 c.requires.1 (k c.requires.0.0 c.requires.0.1 c.requires.0.2 c.requires.0.3 c.requires.0.4 c.requires.0.5).0, k)

pub returns-then-names : goal.returns-then-names
returns-then-names c =
    let a = c.args in
    seek_found a.kept.now a.list.now a.chain a.i a.o c.requires.1 c.loop-n.n c.loop-n.invariant.1 c.loop-n-test.true (sym c.names.ensures ∙ c.if-names.true)

pub loop-n-smaller : goal.loop-n-smaller
loop-n-smaller c = walk_falls c.requires.0.5 c.requires.1 (walk (goal.at.loop-n-smaller c).At-loop-n) c.loop-n-test.true

pub loop-n-preserved : goal.loop-n-preserved
loop-n-preserved c =
    let a = c.args in
    let k = seek_on a.kept.now a.list.now a.chain a.i a.o c.requires.1 c.loop-n.n c.loop-n.invariant.1 c.loop-n-test.true (sym c.names.ensures ∙ c.if-names.false) in
    (walk_room c.requires.0.5 c.requires.1 (k c.requires.0.0 c.requires.0.1 c.requires.0.2 c.requires.0.3 c.requires.0.4 c.requires.0.5).0, k)

pub returns : goal.returns
returns c =
    let a = c.args in
    seek_end a.kept.now a.list.now a.chain a.i a.o c.requires.1 c.loop-n.n c.loop-n.invariant.1 c.loop-n-test.false
