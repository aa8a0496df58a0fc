use mathlib.Core.Path.{◌∙◌}
use native.Mathlib.Omega.{arith}
use Prim.Native.Nat.{◌+◌}
use lib.ListN.{set, length-set}
use Rattle.tables.specs.Groups.{field_at}
use Rattle.assignments.proofs.Filling.{ValueNext, Fills, fills_next, fills_on, fills_end, next_within, next_ends}
use Rattle.assignments.proofs.finding.fill.Goals as goal
use Rattle.assignments.proofs.finding.fill.Goals.{In-loop-k, After-values_end-p}

-- The value that comes next.
next : (t : In-loop-k)
    → (ValueNext t.requires.1.0 t.requires.1.1 t.requires.1.2 t.requires.1.3 t.args.s.value_upto t.loop-k.k t.loop-k.p)
next t =
    fills_next t.args.stage.now t.args.at t.args.s t.args.size t.args.by.now t.loop-k.by t.loop-k.p t.loop-k.k t.loop-k.invariant.1 t.requires.1.4 (omega arith)

pub overflow_add-by : goal.overflow_add-by
overflow_add-by c = omega (arith, next_within c.requires.1.4.stands (next c) c.requires.1.4.size_is, c.requires.1.4.stands.most)

pub overflow_cast-by : goal.overflow_cast-by
overflow_cast-by c = omega (arith, next_within c.requires.1.4.stands (next c) c.requires.1.4.size_is, c.requires.1.4.stands.most)

pub values_end-p-requires : goal.values_end-p-requires
values_end-p-requires c = (next_within c.requires.1.4.stands (next (goal.at.values_end-p-requires c).In-loop-k) c.requires.1.4.size_is, ((field_at c.requires.1.0 c.requires.1.2).format, next_ends c.requires.1.4.stands (next (goal.at.values_end-p-requires c).In-loop-k) c.requires.1.4.size_is))

-- What is noted then.
fills : (t : After-values_end-p) → let a = t.args in
    Fills a.stage.now a.at a.s a.size a.by.now (set t.loop-k.by t.loop-k.k (t.loop-k.p + 1)) t.values_end-p.result (t.loop-k.k + 1)
fills t =
    let a = t.args in
    fills_on a.stage.now a.at a.s a.size a.by.now t.loop-k.by t.loop-k.p t.loop-k.k t.loop-k.invariant.1 (omega arith) (omega arith)
    (omega (arith, t.requires.1.4.values.1, t.requires.0, t.loop-k.invariant.0)) t.values_end-p.result t.values_end-p.ensures

pub loop-k-preserved : goal.loop-k-preserved
loop-k-preserved c = (length-set c.loop-k.by c.loop-k.k (c.loop-k.p + 1) ∙ c.loop-k.invariant.0, fills (goal.at.loop-k-preserved c).After-values_end-p)

pub returns : goal.returns
returns c es ws i o d =
    let a = c.args in
    fills_end a.stage.now a.at a.s a.size a.by.now c.loop-k.by c.loop-k.p c.loop-k.k c.loop-k.invariant.1 c.loop-k-test.false c.loop-k.invariant.0 d

pub returns-2 : goal.returns-2
returns-2 c es ws i o d =
    let a = c.args in
    fills_end a.stage.now a.at a.s a.size a.by.now (set c.loop-k.by c.loop-k.k (c.loop-k.p + 1)) c.values_end-p.result (c.loop-k.k + 1) (fills (goal.at.returns-2 c).After-values_end-p) (omega arith)
    (length-set c.loop-k.by c.loop-k.k (c.loop-k.p + 1) ∙ c.loop-k.invariant.0) d
