use mathlib.Core.Path.{◌≡◌, refl, sym, ◌∙◌, subst}
use mathlib.Core.Bool.{false}
use native.Mathlib.Omega.{arith}
use lib.ListN.{length}
use Rattle.std.proofs.lemmas.Result.{err_from_is_err_and}
use Rattle.rules.specs.Lists.{Bytes}
use Rattle.tables.specs.Entries.{entries_of}
use Rattle.uses.specs.Meant.{GoodUse}
use Rattle.uses.specs.Kept.{GoodUses}
use Rattle.assignments.specs.Notes.{start_noted, bytes_given, given_first}
use Rattle.taking.proofs.Kept.{Gone, gone_begin, gone_on, gone_off, gone_end}
use Rattle.taking.proofs.take.Goals as goal
use Rattle.taking.proofs.take.Goals.{After-begin, After-get}

-- Where the values of the use begin is noted.
gone : (c : After-begin) (f : Bytes) → (let a = c.args in GoodUses (entries_of a.t.now) f a.kept.now a.count) → let a = c.args in
    Gone (entries_of a.t.now) f a.buffer.now a.kept.now c.loop-n.n a.list.now c.begin.new.list a.stage.now c.loop-n.stage c.loop-n.state
    × (c.loop-n.state.full ≡ false → start_noted c.begin.new.list c.loop-n.n ≡ length (bytes_given (given_first (entries_of a.t.now) f a.kept.now a.buffer.now c.loop-n.n)))
gone c f h = let g = c.loop-n.invariant f h in gone_begin g (omega (arith, c.loop-n-test.true, c.requires.3.1, g.same_list)) c.begin.ensures

-- What is known of the use.
good : (c : After-get) (f : Bytes) → (let a = c.args in GoodUses (entries_of a.t.now) f a.kept.now a.count) → GoodUse (entries_of c.args.t.now) f c.get.result
good c f h = subst (GoodUse (entries_of c.args.t.now) f) (sym c.get.ensures) (h c.loop-n.n c.loop-n-test.true)

pub returns-in_err-state : goal.returns-in_err-state
returns-in_err-state c f h =
    let p = err_from_is_err_and c.from_residual.result c.from_residual.ensures.1 in
    rw (p.1, p.2)
    (gone_off (gone (goal.at.returns-in_err-state c).After-begin f h).0 c.loop-n-test.true (rw c.get.ensures at (c.take_use.ensures f (good (goal.at.returns-in_err-state c).After-get f h))) c.in_err-state.was)

pub loop-n-preserved : goal.loop-n-preserved
loop-n-preserved c f h =
    let x = gone (goal.at.loop-n-preserved c).After-begin f h in
    gone_on x.0 x.1 (x.0.same_stage ∙ c.requires.3.2) (rw c.get.ensures at (c.take_use.ensures f (good (goal.at.loop-n-preserved c).After-get f h))) c.in_ok-state.was

pub returns : goal.returns
returns c f h =
    let e : c.loop-n.n ≡ c.args.count = omega (arith, c.loop-n-test.false) in
    let g = rw e at (c.loop-n.invariant f h) in
    gone_end g h c.args.t.now c.requires.0 refl (λ i. (c.type_inv.buffer i).fits) c.requires.1 (omega (arith, c.requires.3.1, g.same_list)) c.requires.3.0 (g.same_stage ∙ c.requires.3.2)

pub begin-requires : goal.begin-requires
begin-requires c =
    let g = c.loop-n.invariant c.requires.2.0 c.requires.2.1 in
    (omega (arith, c.loop-n-test.true, c.requires.3.1, g.same_list), omega (arith, g.held.within, g.same_stage, c.requires.3.2))

pub take_use-requires : goal.take_use-requires
take_use-requires c =
    let x = (gone (goal.at.take_use-requires c).After-begin c.requires.2.0 c.requires.2.1).0 in
    (c.requires.0, (c.requires.2.0, good (goal.at.take_use-requires c).After-get c.requires.2.0 c.requires.2.1), ((omega (arith, c.requires.3.1, x.same_list), x.same_stage ∙ c.requires.3.2), (x.own, x.held)))
