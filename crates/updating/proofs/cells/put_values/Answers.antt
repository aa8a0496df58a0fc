use mathlib.Core.Path.{sym, subst}
use mathlib.Core.List.{List}
use mathlib.Core.Option.{Option}
use Rattle.std.proofs.lemmas.Result.{err_from_is_err_and}
use Prim.Native.Nat.{ℕ, suc, ◌-◌}
use native.Mathlib.Omega.{arith}
use lib.ListN.{drop, get_or}
use Rattle.rules.specs.Lists.{Bytes}
use Rattle.rules.specs.Values.{null}
use Rattle.value_formats.specs.Formats.{format_at}
use Rattle.updating.specs.New.{NotesBy, Stands, Old, Was, Were}
use Rattle.updating.proofs.OldValues.{was_ends}
use Rattle.updating.proofs.NewValues.{putting_start, stands_next, missing_next, were_after, were_none, putting_on, putting_off, putting_end}
use Rattle.updating.proofs.cells.put_values.Goals as goal
use Rattle.updating.proofs.cells.put_values.Goals.{After-from-staged, Joined-exists-2, else-exists, else-exists-2, then-exists, then-exists-2}

stands : (c : After-from-staged) (given : ℕ → Option Bytes) → NotesBy c.args.stage.now (format_at c.args.format) c.args.size given c.args.by.now
    → Stands c.args.stage.now (format_at c.args.format) c.args.size (given c.loop-k.k) c.from-staged.result
stands c given x = rw c.from-staged.ensures (x c.loop-k.k (omega (arith, c.loop-k-test.true, c.requires.1)))

was : (c : After-from-staged) (given : ℕ → Option Bytes) (vs : List Bytes) (x : (NotesBy c.args.stage.now (format_at c.args.format) c.args.size given c.args.by.now)) (y : (Old c.args.b.now (format_at c.args.format) c.args.size vs c.args.old))
    → Was c.args.b.now (format_at c.args.format) c.args.size (get_or vs (c.loop-k.invariant given vs x y).put (null (format_at c.args.format) c.args.size)) c.if-exists.cell
was c given vs x y =
    let a = c.args in
    let f = format_at a.format in
    let g = c.loop-k.invariant given vs x y in
    let W = Was a.b.now f a.size (get_or vs g.put (null f a.size)) in
    elim c.if-exists.branch [
      | then-exists w ↦ subst W (sym w.cell-is) (stands_next given f a.size vs g y w.if-exists.true)
      | else-exists w ↦ subst W (sym w.cell-is) (missing_next given f a.size vs g y w.if-exists.false)
    ]

pub loop-k-init : goal.loop-k-init
loop-k-init c given vs x y =
    let a = c.args in
    putting_start given (format_at a.format) a.size vs a.b.now a.old y a.n a.end a.at a.out.now c.requires.4.0 c.requires.4.1

pub put_value-requires : goal.put_value-requires
put_value-requires c =
    let d = (goal.at.put_value-requires c).After-from-staged in
    let (given, x) = c.requires.2 in
    let (vs, y) = c.requires.3 in
    let g = c.loop-k.invariant given vs x y in
    (c.requires.0, (_, stands d given x), (_, was d given vs x y), (g.fits, g.room))

pub returns-in_err-p : goal.returns-in_err-p
returns-in_err-p c given vs x y =
    let a = c.args in
    let d = (goal.at.returns-in_err-p c).After-from-staged in
    let p = err_from_is_err_and c.from_residual.result c.from_residual.ensures.1 in
    rw (p.1, p.2) (putting_off given (format_at a.format) a.size vs (c.loop-k.invariant given vs x y) c.loop-k-test.true (c.put_value.ensures _ _ (stands d given x) (was d given vs x y)) _ c.in_err-p.was)

pub values_end-q-requires : goal.values_end-q-requires
values_end-q-requires c =
    let a = c.args in
    let f = format_at a.format in
    let (given, x) = c.requires.2 in
    let (vs, y) = c.requires.3 in
    let g = c.loop-k.invariant given vs x y in
    (g.were.0, (f, was_ends a.b.now f a.size (get_or vs g.put (null f a.size)) c.loop-k.q (stands_next given f a.size vs g y c.if-exists-2.true)))

-- The old values that are left, by the branch that was taken.
were : (c : Joined-exists-2) (given : ℕ → Option Bytes) (vs : List Bytes) (x : (NotesBy c.args.stage.now (format_at c.args.format) c.args.size given c.args.by.now)) (y : (Old c.args.b.now (format_at c.args.format) c.args.size vs c.args.old))
    → Were c.args.b.now (format_at c.args.format) c.args.size c.if-exists-2.q
    (c.args.old.count - suc (c.loop-k.invariant given vs x y).put) (drop (suc (c.loop-k.invariant given vs x y).put) vs)
were c given vs x y =
    let a = c.args in
    let f = format_at a.format in
    let g = c.loop-k.invariant given vs x y in
    let W : ℕ → Type 0 = λ q. Were a.b.now f a.size q (a.old.count - suc g.put) (drop (suc g.put) vs) in
    elim c.if-exists-2.branch [
      | then-exists-2 w ↦ subst W (sym w.q-is) (were_after given f a.size vs g y w.if-exists-2.true w.values_end-q.result (w.values_end-q.ensures f))
      | else-exists-2 w ↦ subst W (sym w.q-is) (were_none given f a.size vs g y w.if-exists-2.false)
    ]

pub loop-k-preserved : goal.loop-k-preserved
loop-k-preserved c given vs x y =
    let d = (goal.at.loop-k-preserved c).After-from-staged in
    putting_on given (format_at c.args.format) c.args.size vs (c.loop-k.invariant given vs x y) c.loop-k-test.true (c.put_value.ensures _ _ (stands d given x) (was d given vs x y)) _ c.in_ok-p.was _ (were (goal.at.loop-k-preserved c).Joined-exists-2 given vs x y)

pub returns : goal.returns
returns c given vs x y = putting_end given (format_at c.args.format) c.args.size vs (c.loop-k.invariant given vs x y) c.loop-k-test.false

pub returns-after-exists-2 : goal.returns-after-exists-2
returns-after-exists-2 c given vs x y =
    let d = (goal.at.returns-after-exists-2 c).After-from-staged in
    putting_end given (format_at c.args.format) c.args.size vs
    (putting_on given (format_at c.args.format) c.args.size vs (c.loop-k.invariant given vs x y) c.loop-k-test.true (c.put_value.ensures _ _ (stands d given x) (was d given vs x y)) _ c.in_ok-p.was _ (were (goal.at.returns-after-exists-2 c).Joined-exists-2 given vs x y))
    (omega arith)
