use Rattle.std.specs.Prelude.{◌≡◌, None, Some}
use mathlib.Core.Path.{refl, sym, ◌∙◌}
use native.Mathlib.Omega.{arith}
use lib.ListN.{drop}
use Rattle.std.proofs.lemmas.Result.{err_from_is_err_and}
use Rattle.rules.specs.declared.Refusal.TheVariants.{BadSyntax}
use Rattle.format_buffer.specs.Syntax.{parsed, Stepped}
use Rattle.tables.specs.Entries.{entries_of}
use Rattle.uses.proofs.Decoding.{step_as, decode_long, decode_start, decode_bad, decode_as, decode_last, decode_more}
use Rattle.uses.proofs.kept.decode.Goals as goal
use Rattle.uses.proofs.kept.decode.Goals.{In_ok-e}

pub returns-then-f-gt-LONGEST_FORMAT : goal.returns-then-f-gt-LONGEST_FORMAT
returns-then-f-gt-LONGEST_FORMAT c = let a = c.args in (decode_long (entries_of a.t.now) a.f.now a.kept.now c.if-f-gt-LONGEST_FORMAT.true, refl)

pub loop-e-init : goal.loop-e-init
loop-e-init c = (omega arith, refl, refl, omega arith, decode_start _ _ _ c.if-f-gt-LONGEST_FORMAT.false)

pub returns-in_err-e : goal.returns-in_err-e
returns-in_err-e c =
    let p = err_from_is_err_and c.from_residual.result c.from_residual.ensures.1 in
    let none : c.next.result ≡ None = grind arith in
    let bad : c.in_err-e.field-0.0 ≡ BadSyntax = grind arith in
    rw (p.1, p.2, bad) (decode_bad _ (decode_as (step_as none c.next.ensures).answer c.loop-e.invariant.4), c.loop-e.invariant.2)

stepped : (c : In_ok-e) → Stepped c.args.f.now c.loop-e.at (parsed (drop c.loop-e.at c.args.f.now)) (Some (c.in_ok-e.e, c.in_ok-e.stop))
stepped c = let some : c.next.result ≡ Some (c.in_ok-e.e, c.in_ok-e.stop) = grind arith in step_as some c.next.ensures

pub keep_element-d-requires : goal.keep_element-d-requires
keep_element-d-requires c =
    let q = (stepped (goal.at.keep_element-d-requires c).In_ok-e).place in
    (c.requires.0, c.loop-e.invariant.1, omega (arith, q.0, q.1, c.requires.1, c.loop-e.invariant.2, c.loop-e.invariant.3), (c.args.f.now, q.2, c.if-f-gt-LONGEST_FORMAT.false))

pub is_last-requires : goal.is_last-requires
is_last-requires c = (stepped (goal.at.is_last-requires c).In_ok-e).place.1

pub returns-then-is_last : goal.returns-then-is_last
returns-then-is_last c =
    let s = stepped (goal.at.returns-then-is_last c).In_ok-e in
    let k = c.keep_element-d.ensures in (
      decode_last s c.loop-e.invariant.4 k (sym c.is_last.ensures ∙ c.if-is_last.true) (omega (arith, s.place.0, s.place.1, c.requires.1, c.loop-e.invariant.2, c.loop-e.invariant.3, k.more, k.room)),
      k.room ∙ c.loop-e.invariant.2,
    )

pub overflow_add-at : goal.overflow_add-at
overflow_add-at c = omega (arith, (stepped (goal.at.overflow_add-at c).In_ok-e).place.1)

pub loop-e-smaller : goal.loop-e-smaller
loop-e-smaller c = let q = (stepped (goal.at.loop-e-smaller c).In_ok-e).place in omega (arith, q.0, q.1)

pub loop-e-preserved : goal.loop-e-preserved
loop-e-preserved c =
    let s = stepped (goal.at.loop-e-preserved c).In_ok-e in
    let k = c.keep_element-d.ensures in (
      omega (arith, s.place.1),
      k.same ∙ c.loop-e.invariant.1,
      k.room ∙ c.loop-e.invariant.2,
      omega (arith, s.place.0, k.more, c.loop-e.invariant.3),
      decode_more s c.loop-e.invariant.4 k (sym c.is_last.ensures ∙ c.if-is_last.false),
    )
