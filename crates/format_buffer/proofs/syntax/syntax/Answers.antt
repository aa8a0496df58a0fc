use Rattle.std.specs.Prelude.{None, Option, Some}
use mathlib.Core.Path.{◌≡◌, refl, sym, ap, ◌∙◌}
use native.Mathlib.Omega.{arith}
use Rattle.rules.specs.Outcome.{is_done}
use Rattle.format_buffer.proofs.StepLaws.{elements_parsed, elements_long, step_known, good_more, good_last, good_bad}
use Rattle.format_buffer.proofs.syntax.syntax.Goals as goal

nothing : {A : Type 0} (o : Option A) → ((x : A) → o ≡ Some x → ⊥) → o ≡ None
nothing None h = refl
nothing (Some x) h = absurd (h x refl)

pub returns-then-f-gt-LONGEST_FORMAT : goal.returns-then-f-gt-LONGEST_FORMAT
returns-then-f-gt-LONGEST_FORMAT c = sym (ap is_done (elements_long c.args.f.now c.if-f-gt-LONGEST_FORMAT.true))

pub loop-stop-init : goal.loop-stop-init
loop-stop-init c = (omega arith, sym (ap is_done (elements_parsed c.args.f.now c.if-f-gt-LONGEST_FORMAT.false)))

pub is_last-requires : goal.is_last-requires
is_last-requires c = (step_known c.next.ensures _ _ c.in-Some.is).1

pub returns-then-is_last : goal.returns-then-is_last
returns-then-is_last c = good_last c.next.ensures _ _ c.in-Some.is (sym c.is_last.ensures ∙ c.if-is_last.true) ∙ c.loop-stop.invariant.1

pub overflow_add-at : goal.overflow_add-at
overflow_add-at c = omega (arith, step_known c.next.ensures _ _ c.in-Some.is)

pub loop-stop-smaller : goal.loop-stop-smaller
loop-stop-smaller c = omega (arith, step_known c.next.ensures _ _ c.in-Some.is)

pub loop-stop-preserved : goal.loop-stop-preserved
loop-stop-preserved c = (omega (arith, step_known c.next.ensures _ _ c.in-Some.is), good_more c.next.ensures _ _ c.in-Some.is (sym c.is_last.ensures ∙ c.if-is_last.false) ∙ c.loop-stop.invariant.1)

pub returns : goal.returns
returns c = good_bad c.next.ensures (nothing c.next.result c.in_default.not-Some) ∙ c.loop-stop.invariant.1
