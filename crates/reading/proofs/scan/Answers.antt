use Rattle.std.specs.Prelude.{Option, Some, ℕ}
use Rattle.std.specs.Option.{ok_or}
use mathlib.Core.Path.{◌≡◌, refl, sym, ◌∙◌, ap}
use native.Mathlib.Omega.{arith}
use lib.ListN.{drop}
use Rattle.rules.specs.declared.Refusal.TheVariants.{BadSyntax}
use Rattle.format_buffer.specs.declared.Element.{Element}
use Rattle.format_buffer.specs.Syntax.{parsed, Stepped}
use Rattle.tables.specs.Entries.{entries_of}
use Rattle.uses.proofs.Decoding.{step_as}
use Rattle.reading.proofs.Passing.{handed_on}
use Rattle.reading.proofs.Scanning.{scan_long, scan_start, scan_bad, scan_last, scan_more, scan_as_answer}
use Rattle.reading.specs.Scan.{answer_of, Scans}
use Rattle.reading.proofs.scan.Goals as goal
use Rattle.reading.proofs.scan.Goals.{In_ok-e, Then-is_last}

pub returns-then-f-gt-LONGEST_FORMAT : goal.returns-then-f-gt-LONGEST_FORMAT
returns-then-f-gt-LONGEST_FORMAT c =
    let a = c.args in
    scan_long (entries_of a.t.now) a.b.now a.places.now a.f.now a.end a.write a.out.now c.if-f-gt-LONGEST_FORMAT.true

pub loop-e-init : goal.loop-e-init
loop-e-init c = (omega arith, refl, scan_start c.if-f-gt-LONGEST_FORMAT.false)

pub returns-in_err-e : goal.returns-in_err-e
returns-in_err-e c =
    let none = c.in_err-e.ensures.ok_part in
    let e : c.in_err-e.field-0.0 ≡ BadSyntax = cc (c.in_err-e.ensures.value ∙ ap (λ (o : Option (Element × ℕ)). ok_or o BadSyntax) none) in
    rw (handed_on c.from_residual.result c.from_residual.ensures.1, e)
    (scan_bad c.loop-e.invariant.2 (step_as none c.next.ensures).answer)

stepped : (c : In_ok-e) → Stepped c.args.f.now c.loop-e.at (parsed (drop c.loop-e.at c.args.f.now)) (Some (c.in_ok-e.e, c.in_ok-e.stop))
stepped c = step_as c.in_ok-e.ensures.ok_part c.next.ensures

-- All elements are put.
all : (c : Then-is_last) → let a = c.args in Scans (entries_of a.t.now) a.b.now a.places.now a.f.now a.end a.write a.out.now c.put_element-state.new.out (answer_of c.put_element-state.result)
all c = scan_last (step_as c.in_ok-e.ensures.ok_part c.next.ensures) c.loop-e.invariant.2 c.put_element-state.ensures (sym c.is_last.ensures ∙ c.if-is_last.true)

pub returns-in_err-state : goal.returns-in_err-state
returns-in_err-state c =
    scan_as_answer _ _ (handed_on c.from_residual-in_err-state.result c.from_residual-in_err-state.ensures.1 ∙ sym (ap answer_of c.in_err-state.was)) (all (goal.at.returns-in_err-state c).Then-is_last)

pub returns-then-is_last : goal.returns-then-is_last
returns-then-is_last c = scan_as_answer _ _ (sym (ap answer_of c.in_ok-state.was)) (all (goal.at.returns-then-is_last c).Then-is_last)

pub loop-e-preserved : goal.loop-e-preserved
loop-e-preserved c =
    let t = stepped (goal.at.loop-e-preserved c).In_ok-e in
    (omega (arith, t.place.1), c.put_element-state.ensures.same ∙ c.loop-e.invariant.1, scan_more t c.loop-e.invariant.2 c.put_element-state.ensures (sym c.is_last.ensures ∙ c.if-is_last.false))
