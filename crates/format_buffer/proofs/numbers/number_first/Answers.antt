use mathlib.Core.Bool.{not}
use mathlib.Core.Path.{◌≡◌, sym, ◌∙◌, ap}
use native.Mathlib.Omega.{arith}
use borrow.Author.Tests.{not-true, not-false}
use Rattle.format_buffer.proofs.Digits.{read_first, read_turn, read_stop, read_end, read_value, read_nothing, read_none}
use Rattle.format_buffer.proofs.numbers.number_first.Goals as goal

pub returns-then-at-upto : goal.returns-then-at-upto
returns-then-at-upto c =
    let a = c.args in
    record { answer = read_nothing a.f.now a.at a.upto c.if-at-upto.true; place = tt }

pub returns-then-not-is_digit : goal.returns-then-not-is_digit
returns-then-not-is_digit c =
    let a = c.args in
    record {
      answer =
          read_none a.f.now a.at a.upto (omega arith) (omega arith)
          (sym c.is_digit.ensures ∙ not-true c.is_digit.result (ap not c.if-not-is_digit.true));
      place = tt;
    }

pub digit_of-n-requires : goal.digit_of-n-requires
digit_of-n-requires c = sym c.is_digit.ensures ∙ not-false c.is_digit.result (ap not c.if-not-is_digit.false)

pub loop-i-init : goal.loop-i-init
loop-i-init c = read_first (omega arith) (omega arith) (sym c.is_digit.ensures ∙ not-false c.is_digit.result (ap not c.if-not-is_digit.false)) c.digit_of-n.ensures.0 c.digit_of-n.ensures.1

pub returns-then-not-is_digit-2 : goal.returns-then-not-is_digit-2
returns-then-not-is_digit-2 c =
    record {
      answer = read_stop c.loop-i.invariant (omega arith) (sym c.is_digit-in-loop-i.ensures ∙ not-true c.is_digit-in-loop-i.result (ap not c.if-not-is_digit-2.true));
      place = (omega arith, omega arith, read_value c.loop-i.invariant);
    }

pub overflow_mul-n : goal.overflow_mul-n
overflow_mul-n c = omega (arith, read_value c.loop-i.invariant)

pub digit_of-requires : goal.digit_of-requires
digit_of-requires c = sym c.is_digit-in-loop-i.ensures ∙ not-false c.is_digit-in-loop-i.result (ap not c.if-not-is_digit-2.false)

pub overflow_add-n : goal.overflow_add-n
overflow_add-n c = omega (arith, c.digit_of.ensures.1, read_value c.loop-i.invariant)

pub loop-i-preserved : goal.loop-i-preserved
loop-i-preserved c =
    read_turn c.loop-i.invariant (omega arith)
    (sym c.is_digit-in-loop-i.ensures ∙ not-false c.is_digit-in-loop-i.result (ap not c.if-not-is_digit-2.false)) (λ e. omega arith) c.digit_of.ensures.0 c.digit_of.ensures.1

pub returns : goal.returns
returns c =
    let e : c.loop-i.i ≡ c.args.upto = omega arith in
    let w = read_end c.loop-i.invariant (omega arith) in
    record { answer = rw e at w; place = (omega arith, omega arith, read_value c.loop-i.invariant) }
