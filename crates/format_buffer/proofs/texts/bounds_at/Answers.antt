-- `format_buffer::texts::bounds_at` meets its contract: the text ends at the place that was found, and its bytes without spaces are those between the bounds.
use native.Mathlib.Omega.{arith}
use Rattle.format_buffer.proofs.Joins.{pending_none, pending_some, trim_at}
use Rattle.format_buffer.proofs.texts.bounds_at.Goals as goal

pub returns-then-end-f : goal.returns-then-end-f
returns-then-end-f c =
    let a = c.args in
    record {
      answer = pending_none a.f.now a.at _ c.text_end-end.ensures.0 (omega (arith, c.if-end-f.true));
      from = omega arith;
      order = omega arith;
      upto = omega (arith, c.text_end-end.ensures.0);
      inside = c.text_end-end.ensures.1;
      ended = λ h. omega arith;
    }

pub returns : goal.returns
returns c =
    let a = c.args in
    let t = trim_at a.f.now a.at c.text_end-end.result c.first_place-first.result c.last_place-last.result c.last_place-last.ensures.answer c.first_place-first.ensures.answer in
    record {
      answer = pending_some a.f.now a.at c.text_end-end.result c.text_end-end.ensures.0 (omega arith) t;
      from = c.first_place-first.ensures.low;
      order = c.first_place-first.ensures.high;
      upto = c.last_place-last.ensures.high;
      inside = c.text_end-end.ensures.1;
      ended = λ h. omega arith;
    }
