-- `format_buffer::numbers::index_first` meets its contract: nothing, N, or a number.
use mathlib.Core.Path.{refl}
use native.Mathlib.Omega.{arith}
use Rattle.format_buffer.specs.declared.Scope.TheVariants.{LastAlone}
use Rattle.format_buffer.proofs.Names.{numbered_value, numbered_bad}
use Rattle.format_buffer.proofs.Indexes.{index_nothing, index_last, index_number, small_written, small_N}
use Rattle.format_buffer.proofs.numbers.index_first.Goals as goal

pub returns-then-at-upto : goal.returns-then-at-upto
returns-then-at-upto c =
    let a = c.args in
    record { answer = index_nothing a.f.now a.at a.upto c.if-at-upto.true; place = tt }

pub returns-then-f-at : goal.returns-then-f-at
returns-then-f-at c =
    let a = c.args in
    record {
      answer = index_last a.f.now a.at a.upto (omega arith) (omega arith) c.if-f-at.true;
      place = (omega arith, omega arith, small_N LastAlone);
    }

pub returns-in_err-n : goal.returns-in_err-n
returns-in_err-n c =
    let a = c.args in
    rw c.from_residual.ensures record {
      answer = index_number a.f.now a.at a.upto (omega arith) (omega arith) c.if-f-at.false (numbered_bad c.number_first.ensures c.in_err-n.was);
      place = tt;
    }

pub returns : goal.returns
returns c =
    let a = c.args in
    let v = numbered_value c.number_first.ensures c.in_ok-n.was in
    record {
      answer = index_number a.f.now a.at a.upto (omega arith) (omega arith) c.if-f-at.false v.0;
      place = (v.1.0, v.1.1, small_written _ v.1.2 v.1.2 refl);
    }
