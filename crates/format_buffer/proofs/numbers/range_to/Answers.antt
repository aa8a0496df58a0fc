-- `format_buffer::numbers::range_to` meets its contract: no range begins with N, and a range that begins with a number ends with a number, or with N after 1.
use mathlib.Core.Path.{◌≡◌, sym, ap, ◌∙◌}
use native.Mathlib.Omega.{arith}
use borrow.Author.Rules.{rules}
use denote.Enum.Bare.{same_true, same_false, differs_true, differs_false}
use Rattle.rules.specs.Outcome.{done}
use Rattle.format_buffer.specs.Part.{part}
use Rattle.format_buffer.specs.Elements.{range, reaching}
use Rattle.format_buffer.specs.contracts.Scope.{the_type}
use Rattle.format_buffer.specs.declared.Scope.TheVariants.{AsWritten, UpToLast}
use Rattle.format_buffer.proofs.Indexes.{indexes_at, indexes_bad, range_to_none, range_to_bad, range_to_number, range_to_last, range_to_other, small_written, small_N}
use Rattle.format_buffer.proofs.numbers.range_to.Goals as goal
use Rattle.format_buffer.proofs.numbers.range_to.Goals.{Else-ne}

-- The range begins with a number.
written : (c : Else-ne) → c.args.x.scope ≡ AsWritten
written c = differs_false the_type (search rules) _ _ (sym c.ne.ensures ∙ c.if-ne.false)

pub returns-then-ne : goal.returns-then-ne
returns-then-ne c = record { answer = range_to_none c.args.x _ (differs_true the_type _ _ (sym c.ne.ensures ∙ c.if-ne.true)); place = tt }

pub returns-in_err-y : goal.returns-in_err-y
returns-in_err-y c =
    rw c.from_residual.ensures record {
      answer = range_to_bad c.args.x _ (written (goal.at.returns-in_err-y c).Else-ne) (indexes_bad c.index_first.ensures c.in_err-y.was);
      place = tt;
    }

pub returns-then-eq : goal.returns-then-eq
returns-then-eq c =
    let v = indexes_at c.index_first.ensures c.in_ok-y.was in
    let h = written (goal.at.returns-then-eq c).Else-ne in
    record {
      answer =
          range_to_number c.args.x _ h c.in_ok-y.y v.0 (same_true the_type (search rules) _ _ (sym c.eq.ensures ∙ c.if-eq.true))
          ∙ ap (λ s. done (reaching s (range c.args.x.from c.in_ok-y.y.upto), part c.args.f.now c.in_ok-y.p c.args.upto)) (sym h);
      place = (v.1.0, v.1.1, small_written _ c.requires.2.from v.1.2.upto h);
    }

pub returns-then-x-ne1 : goal.returns-then-x-ne1
returns-then-x-ne1 c =
    let v = indexes_at c.index_first.ensures c.in_ok-y.was in
    let k : c.in_ok-y.y.scope ≡ AsWritten → ⊥ = same_false the_type _ _ (sym c.eq.ensures ∙ c.if-eq.false) in
    record { answer = range_to_other c.args.x _ (written (goal.at.returns-then-x-ne1 c).Else-ne) c.in_ok-y.y v.0 k c.if-x-ne1.true; place = tt }

pub returns : goal.returns
returns c =
    let v = indexes_at c.index_first.ensures c.in_ok-y.was in
    let k : c.in_ok-y.y.scope ≡ AsWritten → ⊥ = same_false the_type _ _ (sym c.eq.ensures ∙ c.if-eq.false) in
    record {
      answer = range_to_last c.args.x _ (written (goal.at.returns c).Else-ne) c.in_ok-y.y v.0 k c.if-x-ne1.false;
      place = (v.1.0, v.1.1, small_N UpToLast);
    }
