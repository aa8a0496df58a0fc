-- `format_buffer::pieces::after_name` meets its contract, by what follows the name: nothing, a count, a series or an index.
use mathlib.Core.Path.{refl, sym, ap, ◌∙◌}
use native.Mathlib.Omega.{arith}
use Rattle.format_buffer.specs.declared.Element.TheVariants as code
use Rattle.format_buffer.proofs.Indexes.{indexes_at, indexes_bad, index_scope}
use Rattle.format_buffer.proofs.Names.{after_name_nothing, after_name_count, after_name_series, after_name_index}
use Rattle.format_buffer.proofs.Answers.{element_bad, element_is, element_from, small_bare}
use Rattle.format_buffer.proofs.pieces.after_name.Goals as goal

pub returns-then-at-upto : goal.returns-then-at-upto
returns-then-at-upto c =
    let a = c.args in
    element_is (ap code.Named c.bare.ensures) (after_name_nothing a.name a.f.now a.at a.upto c.if-at-upto.true) (small_bare a.name) (refl, refl)

pub returns-then-alone : goal.returns-then-alone
returns-then-alone c =
    let a = c.args in
    element_is refl (after_name_count a.name a.f.now a.at a.upto (sym c.alone.ensures ∙ c.if-alone.true)) (record {}) (record {})

pub returns-then-f-at-eq-HYPHEN : goal.returns-then-f-at-eq-HYPHEN
returns-then-f-at-eq-HYPHEN c =
    let a = c.args in
    element_from
    (after_name_series a.name a.f.now a.at a.upto (omega arith) (omega arith) (sym c.alone.ensures ∙ c.if-alone.false) c.if-f-at-eq-HYPHEN.true)
    c.series_to.ensures

pub returns-in_err-x : goal.returns-in_err-x
returns-in_err-x c =
    let a = c.args in
    rw c.from_residual.ensures (element_bad
    (after_name_index a.name a.f.now a.at a.upto (omega arith) (omega arith) (sym c.alone.ensures ∙ c.if-alone.false) c.if-f-at-eq-HYPHEN.false
    (indexes_bad c.index_first.ensures c.in_err-x.was)))

pub after_index-requires : goal.after_index-requires
after_index-requires c =
    let v = indexes_at c.index_first.ensures c.in_ok-x.was in
    (v.1.1, omega arith, v.1.2, index_scope _ _ v.0)

pub returns : goal.returns
returns c =
    let a = c.args in
    let v = indexes_at c.index_first.ensures c.in_ok-x.was in
    element_from
    (after_name_index a.name a.f.now a.at a.upto (omega arith) (omega arith) (sym c.alone.ensures ∙ c.if-alone.false) c.if-f-at-eq-HYPHEN.false v.0)
    c.after_index.ensures
