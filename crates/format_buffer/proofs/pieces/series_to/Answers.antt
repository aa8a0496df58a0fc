-- `format_buffer::pieces::series_to` meets its contract: two bytes that are a name, or not.
use mathlib.Core.Path.{refl, ap, ◌∙◌}
use native.Mathlib.Omega.{arith}
use Rattle.format_buffer.specs.declared.Element.TheVariants as code
use Rattle.format_buffer.proofs.Names.{series_two, series_other}
use Rattle.format_buffer.proofs.Answers.{element_bad, element_is}
use Rattle.format_buffer.proofs.pieces.series_to.Goals as goal

pub returns-then-upto-at-ne2 : goal.returns-then-upto-at-ne2
returns-then-upto-at-ne2 c =
    let a = c.args in
    element_bad (series_other a.name a.f.now a.at a.upto (omega arith) c.if-upto-at-ne2.true)

pub returns-then-is_name : goal.returns-then-is_name
returns-then-is_name c =
    let a = c.args in
    element_is (ap (code.Series a.name) c.name_of.ensures)
    (series_two a.name a.f.now a.at a.upto (omega arith) c.if-upto-at-ne2.false ∙ rw (← c.is_name.ensures, c.if-is_name.true) refl)
    tt tt

pub returns-else-is_name : goal.returns-else-is_name
returns-else-is_name c =
    let a = c.args in
    element_bad (series_two a.name a.f.now a.at a.upto (omega arith) c.if-upto-at-ne2.false ∙ rw (← c.is_name.ensures, c.if-is_name.false) refl)
