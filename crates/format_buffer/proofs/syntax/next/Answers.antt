-- `format_buffer::syntax::next` meets its contract: the piece at the place begins an element, or the syntax is bad.
use Rattle.std.specs.Prelude.{Some}
use mathlib.Core.Path.{ap, ◌∙◌}
use Rattle.format_buffer.proofs.StepLaws.{looked_as, stepped_from, stepped_bad, first_element, first_length, first_format, first_bad}
use Rattle.format_buffer.proofs.syntax.next.Goals as goal

pub completed-requires : goal.completed-requires
completed-requires c =
    let w = looked_as c.text_at-first.ensures (c.in_ok-e.was ∙ ap Some c.in-Element.is) in
    (w.place.1, w.sound.0, w.sound.1)

pub returns-in-Element : goal.returns-in-Element
returns-in-Element c =
    let a = c.args in
    let w = looked_as c.text_at-first.ensures (c.in_ok-e.was ∙ ap Some c.in-Element.is) in
    stepped_from (first_element a.f.now a.at _ _ w) (c.completed.ensures a.at w.place.0)

pub returns-in-Length : goal.returns-in-Length
returns-in-Length c =
    let a = c.args in
    stepped_bad (first_length a.f.now a.at _ _ (looked_as c.text_at-first.ensures (c.in_ok-e.was ∙ ap Some c.in-Length.is)))

pub returns-in-Format : goal.returns-in-Format
returns-in-Format c =
    let a = c.args in
    stepped_bad (first_format a.f.now a.at _ _ (looked_as c.text_at-first.ensures (c.in_ok-e.was ∙ ap Some c.in-Format.is)))

pub returns-in_err-e : goal.returns-in_err-e
returns-in_err-e c =
    let a = c.args in
    rw c.from_residual.ensures (stepped_bad (first_bad a.f.now a.at _ (looked_as c.text_at-first.ensures c.in_err-e.was)))
