-- `format_buffer::following::trailers_after` meets its contract, by what follows the name: a length, a format, neither, or what may not.
use Rattle.std.specs.Prelude.{Some}
use mathlib.Core.Path.{◌≡◌, ap, ◌∙◌}
use native.Mathlib.Omega.{arith}
use Rattle.format_buffer.proofs.Answers.{small_format}
use Rattle.format_buffer.proofs.Joins.{bounded_as, bounded_end}
use Rattle.format_buffer.proofs.Trailers.{bounded_first}
use Rattle.format_buffer.proofs.StepLaws.{stepped_at, stepped_from, stepped_bad, first_comma, name_first, name_length, name_format, name_bad, name_given_neither, name_given_format}
use Rattle.format_buffer.proofs.following.trailers_after.Goals as goal

pub format_after-requires : goal.format_after-requires
format_after-requires c =
    let t = rw (c.in_ok-size.was ∙ ap Some c.in-Length.is) at c.trailer_at.ensures in
    (bounded_end c.bounds_at-b.ensures t.0, c.requires.1, c.requires.3, t.1)

pub returns-in-Length : goal.returns-in-Length
returns-in-Length c from h =
    let a = c.args in
    let t = rw (c.in_ok-size.was ∙ ap Some c.in-Length.is) at c.trailer_at.ensures in
    stepped_from (name_length a.f.now a.end a.n c.requires.4 _ _ _ _ (bounded_as c.bounds_at-b.ensures t.0)) (c.format_after.ensures from (omega (arith, c.bounds_at-b.ensures.from, c.bounds_at-b.ensures.order, c.bounds_at-b.ensures.upto)))

pub returns-in-Format : goal.returns-in-Format
returns-in-Format c from h =
    let a = c.args in
    let t = rw (c.in_ok-size.was ∙ ap Some c.in-Format.is) at c.trailer_at.ensures in
    stepped_at (name_format a.f.now a.end a.n c.requires.4 _ _ _ _ (bounded_as c.bounds_at-b.ensures t)) (name_given_format a.f.now a.n c.with_format.ensures c.requires.2)
    (omega (arith, c.bounds_at-b.ensures.from, c.bounds_at-b.ensures.order, c.bounds_at-b.ensures.upto)) (bounded_end c.bounds_at-b.ensures t) (rw c.with_format.ensures (small_format c.requires.1 _))

pub returns-in-Neither : goal.returns-in-Neither
returns-in-Neither c from h =
    let a = c.args in
    let t = rw (c.in_ok-size.was ∙ ap Some c.in-Neither.is) at c.trailer_at.ensures in
    let first = first_comma a.f.now a.end c.requires.4 (bounded_first c.bounds_at-b.ensures t) in
    stepped_at (name_first a.f.now a.end a.n _ _ first) (name_given_neither a.f.now a.n c.requires.2 c.requires.3)
    (omega arith) c.requires.0 c.requires.1

pub returns-in_err-size : goal.returns-in_err-size
returns-in_err-size c from h =
    let a = c.args in
    let t = rw c.in_err-size.was at c.trailer_at.ensures in
    rw c.from_residual.ensures (stepped_bad (name_bad a.f.now a.end a.n c.requires.4 _ _ (bounded_as c.bounds_at-b.ensures t)))
