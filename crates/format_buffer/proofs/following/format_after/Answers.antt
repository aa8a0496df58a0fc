-- `format_buffer::following::format_after` meets its contract, by what follows: nothing, a format, neither, or what may not.
use Rattle.std.specs.Prelude.{Some}
use mathlib.Core.Path.{◌≡◌, ap, ◌∙◌}
use native.Mathlib.Omega.{arith}
use lib.ListN.{get_or}
use Rattle.rules.specs.Characters.{period}
use Rattle.format_buffer.proofs.Answers.{small_length, small_format}
use Rattle.format_buffer.proofs.Joins.{bounded_as, bounded_end}
use Rattle.format_buffer.proofs.Trailers.{bounded_first}
use Rattle.format_buffer.proofs.StepLaws.{stepped_at, stepped_bad, first_period, first_comma, format_first, format_format, format_length, format_bad, name_given_length, name_given_both}
use Rattle.format_buffer.proofs.following.format_after.Goals as goal
use Rattle.format_buffer.proofs.following.format_after.Goals.{After-bounds_at-b}

comma : (c : After-bounds_at-b) → get_or c.args.f.now c.args.end 0 ≡ period → ⊥
comma c = c.if-f-end-eq-PERIOD.false

pub returns-then-f-end-eq-PERIOD : goal.returns-then-f-end-eq-PERIOD
returns-then-f-end-eq-PERIOD c from h =
    let a = c.args in
    stepped_at (format_first a.f.now a.end a.n a.size (first_period a.f.now a.end c.if-f-end-eq-PERIOD.true)) (name_given_length a.f.now a.n c.with_length-named.ensures c.requires.2)
    (omega arith) c.requires.0 (rw c.with_length-named.ensures (small_length c.requires.1 c.requires.3))

pub returns-then-begins_longer : goal.returns-then-begins_longer
returns-then-begins_longer c from h =
    let a = c.args in
    let first = first_comma a.f.now a.end c.if-f-end-eq-PERIOD.false (c.begins_longer.ensures c.if-begins_longer.true) in
    stepped_at (format_first a.f.now a.end a.n a.size first) (name_given_length a.f.now a.n c.with_length-named.ensures c.requires.2)
    (omega arith) c.requires.0 (rw c.with_length-named.ensures (small_length c.requires.1 c.requires.3))

pub returns-in-Format : goal.returns-in-Format
returns-in-Format c from h =
    let a = c.args in
    let t = rw (c.in_ok-c.was ∙ ap Some c.in-Format.is) at c.trailer_at.ensures in
    stepped_at (format_format a.f.now a.end a.n (comma (goal.at.returns-in-Format c).After-bounds_at-b) _ a.size _ (bounded_as c.bounds_at-b.ensures t)) (name_given_both a.f.now a.n c.with_length-named.ensures c.with_format.ensures)
    (omega (arith, c.bounds_at-b.ensures.from, c.bounds_at-b.ensures.order, c.bounds_at-b.ensures.upto)) (bounded_end c.bounds_at-b.ensures t) (rw (c.with_format.ensures, c.with_length-named.ensures) (small_format (small_length c.requires.1 c.requires.3) _))

pub returns-in-Neither : goal.returns-in-Neither
returns-in-Neither c from h =
    let a = c.args in
    let t = rw (c.in_ok-c.was ∙ ap Some c.in-Neither.is) at c.trailer_at.ensures in
    let first = first_comma a.f.now a.end (comma (goal.at.returns-in-Neither c).After-bounds_at-b) (bounded_first c.bounds_at-b.ensures t) in
    stepped_at (format_first a.f.now a.end a.n a.size first) (name_given_length a.f.now a.n c.with_length-named.ensures c.requires.2)
    (omega arith) c.requires.0 (rw c.with_length-named.ensures (small_length c.requires.1 c.requires.3))

pub returns-in-Length : goal.returns-in-Length
returns-in-Length c from h =
    let a = c.args in
    let t = rw (c.in_ok-c.was ∙ ap Some c.in-Length.is) at c.trailer_at.ensures in
    stepped_bad (format_length a.f.now a.end a.n (comma (goal.at.returns-in-Length c).After-bounds_at-b) _ a.size _ (bounded_as c.bounds_at-b.ensures t.0))

pub returns-in_err-c : goal.returns-in_err-c
returns-in_err-c c from h =
    let a = c.args in
    let t = rw c.in_err-c.was at c.trailer_at.ensures in
    rw c.from_residual.ensures (stepped_bad (format_bad a.f.now a.end a.n (comma (goal.at.returns-in_err-c c).After-bounds_at-b) a.size (bounded_as c.bounds_at-b.ensures t)))
