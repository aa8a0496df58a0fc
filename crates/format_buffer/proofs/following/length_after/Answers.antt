-- `format_buffer::following::length_after` meets its contract: nothing follows the name, or what does is looked at.
use native.Mathlib.Omega.{arith}
use Rattle.format_buffer.proofs.StepLaws.{stepped_at, first_period, first_comma, name_first, name_given_neither}
use Rattle.format_buffer.proofs.following.length_after.Goals as goal

pub returns-then-f-end-eq-PERIOD : goal.returns-then-f-end-eq-PERIOD
returns-then-f-end-eq-PERIOD c from h =
    let a = c.args in
    stepped_at (name_first a.f.now a.end a.n _ _ (first_period a.f.now a.end c.if-f-end-eq-PERIOD.true)) (name_given_neither a.f.now a.n c.requires.2 c.requires.3)
    (omega arith) c.requires.0 c.requires.1

pub returns-then-begins_longer : goal.returns-then-begins_longer
returns-then-begins_longer c from h =
    let a = c.args in
    let first = first_comma a.f.now a.end c.if-f-end-eq-PERIOD.false (c.begins_longer.ensures c.if-begins_longer.true) in
    stepped_at (name_first a.f.now a.end a.n _ _ first) (name_given_neither a.f.now a.n c.requires.2 c.requires.3)
    (omega arith) c.requires.0 c.requires.1

pub trailers_after-requires : goal.trailers_after-requires
trailers_after-requires c = (c.requires.0, c.requires.1, c.requires.2, c.requires.3, c.if-f-end-eq-PERIOD.false)
