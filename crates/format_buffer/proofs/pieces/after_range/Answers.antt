-- `format_buffer::pieces::after_range` meets its contract, by what follows the indexes: nothing, or where they are not `1-N`, a parenthesis.
use mathlib.Core.Path.{◌≡◌, refl, sym, ap, ◌∙◌}
use denote.Enum.Bare.{same_false}
use Rattle.format_buffer.specs.contracts.Scope.{the_type}
use mathlib.Core.Bool.{true}
use native.Mathlib.Omega.{arith}
use Rattle.rules.specs.Format.{takes_parenthesis}
use Rattle.format_buffer.specs.Elements.{indexing_of, bare_name, with_occurrences, with_values}
use Rattle.format_buffer.specs.declared.Element.TheVariants as code
use Rattle.format_buffer.proofs.Indexes.{others_bracketed}
use Rattle.format_buffer.proofs.Names.{after_range_nothing, after_range_none, after_range_open}
use Rattle.format_buffer.proofs.Answers.{bracketed_values, bracketed_bad, element_bad, element_is, small_bare, small_occurrences, small_values}
use Rattle.format_buffer.proofs.pieces.after_range.Goals as goal
use Rattle.format_buffer.proofs.pieces.after_range.Goals.{After-parenthesis, After-with_occurrences-n}

occurring : (c : After-with_occurrences-n) → c.with_occurrences-n.result ≡ with_occurrences (bare_name c.args.name) c.args.x
occurring c = c.with_occurrences-n.ensures ∙ ap (λ n. with_occurrences n c.args.x) c.bare.ensures

bracketed : (c : After-parenthesis) → takes_parenthesis (indexing_of c.args.x) ≡ true
bracketed c = others_bracketed c.args.x (same_false the_type _ _ (sym c.eq.ensures ∙ c.if-eq.false))

pub returns-then-at-upto : goal.returns-then-at-upto
returns-then-at-upto c =
    let a = c.args in
    element_is (ap code.Named (occurring (goal.at.returns-then-at-upto c).After-with_occurrences-n))
    (after_range_nothing a.name (indexing_of a.x) a.f.now a.at a.upto c.if-at-upto.true)
    (small_occurrences (small_bare a.name) c.requires.2)
    (refl, refl)

pub returns-then-f-at-ne-OPEN : goal.returns-then-f-at-ne-OPEN
returns-then-f-at-ne-OPEN c =
    let a = c.args in
    element_bad (after_range_none a.name (indexing_of a.x) a.f.now a.at a.upto (omega arith) (omega arith) c.if-f-at-ne-OPEN.true)

pub returns-in_err-v : goal.returns-in_err-v
returns-in_err-v c =
    let a = c.args in
    rw c.from_residual.ensures (element_bad
    (after_range_open a.name (indexing_of a.x) a.f.now a.at a.upto (omega arith) (omega arith)
    (bracketed (goal.at.returns-in_err-v c).After-parenthesis) c.if-f-at-ne-OPEN.false
    (bracketed_bad c.parenthesis.ensures c.in_err-v.was)))

pub returns : goal.returns
returns c =
    let a = c.args in
    let v = bracketed_values c.parenthesis.ensures c.in_ok-v.was in
    element_is
    (ap code.Named (c.with_values.ensures ∙ ap (λ n. with_values n c.in_ok-v.v) (occurring (goal.at.returns c).After-with_occurrences-n)))
    (after_range_open a.name (indexing_of a.x) a.f.now a.at a.upto (omega (arith, c.requires, c.if-at-upto.false)) c.requires.1
    (bracketed (goal.at.returns c).After-parenthesis) c.if-f-at-ne-OPEN.false v.0)
    (small_values (small_occurrences (small_bare a.name) c.requires.2) v.1)
    (refl, refl)
