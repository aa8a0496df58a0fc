-- `format_buffer::following::trailer_at` meets its contract: the first byte and what follows it choose the rule.
use mathlib.Core.Path.{◌≡◌, refl, sym, ◌∙◌}
use mathlib.Core.Bool.{false}
use mathlib.Core.List.{[], ◌∷◌}
use native.Mathlib.Omega.{arith}
use lib.ListN.{get_or}
use Rattle.rules.specs.Characters.{digit}
use Rattle.rules.specs.Format.{piece}
use Rattle.format_buffer.specs.Part.{part}
use Rattle.format_buffer.specs.Pieces.{number_piece}
use Rattle.format_buffer.proofs.Names.{numbered_value, numbered_bad}
use Rattle.format_buffer.proofs.PieceLaws.{number_length, number_large, number_only, single_format, single_bad, piece_nothing, piece_one}
use Rattle.format_buffer.proofs.Trailers.{only_from, longer_only, digit_piece, number_read}
use Rattle.format_buffer.proofs.following.trailer_at.Goals as goal
use Rattle.format_buffer.proofs.following.trailer_at.Goals.{Else-is_digit, Then-is_digit, Then-last-first-eq1}

refused_as : (c : Then-is_digit)
    → piece (part c.args.f.now c.args.first c.args.last) ≡ number_piece (part c.args.f.now c.args.first c.args.last)
refused_as c =
    let a = c.args in
    digit_piece a.f.now a.first a.last (omega arith) (omega arith) (sym c.is_digit.ensures ∙ c.if-is_digit.true)

no_digit : (c : Else-is_digit) → digit (get_or c.args.f.now c.args.first 0) ≡ false
no_digit c = sym c.is_digit.ensures ∙ c.if-is_digit.false

as_one : (c : Then-last-first-eq1) → let a = c.args in piece (part a.f.now a.first a.last) ≡ piece (get_or a.f.now a.first 0 ∷ [])
as_one c = let a = c.args in piece_one a.f.now a.first a.last (omega arith) c.if-last-first-eq1.true

pub returns-then-first-last : goal.returns-then-first-last
returns-then-first-last c =
    let a = c.args in
    piece_nothing a.f.now a.first a.last (omega arith) c.if-first-last.true

pub returns-in_err-n : goal.returns-in_err-n
returns-in_err-n c = rw c.from_residual.ensures (refused_as (goal.at.returns-in_err-n c).Then-is_digit ∙ rw (numbered_bad c.number_first.ensures c.in_err-n.was) refl)

pub returns-then-p-last : goal.returns-then-p-last
returns-then-p-last c =
    let v = numbered_value c.number_first.ensures c.in_ok-n.was in
    only_from (refused_as (goal.at.returns-then-p-last c).Then-is_digit ∙ number_read v.0) (number_only _ c.args.f.now _ c.args.last (omega (arith, v.1)) (omega arith))

pub returns-then-n-gt-GREATEST_LENGTH : goal.returns-then-n-gt-GREATEST_LENGTH
returns-then-n-gt-GREATEST_LENGTH c =
    let v = numbered_value c.number_first.ensures c.in_ok-n.was in
    refused_as (goal.at.returns-then-n-gt-GREATEST_LENGTH c).Then-is_digit ∙ number_read v.0 ∙ number_large _ c.args.f.now _ c.args.last c.if-p-last.false (omega arith)

pub returns-then-is_digit : goal.returns-then-is_digit
returns-then-is_digit c =
    let v = numbered_value c.number_first.ensures c.in_ok-n.was in
    (refused_as (goal.at.returns-then-is_digit c).Then-is_digit ∙ number_read v.0 ∙ number_length _ c.args.f.now _ c.args.last c.if-p-last.false (omega arith), omega arith)

pub returns-then-is_override : goal.returns-then-is_override
returns-then-is_override c = as_one (goal.at.returns-then-is_override c).Then-last-first-eq1 ∙ single_format _ (no_digit (goal.at.returns-then-is_override c).Else-is_digit) (sym c.is_override.ensures ∙ c.if-is_override.true)

pub returns-then-last-first-eq1 : goal.returns-then-last-first-eq1
returns-then-last-first-eq1 c = as_one (goal.at.returns-then-last-first-eq1 c).Then-last-first-eq1 ∙ single_bad _ (no_digit (goal.at.returns-then-last-first-eq1 c).Else-is_digit) (sym c.is_override.ensures ∙ c.if-is_override.false)

pub returns : goal.returns
returns c =
    let a = c.args in
    longer_only a.f.now a.first a.last (omega arith) (omega arith) (no_digit (goal.at.returns c).Else-is_digit)
