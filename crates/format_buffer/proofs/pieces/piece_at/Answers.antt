-- `format_buffer::pieces::piece_at` meets its contract: the first bytes choose the rule, and its function answers.
use mathlib.Core.Path.{refl, sym, ◌∙◌}
use native.Mathlib.Omega.{arith}
use Rattle.format_buffer.proofs.PieceLaws.{piece_nothing, piece_one, piece_text, piece_number, piece_name}
use Rattle.format_buffer.proofs.Answers.{pieced_bad, pieced_from}
use Rattle.format_buffer.proofs.pieces.piece_at.Goals as goal

pub returns-then-at-upto : goal.returns-then-at-upto
returns-then-at-upto c =
    let a = c.args in
    pieced_bad (piece_nothing a.f.now a.at a.upto (omega arith) c.if-at-upto.true)

pub returns-then-upto-at-eq1 : goal.returns-then-upto-at-eq1
returns-then-upto-at-eq1 c =
    let a = c.args in
    pieced_from (piece_one a.f.now a.at a.upto (omega arith) c.if-upto-at-eq1.true) (c.single.ensures a.f.now)

pub returns-then-a-eq-APOSTROPHE : goal.returns-then-a-eq-APOSTROPHE
returns-then-a-eq-APOSTROPHE c =
    let a = c.args in
    pieced_from (piece_text a.f.now a.at a.upto (omega arith) (omega arith) c.if-a-eq-APOSTROPHE.true) c.text_piece.ensures

pub returns-then-is_digit : goal.returns-then-is_digit
returns-then-is_digit c =
    let a = c.args in
    pieced_from
    (piece_number a.f.now a.at a.upto (omega arith) (omega arith) c.if-a-eq-APOSTROPHE.false (sym c.is_digit.ensures ∙ c.if-is_digit.true))
    c.number_piece.ensures

pub returns-then-is_name : goal.returns-then-is_name
returns-then-is_name c =
    let a = c.args in
    pieced_from
    (piece_name a.f.now a.at a.upto (omega arith) (omega arith) c.if-a-eq-APOSTROPHE.false (sym c.is_digit.ensures ∙ c.if-is_digit.false)
    ∙ rw (← c.is_name.ensures, c.if-is_name.true, ← c.name_of.ensures) refl)
    c.after_name.ensures

pub returns-else-is_name : goal.returns-else-is_name
returns-else-is_name c =
    let a = c.args in
    pieced_bad
    (piece_name a.f.now a.at a.upto (omega arith) (omega arith) c.if-a-eq-APOSTROPHE.false (sym c.is_digit.ensures ∙ c.if-is_digit.false)
    ∙ rw (← c.is_name.ensures, c.if-is_name.false) refl)
