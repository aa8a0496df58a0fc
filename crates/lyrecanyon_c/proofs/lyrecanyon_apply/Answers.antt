-- An answer of `apply` tells the outcome, and with it the length of the record.
use Rattle.std.proofs.Common.{◌≡◌, ◌∙◌, sym, refl, ℕ, length, take, Result, Ok, Err}
use Rattle.std.specs.Result.{result_unwrap_or}
use Rattle.rules.specs.Services.{update}
use Rattle.rules.specs.declared.Refusal.{Refusal}
use Rattle.rules.proofs.Numbered.{update_numbered}
use Rattle.lyrecanyon.proofs.Settling.{applied}
use Rattle.lyrecanyon_c.proofs.lyrecanyon_apply.Goals as goal
use Rattle.lyrecanyon_c.proofs.lyrecanyon_apply.Goals.{in-Ok, in_default}

-- Where an answer has no length, the length that was stays.
stays : (r : Result ℕ Refusal) (used : ℕ) → ((n : ℕ) → r ≡ Ok n → ⊥) → used ≡ result_unwrap_or r used
stays (Ok n) used h = absurd (h n refl)
stays (Err x) used h = refl

pub returns : goal.returns
returns c =
    let a = c.args in
    let s = take a.used.now a.stored.now in
    let room = length a.stored.now in
    let o = update a.table.now s a.format.now a.buffer.now room in
    let left : c.match-answer.used ≡ result_unwrap_or c.apply-answer.result a.used.now = elim c.match-answer.branch [
      | in-Ok w ↦ rw (w.used-is, w.in-Ok.is) refl
      | in_default w ↦ rw w.used-is (stays c.apply-answer.result a.used.now w.in_default.not-Ok)
    ] in
    let same : c.match-answer.answer ≡ c.apply-answer.result = elim c.match-answer.branch [ in-Ok w ↦ w.answer-is ∙ sym w.in-Ok.is | in_default w ↦ w.answer-is ] in
    rw (left, c.number.ensures, same) (applied o (update_numbered a.table.now s a.format.now a.buffer.now room) a.stored.now c.apply-answer.new.stored a.used.now c.apply-answer.result c.apply-answer.ensures)
