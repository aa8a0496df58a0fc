-- `decimals::is_normal` meets its contract: a value is in normal form where its sign is the one that is written.
use mathlib.Core.Path.{sym, ◌∙◌}
use Rattle.decimals.proofs.Sound.{sound}
use Rattle.decimals.proofs.Normal.{form_sign}
use Rattle.fixed.proofs.NormalForm.{no_form}
use Rattle.decimals.proofs.is_normal.Goals as goal

pub negative-requires : goal.negative-requires
negative-requires c = (sym c.is_value.ensures ∙ c.if-is_value.true, c.requires.1)

pub returns-then-is_value : goal.returns-then-is_value
returns-then-is_value c =
    let a = c.args in
    let v = sound a.packed a.s.now (sym c.is_value.ensures ∙ c.if-is_value.true) in
    rw (form_sign v, ← c.negative.ensures, ← c.written_sign.ensures, ← c.sign.ensures)

pub returns-else-is_value : goal.returns-else-is_value
returns-else-is_value c =
    let a = c.args in
    c.if-is_value.false ∙ sym (no_form _ _ a.s.now (sym c.is_value.ensures ∙ c.if-is_value.false))
