-- `values::texts::text_fits` meets its contract, from the length of the text.
use mathlib.Core.Path.{sym, ap, ◌∙◌}
use Rattle.rules.specs.Outcome.{is_done}
use Rattle.values.proofs.Strip.{cut_size, converted_text}
use Rattle.values.proofs.texts.text_fits.Goals as goal

pub returns : goal.returns
returns c =
    let a = c.args in
    c.length_fits.ensures _ (cut_size a.s.now c.text_length.result c.text_length.ensures.0 c.text_length.ensures.1)
    ∙ ap is_done (sym (converted_text a.s.now c.text_length.result c.text_length.ensures.0 c.text_length.ensures.1 a.n))
