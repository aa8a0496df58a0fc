-- `filling::value::put_alpha` meets its contract: the text is found once, and fits or not by its length.
use native.Mathlib.Omega.{arith}
use Rattle.values.proofs.Strip.{text_refused}
use Rattle.filling.proofs.Singles.{by_value}
use Rattle.filling.proofs.Values.{text_fits, text_long}
use Rattle.filling.proofs.value.put_alpha.Goals as goal

pub returns-then-not-length_fits : goal.returns-then-not-length_fits
returns-then-not-length_fits c =
    let t = c.text_length-len in
    grind (arith, by_value, text_refused, text_fits c.args.s.now t.result t.ensures.0 t.ensures.1 c.args.size c.length_fits.ensures)

pub returns-in_err-next : goal.returns-in_err-next
returns-in_err-next c =
    let t = c.text_length-len in
    grind (arith, by_value, text_fits c.args.s.now t.result t.ensures.0 t.ensures.1 c.args.size c.length_fits.ensures, text_long c.args.s.now t.result t.ensures.0 t.ensures.1 c.args.size c.length_at.ensures)

pub returns-else-write : goal.returns-else-write
returns-else-write c =
    let t = c.text_length-len in
    grind (arith, by_value, text_fits c.args.s.now t.result t.ensures.0 t.ensures.1 c.args.size c.length_fits.ensures, text_long c.args.s.now t.result t.ensures.0 t.ensures.1 c.args.size c.length_at.ensures)
