-- `uses::meaning::use_of_field` meets its contract: a field has its span, and a length or a format that does not suit it is refused.
use Rattle.std.specs.Prelude.{◌≡◌, None}
use native.Mathlib.Omega.{arith}
use Rattle.std.proofs.lemmas.Result.{err_from_is_err_and}
use Rattle.rules.specs.declared.Refusal.TheVariants.{UseRule}
use Rattle.tables.specs.Entries.{entries_of}
use Rattle.uses.proofs.Settling.{field_as, field_unfit}
use Rattle.uses.proofs.meaning.use_of_field.Goals as goal

pub returns-in_err-format : goal.returns-in_err-format
returns-in_err-format c =
    let r = c.from_residual-in_err-format in
    let p = err_from_is_err_and r.result r.ensures.1 in
    let none : c.asked-asked.result ≡ None = grind arith in
    let rule : c.in_err-format.field-0.0 ≡ UseRule = grind arith in
    rw (p.1, p.2, rule) (field_unfit (entries_of c.args.t.now) c.args.i c.args.last c.args.n c.requires.1 c.requires.2 _ c.field_format.result c.field_format.ensures
    (rw (c.inside.ensures, c.multiple_at.ensures) at c.spread-spread.ensures) (rw (none, c.size_at.ensures.0) at c.asked-asked.ensures))

pub returns : goal.returns
returns c = rw c.one_field.ensures (field_as (entries_of c.args.t.now) c.args.i c.args.last c.args.n c.requires.1 c.requires.2 _ c.field_format.result _ _ c.field_format.ensures
    (rw (c.in_ok-ranges.ensures.ok_part, c.inside.ensures, c.multiple_at.ensures) at c.spread-spread.ensures)
    (rw (c.in_ok-format.ensures.ok_part, c.size_at.ensures.0) at c.asked-asked.ensures))
