-- `reading::spans::put_null_fields` meets its contract: each number is that of a field, whose null is put at its own format and length.
use mathlib.Core.Path.{◌≡◌, refl}
use mathlib.Core.Bool.{false}
use Prim.Native.Nat.{◌<◌}
use native.Mathlib.Omega.{arith}
use lib.ListN.{length, get_or}
use Rattle.tables.specs.Entries.{entries_of, blank, is_group}
use Rattle.tables.proofs.Known.{field_known}
use Rattle.reading.proofs.Nulls.{null_on, null_off, null_end}
use Rattle.reading.proofs.Passing.{handed_on}
use Rattle.reading.proofs.spans.put_null_fields.Goals as goal
use Rattle.reading.proofs.spans.put_null_fields.Goals.{After-size_at}

-- The field whose number was read.
here : (c : After-size_at)
    → (let es = entries_of c.args.t.now in
    let i = get_or c.args.fields.now c.loop-field.field-index 0 in
    (i < length es) × (is_group (get_or es i blank).what ≡ false))
here c = c.requires.1 c.loop-field.field-index c.loop-field-test.true

pub put_nulls-requires : goal.put_nulls-requires
put_nulls-requires c =
    let x = here (goal.at.put_nulls-requires c).After-size_at in
    let a = field_known c.args.t.now c.requires.0 _ x.0 x.1 in
    (omega arith, rw (c.field_format-format.ensures, c.size_at.ensures.0, c.from-i.ensures) a, (c.loop-field.invariant.fits, c.loop-field.invariant.room))

pub returns-in_err-p : goal.returns-in_err-p
returns-in_err-p c =
    let f = rw (c.field_format-format.ensures, c.size_at.ensures.0, c.from-i.ensures) at c.in_err-p.ensures in
    rw (handed_on c.from_residual.result c.from_residual.ensures.1) (null_off c.args.t.now c.requires.0 c.loop-field.invariant c.loop-field-test.true (here (goal.at.returns-in_err-p c).After-size_at) f _ refl)

pub loop-field-preserved : goal.loop-field-preserved
loop-field-preserved c =
    let f = rw (c.field_format-format.ensures, c.size_at.ensures.0, c.from-i.ensures) at c.in_ok-p.ensures in
    null_on c.args.t.now c.requires.0 c.loop-field.invariant c.loop-field-test.true (here (goal.at.loop-field-preserved c).After-size_at) f _ refl

pub returns : goal.returns
returns c = null_end c.args.t.now c.requires.0 c.loop-field.invariant c.loop-field-test.false
