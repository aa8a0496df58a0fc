-- `reading::spans::put_null_occurrence` meets its contract: the fields that the group's expansion names are the span's.
use native.Mathlib.Omega.{arith}
use lib.ListN.{length-take}
use Rattle.reading.proofs.Nulls.{fields_few, fields_numbered, nulls_row}
use Rattle.reading.proofs.spans.put_null_occurrence.Goals as goal

pub slice_bounds-fields-end : goal.slice_bounds-fields-end
slice_bounds-fields-end c = omega (arith, c.expand-n.ensures.same, fields_few c.args.t.now c.requires.0 c.args.s c.requires.1 c.expand-n.ensures)

pub slice_bounds-put_null_fields-end : goal.slice_bounds-put_null_fields-end
slice_bounds-put_null_fields-end c = omega (arith, length-take c.expand-n.result c.expand-n.new.out, c.expand-n.ensures.same, fields_few c.args.t.now c.requires.0 c.args.s c.requires.1 c.expand-n.ensures)

pub put_null_fields-requires : goal.put_null_fields-requires
put_null_fields-requires c = (
  c.requires.0,
  fields_numbered c.args.t.now c.requires.0 c.args.s c.requires.1 c.expand-n.ensures c.requires.2 c.requires.3,
  c.requires.4,
)

pub returns : goal.returns
returns c =
    let a = c.args in
    nulls_row a.t.now c.requires.0 a.s c.requires.1 c.expand-n.ensures c.requires.2 c.requires.3 a.at a.end a.write c.put_null_fields.ensures
