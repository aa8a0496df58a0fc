-- `records::walk::value_end` meets its contract: a value is stored where its content, as first found, is in normal form.
use Rattle.std.specs.Prelude.{Ok}
use mathlib.Core.Path.{◌≡◌, sym, ◌∙◌}
use Rattle.tables.specs.Entries.{format_at}
use Rattle.values.proofs.Cuts.{first_content}
use Rattle.records.proofs.Normals.{first_at, ok_is, value_walked, value_stopped}
use Rattle.records.proofs.walk.value_end.Goals as goal
use Rattle.records.proofs.walk.value_end.Goals.{In_ok-from}

-- Where the value's content lies.
found : (c : In_ok-from) → c.first_value.result ≡ Ok (c.in_ok-from.from, c.in_ok-from.next)
found c = ok_is c.first_value.result (sym c.ok.ensures.value ∙ c.in_ok-from.was)

pub slice_bounds-is_normal-count : goal.slice_bounds-is_normal-count
slice_bounds-is_normal-count c = (first_at c.first_value.ensures (found c)).1

pub is_normal-requires : goal.is_normal-requires
is_normal-requires c =
    let w = first_at c.first_value.ensures (found (goal.at.is_normal-requires c).In_ok-from) in
    (c.requires.1, first_content c.args.size _ _ _ w.0)

pub returns-in_err-from : goal.returns-in_err-from
returns-in_err-from c =
    rw c.from_residual.ensures (value_stopped (format_at c.args.format) c.args.size c.first_value.result c.first_value.ensures (sym c.ok.ensures.value ∙ c.in_err-from.was))

pub returns : goal.returns
returns c =
    rw c.then_some.ensures
    (value_walked (format_at c.args.format) c.args.size c.first_value.ensures (found (goal.at.returns c).In_ok-from) c.is_normal.result c.is_normal.ensures)
