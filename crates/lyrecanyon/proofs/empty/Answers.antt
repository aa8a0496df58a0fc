-- `lyrecanyon::empty` meets its contract: each refusal is the outcome's, and what is put is the whole record, built by itself.
use mathlib.Core.Bool.{not}
use mathlib.Core.Path.{◌≡◌, sym, ap, ◌∙◌}
use native.Mathlib.Omega.{arith}
use borrow.Author.Tests.{not-true, not-false}
use lib.ListN.{length, take}
use lib.Seq.{length-take-le}
use Rattle.buffer.specs.Splice.{splice}
use Rattle.buffer.proofs.Laws.{take_splice}
use Rattle.tables.specs.Entries.{Valid}
use Rattle.rules.specs.declared.Refusal.TheVariants.{BadTable, NoRoom}
use Rattle.lyrecanyon.proofs.Settling.{settled_refused, settled_done}
use Rattle.lyrecanyon.proofs.Empties.{empty_bytes, empty_size, empty_refused, empty_cramped, empty_done}
use Rattle.lyrecanyon.proofs.empty.Goals as goal
use Rattle.lyrecanyon.proofs.empty.Goals.{After-empty_length-size, Else-not-valid}

-- What is known after the test of the table, and once the record's length is computed.
is_table : (c : Else-not-valid) → Valid c.args.table.now
is_table c = sym c.valid.ensures ∙ not-false c.valid.result (ap not c.if-not-valid.false)

size_is : (c : After-empty_length-size) → c.empty_length-size.result ≡ length (empty_bytes c.args.table.now)
size_is c = c.empty_length-size.ensures ∙ sym (empty_size c.args.table.now)

pub returns-then-not-valid : goal.returns-then-not-valid
returns-then-not-valid c =
    let a = c.args in
    settled_refused _ a.room.now BadTable (empty_refused a.table.now (length a.room.now) (sym c.valid.ensures ∙ not-true c.valid.result (ap not c.if-not-valid.true)))

pub returns-then-size-gt-LONGEST_NEW_RECORD : goal.returns-then-size-gt-LONGEST_NEW_RECORD
returns-then-size-gt-LONGEST_NEW_RECORD c =
    let a = c.args in
    let d = goal.at.returns-then-size-gt-LONGEST_NEW_RECORD c in
    settled_refused _ a.room.now NoRoom (empty_cramped a.table.now (length a.room.now) (is_table d.Else-not-valid) (omega (arith, size_is d.After-empty_length-size, c.then-size-gt-LONGEST_NEW_RECORD.either)))

pub write_empty-requires : goal.write_empty-requires
write_empty-requires c = (is_table (goal.at.write_empty-requires c).Else-not-valid, omega (arith, c.empty_length-size.ensures))

pub slice_bounds-put-end : goal.slice_bounds-put-end
slice_bounds-put-end c = sym (length-take-le _ c.write_empty.new.out (omega arith))

pub put-requires : goal.put-requires
put-requires c = omega (arith, length-take-le c.empty_length-size.result c.write_empty.new.out (omega arith))

pub returns : goal.returns
unfolding empty_bytes
returns c =
    let a = c.args in
    let z = size_is (goal.at.returns c).After-empty_length-size in
    let w = ap (take c.empty_length-size.result) c.write_empty.ensures ∙ take_splice (empty_bytes a.table.now) _ c.empty_length-size.result z in
    settled_done _ (empty_bytes a.table.now) a.room.now _ _
    (empty_done a.table.now (length a.room.now) (is_table (goal.at.returns c).Else-not-valid) (omega (arith, z)) (omega (arith, z))) z
    (c.put.ensures.1 ∙ ap (λ bs. splice 0 bs a.room.now) w)
