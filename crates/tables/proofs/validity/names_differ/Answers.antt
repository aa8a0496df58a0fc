use mathlib.Core.Path.{ap, ◌∙◌}
use Rattle.tables.specs.Validity.{mark_of}
use Rattle.tables.proofs.Marks.{marked_turn, unmarked_new, named_new, named_twice}
use Rattle.tables.proofs.Tables.{read_name}
use Rattle.tables.proofs.validity.names_differ.Goals as goal
use Rattle.tables.proofs.validity.names_differ.Goals.{else-seen-k-via-then-seen-k+else-named_before, else-seen-k-via-else-seen-k}

pub returns-then-named_before : goal.returns-then-named_before
returns-then-named_before c =
    let q = c.name_at-name.ensures ∙ read_name c.args.n c.args.t.now c.requires c.loop-i.i c.loop-i-test.true in
    named_twice c.args.n c.args.t.now c.requires c.loop-i.i c.loop-i-test.true _ q _ c.named_before.ensures c.if-named_before.true

pub loop-i-preserved : goal.loop-i-preserved
loop-i-preserved c =
    let q = c.name_at-name.ensures ∙ read_name c.args.n c.args.t.now c.requires c.loop-i.i c.loop-i-test.true in
    let z = c.mark_of-k.ensures.0 ∙ ap mark_of q in
    marked_turn c.loop-i.invariant _ z
    (elim c.else-seen-k.branch [
      | else-seen-k-via-then-seen-k+else-named_before w ↦
          named_new c.args.n c.args.t.now c.requires c.loop-i.i c.loop-i-test.true _ q _ w.named_before.ensures w.if-named_before.false
      | else-seen-k-via-else-seen-k w ↦ unmarked_new c.loop-i.invariant _ z w.if-seen-k.false
    ])
