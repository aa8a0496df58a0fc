use mathlib.Core.Path.{refl, sym, ◌∙◌}
use native.Mathlib.Omega.{arith}
use Rattle.tables.specs.Entries.{entries_of}
use Rattle.tables.proofs.Tables.{valid_most}
use Rattle.tables.proofs.Walks.{done_none, done_stop, done_field, done_group}
use Rattle.tables.proofs.groups.+expand_from.Goals as goal

pub returns-then-at-n : goal.returns-then-at-n
returns-then-at-n t c = done_none (entries_of c.args.t.now) c.args.level c.args.at c.args.count c.args.out.now _ (omega arith) (sym c.if-at-n.true) refl

pub returns-then-deep-level : goal.returns-then-deep-level
returns-then-deep-level t c =
    done_stop (entries_of c.args.t.now) c.args.level c.args.at c.args.count c.args.out.now _ (omega arith) (rw c.level_at-deep.ensures at c.if-deep-level.true) refl refl

pub returns-then-group_at : goal.returns-then-group_at
returns-then-group_at t c =
    done_group (entries_of c.args.t.now) c.args.level c.args.at c.args.count c.args.out.now c.level_at-deep.result c.expand_from-inner.result c.expand_from.result
    c.expand_from-inner.new.out c.expand_from.new.out (omega arith) c.level_at-deep.ensures c.if-deep-level.false
    (sym c.group_at.ensures ∙ c.if-group_at.true) (omega arith) (omega (arith, valid_most c.args.t.now c.requires.0)) c.expand_from-inner.ensures c.expand_from.ensures

pub returns : goal.returns
returns t c =
    done_field (entries_of c.args.t.now) c.args.level c.args.at c.args.count c.args.out.now c.expand_from-2.result c.expand_from-2.new.out (omega arith)
    (rw c.level_at-deep.ensures at c.if-deep-level.false) (sym c.group_at.ensures ∙ c.if-group_at.false) (omega (arith, valid_most c.args.t.now c.requires.0)) c.expand_from-2.ensures
