-- `journals::replay` meets its contract: the empty record, and then the entries.
use Rattle.std.proofs.lemmas.Result.{err_from_is_err_and}
use mathlib.Core.Path.{◌≡◌, ◌∙◌, subst}
use lib.ListN.{length}
use Rattle.rules.specs.Services.{empty}
use Rattle.lyrecanyon.specs.Answers.{Settled}
use Rattle.journals.proofs.Replaying.{replay_refused, replay_start, replay_done}
use borrow.Author.Rules.{rules}
use Rattle.journals.proofs.replay.Goals as goal

pub apply_entries-requires : goal.apply_entries-requires
apply_entries-requires c =
    let a = c.args in
    let same : length c.empty.new.room ≡ length a.stored.now = search rules in (
      same ∙ c.requires,
      replay_start a.table.now a.journal.now a.stored.now c.empty.new.room c.requires c.in_ok-start.start
          (subst (Settled (empty a.table.now (length a.stored.now)) a.stored.now c.empty.new.room) c.in_ok-start.was c.empty.ensures),
    )

pub returns-in_err-start : goal.returns-in_err-start
returns-in_err-start c =
    let a = c.args in
    let p = err_from_is_err_and c.from_residual.result c.from_residual.ensures.1 in
    rw (p.1, p.2) (replay_refused a.table.now a.journal.now a.stored.now c.empty.new.room c.requires c.in_err-start.field-0.0
    (subst (Settled (empty a.table.now (length a.stored.now)) a.stored.now c.empty.new.room) c.in_err-start.was c.empty.ensures))

pub returns : goal.returns
returns c =
    let a = c.args in
    replay_done a.table.now a.journal.now a.stored.now c.empty.new.room c.requires c.in_ok-start.start c.apply_entries.result c.apply_entries.new.stored
    (subst (Settled (empty a.table.now (length a.stored.now)) a.stored.now c.empty.new.room) c.in_ok-start.was c.empty.ensures) c.apply_entries.ensures
