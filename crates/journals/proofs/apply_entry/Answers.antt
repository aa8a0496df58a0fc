-- `journals::apply_entry` meets its contract: a whole entry's format and record buffer lie in the journal, and `apply` is the step of a history.
use Prim.Native.Nat.{◌+◌, ◌-◌, ◌≤◌}
use native.Mathlib.Omega.{arith}
use lib.ListN.{length}
use Rattle.journals.specs.Journal.{length_at}
use Rattle.journals.proofs.Replaying.{whole_parts}
use Rattle.journals.proofs.Stepping.{steps}
use borrow.Author.Rules.{rules}
use Rattle.journals.proofs.apply_entry.Goals as goal
use Rattle.journals.proofs.apply_entry.Goals.{Start}

within : (c : Start) → c.args.at + 4 + length_at c.args.journal.now c.args.at + length_at c.args.journal.now (c.args.at + 2) ≤ length c.args.journal.now
within c = whole_parts c.args.journal.now c.args.at c.requires.0

pub overflow_add-format : goal.overflow_add-format
overflow_add-format c = omega (arith, within (goal.at.overflow_add-format c).Start)

pub length_at-requires : goal.length_at-requires
length_at-requires c = omega (arith, within (goal.at.length_at-requires c).Start)

pub overflow_add-buffer : goal.overflow_add-buffer
overflow_add-buffer c = omega (arith, within (goal.at.overflow_add-buffer c).Start, c.length_at.ensures.0)

pub overflow_add-at : goal.overflow_add-at
overflow_add-at c = omega (arith, within (goal.at.overflow_add-at c).Start)

pub length_at-requires-2 : goal.length_at-requires-2
length_at-requires-2 c = omega (arith, within (goal.at.length_at-requires-2 c).Start)

pub overflow_add-end : goal.overflow_add-end
overflow_add-end c = omega (arith, within (goal.at.overflow_add-end c).Start, c.length_at.ensures.0, c.length_at-2.ensures.0)

pub slice_bounds-apply-end : goal.slice_bounds-apply-end
slice_bounds-apply-end c = search (rules, within (goal.at.slice_bounds-apply-end c).Start, c.length_at.ensures.0)

pub slice_bounds-apply-end-2 : goal.slice_bounds-apply-end-2
slice_bounds-apply-end-2 c = search (rules, within (goal.at.slice_bounds-apply-end-2 c).Start, c.length_at.ensures.0, c.length_at-2.ensures.0)

pub returns : goal.returns
returns c =
    let a = c.args in
    let buffer = a.at + 4 + c.length_at.result in
    let end = buffer + c.length_at-2.result in
    rw c.unwrap_or.ensures (steps a.table.now a.journal.now a.at a.used a.stored.now _ c.requires.1 (buffer - (a.at + 4)) buffer (end - buffer)
    (omega (arith, c.length_at.ensures.0)) (omega (arith, c.length_at.ensures.0)) (omega (arith, c.length_at-2.ensures.0)) c.requires.2 c.apply.result c.apply.ensures)
