-- `records::places::occurrence_at` meets its contract: an occurrence stands where it is kept, or after those before it.
use Prim.Native.Nat.{◌+◌, ◌-◌, ◌<◌}
use native.Mathlib.Omega.{arith}
use lib.ListN.{length, get_or, drop}
use Rattle.rules.specs.Limits.{count_size}
use Rattle.rules.specs.Record.{times}
use Rattle.tables.specs.Entries.{entries_of}
use Rattle.tables.proofs.Tables.{valid_most, valid_names}
use Rattle.tables.proofs.Known.{periodic_level}
use Rattle.records.specs.Walk.{rest_of, Ends, occurrence}
use Rattle.records.proofs.Ends.{group_within}
use Rattle.records.proofs.Placed.{count_there, row_kept, row_ends}
use Rattle.records.proofs.places.occurrence_at.Goals as goal
use Rattle.records.proofs.places.occurrence_at.Goals.{After-place_of-2, Else-number-lt-DIRECTORY}

pub overflow_add-g : goal.overflow_add-g
overflow_add-g c = omega (arith, valid_most c.args.t.now c.requires.0, c.requires.1)

pub place_of-requires : goal.place_of-requires
place_of-requires c = omega (arith, valid_most c.args.t.now c.requires.0, c.requires.1)

pub overflow_add-number : goal.overflow_add-number
overflow_add-number c = omega (arith, c.place_of.ensures.1, c.requires.4, c.shared_slice_known-2-1.given (get_or c.args.places.now c.args.g 0))

pub returns-then-number-lt-DIRECTORY : goal.returns-then-number-lt-DIRECTORY
returns-then-number-lt-DIRECTORY c =
    let a = c.args in
    rw (c.place_of-then-number-lt-DIRECTORY.ensures.0, c.place_of.ensures.0)
    (row_kept c.requires.5.1 (valid_names a.t.now c.requires.0) a.g c.requires.1 c.requires.2 (a.o - 1) (omega (arith, c.requires.3, c.requires.4)) (rw c.place_of.ensures.0 at c.if-number-lt-DIRECTORY.true))

pub place_of-requires-2 : goal.place_of-requires-2
place_of-requires-2 c = omega (arith, valid_most c.args.t.now c.requires.0, c.requires.1)

-- The group's count stands in the record.
count_stands : (c : After-place_of-2) → c.place_of-2.result < length c.args.b.now
count_stands c =
    rw c.place_of-2.ensures.0 (count_there c.requires.5.1 (valid_names c.args.t.now c.requires.0) c.args.g c.requires.1 c.requires.2).0

pub after_count-from-requires : goal.after_count-from-requires
after_count-from-requires c = count_stands c

pub overflow_add-g-2 : goal.overflow_add-g-2
overflow_add-g-2 c = omega (arith, valid_most c.args.t.now c.requires.0, c.requires.1)

-- The occurrences before it come to an end.
before : (c : Else-number-lt-DIRECTORY) → Ends (rest_of (times (c.args.o - 1) (occurrence (entries_of c.args.t.now) c.args.g) (drop (get_or c.args.places.now c.args.g 0 + count_size) c.args.b.now)))
before c =
    let a = c.args in
    row_ends c.requires.5.1 (valid_names a.t.now c.requires.0) a.g c.requires.1 c.requires.2 (periodic_level a.t.now c.requires.0 a.g c.requires.1 c.requires.2) (a.o - 1) (omega (arith, c.requires.3, c.requires.4))

pub occurrences_end-requires : goal.occurrences_end-requires
unfolding occurrence
occurrences_end-requires c =
    let w = group_within (entries_of c.args.t.now) c.args.g c.requires.1 in
    (c.requires.0, rw c.group_end-end.ensures w.0, rw c.group_end-end.ensures w.1, omega (arith, c.after_count-from.ensures, count_stands (goal.at.occurrences_end-requires c).After-place_of-2), rw (c.group_end-end.ensures, c.after_count-from.ensures, c.place_of-2.ensures.0) (before (goal.at.occurrences_end-requires c).Else-number-lt-DIRECTORY))

pub returns : goal.returns
unfolding occurrence
returns c = rw (c.group_end-end.ensures, c.after_count-from.ensures, c.place_of-2.ensures.0) at c.occurrences_end.ensures (before (goal.at.returns c).Else-number-lt-DIRECTORY)
