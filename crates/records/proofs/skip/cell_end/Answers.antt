-- `records::skip::cell_end` meets its contract: a count and that many values, or one value.
use mathlib.Core.Path.{◌≡◌, sym, ◌∙◌, ap}
use mathlib.Core.Bool.{true}
use Prim.Native.Nat.{◌+◌, ◌<◌}
use native.Mathlib.Omega.{arith}
use lib.ListN.{length, drop}
use Rattle.rules.specs.Limits.{count_size}
use Rattle.rules.specs.Values.{Format}
use Rattle.rules.specs.Record.{times, counted, stored_value}
use Rattle.records.specs.Counts.{count_at}
use Rattle.records.specs.Walk.{rest_of, Ends}
use Rattle.records.proofs.Walks.{walked_as}
use Rattle.records.proofs.Skips.{counted_ends, counted_one}
use Rattle.records.proofs.skip.cell_end.Goals as goal
use Rattle.records.proofs.skip.cell_end.Goals.{Then-multiple}

-- The count that stands there, and the values after it.
count_first : (c : Then-multiple) (f : Format) → Ends (rest_of (counted c.args.multiple (stored_value f c.args.size) (drop c.args.at c.args.b.now)))
    → (c.args.at < length c.args.b.now)
    × (rest_of (counted true (stored_value f c.args.size) (drop c.args.at c.args.b.now)) ≡ rest_of (times (count_at c.args.b.now c.args.at) (stored_value f c.args.size) (drop (c.args.at + count_size) c.args.b.now)))
count_first c f e = let a = c.args in counted_ends (stored_value f a.size) a.b.now a.at (rw c.if-multiple.true at e)

pub count_at-n-requires : goal.count_at-n-requires
count_at-n-requires c = (count_first c c.requires.1.0 c.requires.1.1).0

pub after_count-requires : goal.after_count-requires
after_count-requires c = (count_first (goal.at.after_count-requires c).Then-multiple c.requires.1.0 c.requires.1.1).0

pub values_end-requires : goal.values_end-requires
values_end-requires c =
    let e = rw c.if-multiple.true at c.requires.1.1 in
    let k = count_first (goal.at.values_end-requires c).Then-multiple c.requires.1.0 c.requires.1.1 in
    (omega (arith, k.0, c.after_count.ensures), (c.requires.1.0, (e.0, rw (c.after_count.ensures, c.count_at-n.ensures.0) (sym k.1 ∙ e.1))))

pub returns-then-multiple : goal.returns-then-multiple
returns-then-multiple c f e =
    let d = rw c.if-multiple.true at e in
    let k = count_first (goal.at.returns-then-multiple c).Then-multiple f e in
    walked_as (rw c.if-multiple.true k.1) (rw (c.after_count.ensures, c.count_at-n.ensures.0) at c.values_end.ensures f (d.0, sym k.1 ∙ d.1))

pub values_end-requires-2 : goal.values_end-requires-2
values_end-requires-2 c =
    let a = c.args in
    let e = rw c.if-multiple.false at c.requires.1.1 in
    (c.requires.0, (c.requires.1.0, (e.0, sym (ap rest_of (counted_one (stored_value c.requires.1.0 a.size) (drop a.at a.b.now))) ∙ e.1)))

pub returns : goal.returns
returns c f e =
    let a = c.args in
    let d = rw c.if-multiple.false at e in
    let k = ap rest_of (counted_one (stored_value f a.size) (drop a.at a.b.now)) in
    walked_as (rw c.if-multiple.false k) (c.values_end-2.ensures f (d.0, sym k ∙ d.1))
