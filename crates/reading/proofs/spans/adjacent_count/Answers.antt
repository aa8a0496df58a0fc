-- `reading::spans::adjacent_count` meets its contract: in a periodic group that is asked for whole, the occurrences that exist stand together.
use mathlib.Core.Path.{sym, ◌∙◌, subst}
use Prim.Native.Nat.{ℕ}
use Rattle.tables.specs.Entries.{entries_of}
use Rattle.reading.specs.Spans.{Adjacent}
use Rattle.reading.proofs.SpanItems.{bounds}
use Rattle.reading.proofs.Adjacents.{adjacent_none, adjacent_some}
use Rattle.reading.proofs.spans.adjacent_count.Goals as goal

pub occurrences_existing-requires : goal.occurrences_existing-requires
occurrences_existing-requires c =
    let u = bounds c.args.s.from c.args.s.upto c.requires.1.occurrences in
    (u.1, u.2)

pub returns-then-s-group_end : goal.returns-then-s-group_end
returns-then-s-group_end c =
    let a = c.args in
    let whole = adjacent_some a.b.now a.places.now c.requires.1 a.path _ c.group_count-count.ensures.1
    c.if-path.true c.if-s-path.true (c.if-s-group_end.true ∙ c.group_end.ensures) in
    subst (λ (n : ℕ). Adjacent (entries_of a.t.now) a.b.now a.places.now a.s a.path n) (sym c.occurrences_existing.ensures) whole

pub returns : goal.returns
returns c = adjacent_none c.args.b.now c.args.places.now c.requires.1 c.args.path
