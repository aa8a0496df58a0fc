-- `taking::spans::take_occurrences` meets its contract: the occurrences that are left give what all of them give from the start.
use mathlib.Core.List.{List}
use Prim.Native.Nat.{ℕ}
use Rattle.rules.specs.Table.{Entry}
use Rattle.rules.specs.Use.{Item, value_items}
use Rattle.rules.proofs.Ranges.{from_to}
use Rattle.tables.specs.Entries.{entries_of}
use Rattle.uses.specs.Meant.{asked_of}
use Rattle.uses.specs.declared.Span.{Span}
use Rattle.taking.proofs.Turns.{TakenOn}
use Rattle.taking.proofs.spans.take_occurrences.Given as goal

-- The items of a span from occurrence o on.
abbrev pub left : List Entry → Span → ℕ → List Item
left es u o = value_items (asked_of es u) (from_to o u.upto) (from_to u.value_from u.value_upto) u.bare

abbrev pub invariant-loop-o : goal.invariant-loop-o
invariant-loop-o l =
    TakenOn (entries_of l.t) l.buffer (left (entries_of l.t) l.u l.u.from) (left (entries_of l.t) l.u l.o) l.initial.state l.state l.initial.list l.list l.initial.stage l.stage
