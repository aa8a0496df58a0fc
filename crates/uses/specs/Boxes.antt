-- What some uses name of each entry, at most: a box of occurrences and of values.
use Rattle.std.specs.Prelude.{◌≡◌, Bool, false, ◌&&◌, List, ℕ, ◌+◌, ◌<◌, ◌≤◌, length, get_or}
use Rattle.rules.specs.Update.{meet}
use Rattle.format_buffer.specs.Elements.{range}
use Rattle.uses.specs.Kept.{use_at}
use Rattle.uses.specs.declared.boxes.EntryBox.{EntryBox}
use Rattle.uses.specs.declared.Span.{Span}
use Rattle.uses.specs.declared.Use.TheVariants.{Values}

-- A box that holds nothing; and the box of entry j.
abbrev pub empty_box : EntryBox
empty_box = record { from = 0; upto = 0; value_from = 0; value_upto = 0 }

abbrev pub box_at : List EntryBox → ℕ → EntryBox
box_at bs j = get_or bs j empty_box

-- Whether a box has an occurrence and a value in common with a span.
abbrev pub box_meets : EntryBox → Span → Bool
box_meets b s = meet (range b.from b.upto) (range s.from s.upto) && meet (range b.value_from b.value_upto) (range s.value_from s.value_upto)

-- The boxes of a span's entries below a number do not meet it.
abbrev pub Clear : List EntryBox → Span → ℕ → Type 0
Clear bs s end = (j : ℕ) → s.first ≤ j → j < end → box_meets (box_at bs j) s ≡ false

-- A box holds what a span names of its entry.
pub record BoxHolds (b : EntryBox) (s : Span) : Type 0 where
  pub some : 0 < s.upto
  pub some_value : 0 < s.value_upto
  pub from : b.from ≤ s.from
  pub upto : s.upto ≤ b.upto
  pub value_from : b.value_from ≤ s.value_from
  pub value_upto : s.value_upto ≤ b.value_upto

-- A box that holds a span, and what another holds.
pub record Widens (b b' : EntryBox) (s : Span) : Type 0 where
  pub holds : BoxHolds b' s
  pub wider : (x : Span) → BoxHolds b x → BoxHolds b' x

-- The boxes of a span's entries below a number hold it.
abbrev pub Held : List EntryBox → Span → ℕ → Type 0
Held bs s end = (j : ℕ) → s.first ≤ j → j < end → BoxHolds (box_at bs j) s

pub record Marks (bs bs' : List EntryBox) (s : Span) (end : ℕ) : Type 0 where
  pub same : length bs' ≡ length bs
  pub held : Held bs' s end
  pub wider : (j : ℕ) (x : Span) → BoxHolds (box_at bs j) x → BoxHolds (box_at bs' j) x

-- The boxes hold what the first n uses name.
abbrev pub Boxed : List ℕ → ℕ → List EntryBox → Type 0
Boxed kept n bs = (i : ℕ) (s : Span) → i < n → use_at kept i ≡ Values s → Held bs s s.end

pub record BoxesMore (kept : List ℕ) (n : ℕ) (bs bs' : List EntryBox) : Type 0 where
  pub same : length bs' ≡ length bs
  pub boxed : Boxed kept n bs → Boxed kept (n + 1) bs'
