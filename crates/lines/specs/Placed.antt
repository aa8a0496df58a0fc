-- Where a line stands in the input area.
use Rattle.std.specs.Prelude.{◌≡◌, List, ℕ, ◌+◌, ◌-◌, ◌≤◌, ◌<◌, length, take, drop, IfSome}
use Rattle.lines.specs.declared.Line.{Line}

-- A line lies in an area of n bytes, which has room for its newline as well.
pub record LineWithin (n : ℕ) (line : ℕ × ℕ) : Type 0 where
  pub ordered : line.0 ≤ line.1
  pub short : line.1 < line.0 + n
  pub within : line.1 ≤ n

-- So does the line that was found, if one was, and so does what is still to be looked at.
pub record Placed (n : ℕ) (l : Line) : Type 0 where
  pub room : 0 < n
  pub found : IfSome l.found (LineWithin n)
  pub next : l.next ≤ l.seen
  pub seen : l.seen ≤ l.filled
  pub filled : l.filled ≤ n

-- In any area, before the first read.
abbrev pub Begun : Line → Type 0
Begun l = (n : ℕ) → 0 < n → Placed n l

-- After a read that failed the area has its length, and at its front the bytes that were still to be looked at.
abbrev pub HeldAtFront : Line → List ℕ → List ℕ → Type 0
HeldAtFront l old new = (length new ≡ length old) × (take (l.filled - l.next) new ≡ take (l.filled - l.next) (drop l.next old))
