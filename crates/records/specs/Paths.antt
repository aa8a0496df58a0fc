-- How a field is reached: the periodic group that it lies in, and how many bytes the fields before it there have.
use Rattle.std.specs.Prelude.{◌≡◌, true, false, List, [], ◌∷◌, ℕ, ◌+◌, ◌≤◌, None, Option, Some}
use Rattle.std.proofs.Math.Seq.{slice}
use Rattle.rules.specs.Lists.{all}
use Rattle.rules.specs.Table.{Entry, Field}
use Rattle.rules.specs.Use.{plain}
use Rattle.tables.specs.Places.{inside_at, Home}
use Rattle.tables.specs.Groups.{fields_in}
use Rattle.records.specs.declared.paths.Path.{Path}

-- The standard lengths of some fields together.
unfoldable pub lengths : List Field → ℕ
lengths [] = 0
lengths (f ∷ fs) = f.size + lengths fs

-- Whether fields always have as many bytes, being of fixed length and not MU; and then how many, which is `most` at most.
pub record Wide (fs : List Field) (w : ℕ) : Type 0 where
  pub plains : all plain fs ≡ true
  pub width : w ≡ lengths fs

abbrev pub Width : List Field → ℕ → Option ℕ → Type 0
Width fs most (Some w) = Wide fs w × (w ≤ most)
Width fs most None = all plain fs ≡ false

-- A way leads to its entry.
pub record Leads (es : List Entry) (p : Path) : Type 0 where
  pub home : p.inside ≡ true → Home es p.entry p.group
  pub outside : p.inside ≡ false → inside_at es p.entry ≡ false
  pub fixed : p.fixed ≡ true → Wide (fields_in (slice (p.group + 1) p.entry es)) p.offset
