-- `binaries::binary_word` meets its contract: the bytes left, after the number so far, spell what the whole spells.
use Prim.Native.Nat.{◌≤◌}
use mathlib.Core.Path.{◌≡◌}
use lib.ListN.{drop}
use Rattle.rules.specs.Limits.{lowest_word}
use Rattle.rules.specs.Lists.{spelled}
use Rattle.binaries.proofs.binary_word.Given as goal

abbrev pub invariant-loop-b : goal.invariant-loop-b
invariant-loop-b l = (l.n ≤ lowest_word) × (spelled 256 (drop l.b-index l.s) l.n ≡ spelled 256 l.s 0)
