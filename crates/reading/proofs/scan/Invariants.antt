-- `reading::scan` meets its contract: the elements that are left fill the buffer as the whole format does from its front.
use mathlib.Core.Path.{◌≡◌}
use Prim.Native.Nat.{◌≤◌, ◌-◌}
use lib.ListN.{length, drop}
use Rattle.format_buffer.specs.Syntax.{parsed}
use Rattle.tables.specs.Entries.{entries_of}
use Rattle.uses.specs.Meanings.{indexes_kept}
use Rattle.reading.proofs.Scanning.{Scanning}
use Rattle.reading.proofs.scan.Given as goal

abbrev pub invariant-loop-e : goal.invariant-loop-e
invariant-loop-e l =
    (l.at ≤ length l.f) × (length l.last ≡ indexes_kept) × Scanning (entries_of l.t) l.b l.places l.f l.end l.write l.initial.out l.last (parsed (drop l.at l.f)) l.state l.out

abbrev pub decreases-loop-e : goal.decreases-loop-e
decreases-loop-e l = length l.f - l.at
