-- `uses::kept::decode` meets its contract: the elements that are left say what the whole format does, and each takes three bytes.
use mathlib.Core.Path.{◌≡◌}
use Prim.Native.Nat.{◌-◌, ◌*◌, ◌≤◌}
use lib.ListN.{length, drop}
use Rattle.format_buffer.specs.Syntax.{parsed}
use Rattle.tables.specs.Entries.{entries_of}
use Rattle.uses.specs.Meanings.{indexes_kept}
use Rattle.uses.specs.Decoding.{uses_so_far}
use Rattle.uses.proofs.Decoding.{Decoding}
use Rattle.uses.proofs.kept.decode.Given as goal

abbrev pub invariant-loop-e : goal.invariant-loop-e
invariant-loop-e l =
    (l.at ≤ length l.f) × (length l.last ≡ indexes_kept) × (length l.kept ≡ length l.initial.kept) × (3 * uses_so_far l.d ≤ l.at) × Decoding (entries_of l.t) l.f l.last (parsed (drop l.at l.f)) l.kept l.d

abbrev pub decreases-loop-e : goal.decreases-loop-e
decreases-loop-e l = length l.f - l.at
