-- `uses::twice::met_before` meets its contract: the uses that are left answer as all do.
use mathlib.Core.Path.{◌≡◌}
use Rattle.rules.specs.Lists.{Bytes}
use Rattle.tables.specs.Entries.{entries_of}
use Rattle.uses.specs.Meant.{use_meant}
use Rattle.uses.specs.Kept.{uses_kept}
use Rattle.uses.specs.Twice.{met_by}
use Rattle.uses.specs.declared.Use.TheVariants.{Values}
use Rattle.uses.proofs.twice.met_before.Given as goal

abbrev pub invariant-loop-i : goal.invariant-loop-i
invariant-loop-i l =
    (f : Bytes) → met_by (uses_kept (entries_of l.t) f l.kept l.i) (use_meant (entries_of l.t) f (Values l.s)) ≡ met_by (uses_kept (entries_of l.t) f l.kept l.count) (use_meant (entries_of l.t) f (Values l.s))
