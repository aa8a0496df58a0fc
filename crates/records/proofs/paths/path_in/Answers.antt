-- `records::paths::path_in` meets its contract: the fields before the entry have a width, or not.
use mathlib.Core.Path.{refl, sym, ◌∙◌}
use Prim.Native.Nat.{◌*◌}
use Rattle.rules.specs.Limits.{most_entries}
use Rattle.records.specs.Counts.{greatest_byte}
use Rattle.records.proofs.Entries.{never}
use Rattle.records.proofs.Widths.{wide_some}
use Rattle.records.proofs.paths.path_in.Goals as goal

pub returns : goal.returns
returns c = (
  refl,
  record {
    home = λ z. c.requires.3;
    outside = λ z. absurd (never z refl);
    fixed = λ z. rw c.unwrap_or.ensures (wide_some _ (most_entries * greatest_byte) c.width_of-width.result c.width_of-width.ensures (sym c.is_some.ensures ∙ z));
  },
)
