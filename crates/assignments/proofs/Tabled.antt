-- What is known of entries that are those of a valid table: each field has a length that its format allows, and a periodic group has level 1.
use mathlib.Core.Path.{◌≡◌, sym, subst}
use mathlib.Core.Bool.{true, false, true≢false}
use mathlib.Core.List.{List}
use Prim.Native.Nat.{ℕ}
use lib.ListN.{get_or}
use Rattle.rules.specs.Lists.{Bytes}
use Rattle.rules.specs.Values.{allowed}
use Rattle.rules.specs.Table.{What, field, group, Entry}
use Rattle.rules.specs.Update.{Assignment}
use Rattle.tables.specs.Entries.{entries_of, blank, is_group, is_periodic}
use Rattle.tables.specs.Groups.{field_at, field_by}
use Rattle.tables.proofs.EntryBytes.{Sound}
use Rattle.tables.proofs.Tables.{valid_sound}
use Rattle.assignments.specs.Notes.{Listed}
use Rattle.assignments.proofs.Given.{AllowedFields}
use Rattle.assignments.proofs.Splitting.{PeriodicTop}

sound_field : (n l : ℕ) (w : What) → Sound l w → is_group w ≡ false → allowed (field_by n w).format (field_by n w).size ≡ true
unfolding field_by
sound_field n l (field f s m) k e = k
sound_field n l (group p) k e = absurd (true≢false e)

sound_top : (l : ℕ) (w : What) → Sound l w → is_periodic w ≡ true → l ≡ 1
sound_top l (field f s m) k e = absurd (true≢false (sym e))
sound_top l (group p) k e = k e

module _ {es : List Entry} {f : Bytes} {kept : List ℕ} {count : ℕ} {list : List ℕ} {stage : Bytes} {ws : List Assignment} (x : Listed es f kept count list stage ws) where
  pub listed_allowed : AllowedFields es
  unfolding field_at
  listed_allowed = subst AllowedFields (sym x.entries_are) (λ i h e. sound_field (get_or (entries_of x.table) i blank).name (get_or (entries_of x.table) i blank).level (get_or (entries_of x.table) i blank).what (valid_sound x.table x.valid i h) e)

  pub listed_top : PeriodicTop es
  listed_top = subst PeriodicTop (sym x.entries_are) (λ i h e. sound_top (get_or (entries_of x.table) i blank).level (get_or (entries_of x.table) i blank).what (valid_sound x.table x.valid i h) e)
