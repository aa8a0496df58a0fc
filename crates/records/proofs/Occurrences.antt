-- Where the values of a field in a periodic group lie: after the group's count, the occurrences before, and the fields before it in its own.
use mathlib.Core.Path.{◌≡◌, refl, ◌∙◌, ap}
use mathlib.Core.Bool.{Bool}
use mathlib.Core.List.{List, [], ◌∷◌}
use Prim.Native.Nat.{ℕ, suc, pred, ◌≤◌, ◌<◌}
use native.Mathlib.Omega.{arith}
use lib.ListN.{length, drop, get_or, get_or-eq_default}
use lib.Seq.{slice, slice_empty}
use Rattle.rules.specs.Outcome.{done}
use Rattle.rules.specs.Limits.{greatest_count}
use Rattle.rules.specs.Lists.{Bytes}
use Rattle.rules.specs.Values.{Format}
use Rattle.rules.specs.Table.{field, Entry, Field, fields_below, parts_from}
use Rattle.rules.specs.Record.{Occurrence, Record, times, each, stored_cell, stored_part, cell_of, values_at}
use Rattle.records.specs.Walk.{rest_of, start_of}
use Rattle.records.specs.Where.{First, Deeper}
use Rattle.tables.specs.Groups.{fields_in}
use Rattle.records.proofs.Cells.{counted_many, times_at}
use Rattle.records.proofs.Groups.{cell_below}
use Rattle.records.proofs.Lookups.{Grouped}

no_cells : (n : ℕ) (fs : List Field) → cell_of n fs [] ≡ []
unfolding cell_of
no_cells n [] = refl
no_cells n (f ∷ fs) = refl

module _ {before : Bool} {es : List Entry} {bs : Bytes} {r : Record} {d : Entry} {g : ℕ} {os : List Occurrence} {mid : Bytes} (q : Grouped before es bs r d g os mid) where
  pub occurrences : {C : Type 0} → ((tail : Bytes) → start_of before es bs g ≡ length os ∷ tail → length os ≤ greatest_count
      → times (length os) (each stored_cell (fields_below 1 (drop (suc g) es))) tail ≡ done (os, mid) → C) → C
  unfolding stored_part
  occurrences = counted_many (each stored_cell (fields_below 1 (drop (suc g) es))) (start_of before es bs g) q.stands

  -- Entry j, a field in the group, and the first entry with the name n.
  module _ (level : (get_or es g d).level ≤ 1) (n j : ℕ) (later : g < j) (deep : Deeper es d g j) (first : First n es j) (f : Format) (s : ℕ) (mu : Bool) (what : (get_or es j d).what ≡ field f s mu) where
    pub values_missing : (i : ℕ) → length os < i → values_at (parts_from before es) r n i ≡ []
    values_missing i l = q.values level n j later deep first f s mu what i
        ∙ rw (get_or-eq_default os [] {n = pred i} (omega arith)) (no_cells n (fields_below 1 (drop (suc g) es)))

    pub values_there : {C : Type 0} (tail : Bytes) → times (length os) (each stored_cell (fields_below 1 (drop (suc g) es))) tail ≡ done (os, mid) → (i : ℕ) → i < length os
        → ((one cell next : Bytes) → rest_of (times i (each stored_cell (fields_below 1 (drop (suc g) es))) tail) ≡ done one
        → rest_of (each stored_cell (fields_in (slice (suc g) j es)) one) ≡ done cell
        → stored_cell (record { name = n; format = f; size = s; multiple = mu }) cell ≡ done (values_at (parts_from before es) r n (suc i), next) → C) → C
    values_there tail t i l k =
        times_at (each stored_cell (fields_below 1 (drop (suc g) es))) [] (length os) i tail l t λ one after h₁ h₂.
        cell_below es d g j n later deep first f s mu what one h₂ λ cs cell next h₃ h₄.
        k one cell next (ap rest_of h₁) (ap rest_of h₃) (h₄ ∙ rw (q.values level n j later deep first f s mu what (suc i)) refl)

-- A walk over no field is over.
pub between_over : (es : List Entry) (j : ℕ) (bs : Bytes) → rest_of (each stored_cell (fields_in (slice j j es)) bs) ≡ done bs
unfolding fields_in each
between_over es j bs = rw (slice_empty j es) refl
