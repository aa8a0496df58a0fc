-- The cells of an occurrence one after the other: where one ends the next begins, since the fields up to an entry and the entry itself are
-- the fields up to the next.
use Rattle.std.specs.Prelude.{Option, Some}
use mathlib.Core.Path.{◌≡◌, sym, ◌∙◌, ap}
use mathlib.Core.Bool.{false}
use mathlib.Core.List.{List}
use Prim.Native.Nat.{ℕ, ◌+◌, ◌-◌, ◌<◌}
use native.Mathlib.Omega.{arith}
use lib.ListN.{length, drop, get_or}
use lib.Seq.{slice}
use Rattle.rules.specs.Lists.{Bytes}
use Rattle.rules.specs.Record.{Record, each, stored_cell}
use Rattle.tables.specs.Entries.{Valid, entries_of, blank, is_group}
use Rattle.tables.specs.Groups.{fields_in}
use Rattle.tables.proofs.Tables.{valid_names}
use Rattle.tables.proofs.Known.{periodic_level}
use Rattle.records.specs.Walk.{rest_of, Ends, EndsAt}
use Rattle.records.specs.Places.{Entered, MemberEntered, CellOf}
use Rattle.records.proofs.Walks.{walked_as}
use Rattle.records.proofs.Checking.{each_on}
use Rattle.records.proofs.Groups.{fields_split}
use Rattle.records.proofs.Placed.{members_end, cell_entered}
use Rattle.records.proofs.Strips.{home_in}

-- What is found of a field among the members of a periodic group is its cell.
pub member_cell : (t : Bytes) → Valid t → {b : Bytes} {places : List ℕ} {g i o : ℕ} {r : Record} (c : Option ℕ) → i < length (entries_of t)
    → is_group (get_or (entries_of t) i blank).what ≡ false → MemberEntered (entries_of t) b places g i o r c → CellOf (entries_of t) b i o r c
member_cell t valid {g = g} {i} {o} c less what m =
    let after = m.after in
    let there : g < length (entries_of t) = omega arith in
    cell_entered m.held (valid_names t valid) i g o less what m.some
    (home_in t valid m.held g o m.some (periodic_level t valid g there m.periodic) m.periodic there i after m.within) c m.entered

module _ (t : Bytes) (valid : Valid t) {b : Bytes} {places : List ℕ} {g i o : ℕ} {r : Record} {q : ℕ} (less : i < length (entries_of t))
    (m : MemberEntered (entries_of t) b places g i o r (Some q)) where
  up_to_next : rest_of (each stored_cell (fields_in (slice (g + 1) (i + 1) (entries_of t))) (drop m.entered.0 b))
      ≡ rest_of (each stored_cell (fields_in (slice i (i + 1) (entries_of t))) (drop q b))
  up_to_next =
      let es = entries_of t in
      let after = m.after in
      ap (λ fs. rest_of (each stored_cell fs (drop m.entered.0 b))) (fields_split es blank (i - (g + 1)) (g + 1) i (i + 1) (omega arith) (omega arith) (omega arith))
      ∙ each_on stored_cell (fields_in (slice i (i + 1) es)) (fields_in (slice (g + 1) i es)) (drop m.entered.0 b) (drop q b) (sym m.entered.1.before.answer)

  -- The cell comes to an end, and there the next begins.
  pub member_ends : Ends (rest_of (each stored_cell (fields_in (slice i (i + 1) (entries_of t))) (drop q b)))
  member_ends =
      let e = m.entered in
      let after = m.after in
      let within = m.within in
      let w = members_end m.held (valid_names t valid) g (omega arith) m.periodic (periodic_level t valid g (omega arith) m.periodic) o m.some e.1.many e.0 e.1.row (i + 1) (omega arith) (omega arith) in
      (w.0, sym up_to_next ∙ w.1)

  pub member_next : (n : ℕ) → EndsAt b (rest_of (each stored_cell (fields_in (slice i (i + 1) (entries_of t))) (drop q b))) n → Entered (entries_of t) b places g (i + 1) o r (Some n)
  member_next n h =
      let e = m.entered in
      (e.0, record { many = e.1.many; row = e.1.row; before = walked_as up_to_next (h member_ends) })
