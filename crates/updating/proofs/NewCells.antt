-- A cell of the new record, by the format and the length of its entry: each value is what is assigned to it, or what the cell had, or null.
use Rattle.std.specs.Prelude.{None, Option, Some}
use mathlib.Core.Path.{◌≡◌, refl, sym, ◌∙◌, ap, subst}
use mathlib.Core.Bool.{Bool, true, false, false≢true}
use mathlib.Core.List.{List, ◌∷◌, ◌++◌}
use Prim.Native.Nat.{ℕ, zero, suc, pred, max, ◌≤◌}
use native.Mathlib.Omega.{arith}
use lib.ListN.{length, drop, get_or, replicate}
use Rattle.rules.specs.Limits.{highest_index, greatest_count}
use Rattle.rules.specs.Lists.{Bytes, join, run}
use Rattle.rules.specs.Values.{Format, null}
use Rattle.rules.specs.Outcome.{done}
use Rattle.rules.specs.Table.{Field, Entry, parts}
use Rattle.rules.specs.Use.{Place}
use Rattle.rules.specs.Record.{Record, count_or_one, counted, stored_value, stored_cell, count_bytes, values_at, value_at, value_count_at}
use Rattle.rules.specs.Update.{Assignment, assigned, to_field, bare_only, highest_value, new_value, new_value_count, update_plan}
use Rattle.rules.proofs.Steps.{by_option}
use Rattle.rules.proofs.Back.{All}
use Rattle.rules.proofs.Alls.{all_parts}
use Rattle.tables.specs.Entries.{blank, is_group, is_multiple, field_format, size_of}
use Rattle.tables.specs.Groups.{field_at}
use Rattle.records.specs.Places.{CellOf}
use Rattle.records.proofs.Cells.{counted_once}
use Rattle.records.proofs.Placed.{by_field, field_is}
use Rattle.assignments.specs.Notes.{place_at, TakesAt, Indexed}
use Rattle.assignments.specs.Answers.{Names, ReadsBack}
use Rattle.assignments.specs.declared.Naming.{Naming}
use Rattle.assignments.proofs.Giving.{all_read_back, read_there}
use Rattle.updating.specs.Laid.{values_laid, cell_laid}
use Rattle.updating.specs.New.{Was, Stands, Had, taken, new_values}
use Rattle.updating.proofs.Turns.{plain_cell, multiple_cell}

-- A stored count is an index, and an index can be a count.
pub counts_and_indexes : (greatest_count ≤ highest_index) × (highest_index ≤ greatest_count)
counts_and_indexes = (omega arith, omega arith)

pub larger_index : (a b : ℕ) → a ≤ greatest_count → b ≤ highest_index → max a b ≤ highest_index
larger_index a b h h₂ = let c = counts_and_indexes.0 in omega arith

-- No value has a note yet.
pub no_notes : (n k : ℕ) → ◌≡◌ {A = ℕ} (get_or (replicate n 0) k 0) 0
no_notes zero k = refl
no_notes (suc n) zero = refl
no_notes (suc n) (suc k) = no_notes n k

-- A new value is what is assigned to it, or the old one.
new_taken : (ws : List Assignment) (old : Bytes) (p : Place) → new_value ws old p ≡ taken (assigned ws p) old
unfolding new_value
new_taken ws old p = by_option (assigned ws p) (λ a e. rw (e, new_value)) (λ e. rw (e, new_value))

-- What is not counted stands there once.
once : (c : Bool) (n : ℕ) → c ≡ false → count_or_one c n ≡ 1
unfolding count_or_one
once true n e = absurd (false≢true (sym e))
once false n e = refl

-- The values that entry i had in occurrence o.
abbrev pub values_had : List Entry → ℕ → Record → ℕ → List Bytes
values_had es i r o = values_at (parts es) r (get_or es i blank).name o

-- An entry which is a field, of format f and length n.
module _ (es : List Entry) (i : ℕ) (what : is_group (get_or es i blank).what ≡ false) (f : Format) (n : ℕ)
    (format_is : f ≡ field_format (get_or es i blank).what) (size_is : n ≡ size_of (get_or es i blank).what) where
  field_numbers : field_at es i ≡ record { name = (get_or es i blank).name; format = f; size = n; multiple = is_multiple (get_or es i blank).what }
  field_numbers = by_field (get_or es i blank).what what λ g s mu w. rw (field_is es i g s mu w, format_is, size_is, w) refl

  cell_read : (bs : Bytes) → stored_cell (field_at es i) bs ≡ counted (is_multiple (get_or es i blank).what) (stored_value f n) bs
  unfolding stored_cell
  cell_read bs = rw field_numbers refl

  module _ (r : Record) (o : ℕ) where
    -- The old value k.
    old_value : (k : ℕ) → value_at (parts es) r (field_at es i) o k ≡ get_or (values_had es i r o) (pred k) (null f n)
    unfolding value_at
    old_value k = rw field_numbers refl

    module _ (b : Bytes) where
      -- A field that is not MU: its one value.
      module _ (plain : is_multiple (get_or es i blank).what ≡ false) where
        pub plain_was : (c : Option ℕ) → CellOf es b i o r c → Was b f n (get_or (values_had es i r o) 0 (null f n)) c
        plain_was (Some q) x = counted_once (stored_value f n) (drop q b) (rw plain at (sym (cell_read (drop q b)) ∙ x.2)) λ v u p.
            (x.0, x.1, rw u p)
        plain_was None x = rw x refl

        pub plain_laid : (ws : List Assignment) → cell_laid (update_plan (parts es) r ws) o (field_at es i) ≡ taken (assigned ws (place_at es i o 1)) (get_or (values_had es i r o) 0 (null f n))
        unfolding update_plan
        plain_laid ws =
            plain_cell (update_plan (parts es) r ws) o (field_at es i) (rw field_numbers plain) (once (field_at es i).multiple _ (rw field_numbers plain))
            ∙ new_taken ws (value_at (parts es) r (field_at es i) o 1) (place_at es i o 1) ∙ ap (taken (assigned ws (place_at es i o 1))) (old_value 1)

      -- An MU field: its count, and as many values.
      module _ (multiple : is_multiple (get_or es i blank).what ≡ true) where
        pub multiple_had : (c : Option ℕ) → CellOf es b i o r c → Had b f n (values_had es i r o) c
        multiple_had (Some q) x = (x.0, x.1, rw multiple at (sym (cell_read (drop q b)) ∙ x.2))
        multiple_had None x = x

        module _ (ws : List Assignment) where
          counted_new : (update_plan (parts es) r ws).values (field_at es i) o ≡ new_value_count ws (get_or es i blank).name o (length (values_had es i r o))
          unfolding update_plan value_count_at count_or_one
          counted_new = rw (field_numbers, multiple) refl

          module _ (by : List ℕ) (named : Naming) (names : Names es ws i o by named) where
            -- By bare names only the count is the number of names, which is the highest value.
            pub count_bare : ((m j : ℕ) → bare_only (to_field ws m j) ≡ true → length (to_field ws m j) ≡ highest_value ws m j) → named.bare ≡ true
                → (update_plan (parts es) r ws).values (field_at es i) o ≡ named.highest
            unfolding new_value_count
            count_bare a t =
                let t₂ = sym names.bare ∙ t in
                counted_new ∙ rw (t₂, new_value_count) (a (get_or es i blank).name o t₂ ∙ sym names.highest)

            pub count_larger : named.bare ≡ false → (update_plan (parts es) r ws).values (field_at es i) o ≡ max (length (values_had es i r o)) named.highest
            unfolding new_value_count
            count_larger t = let t₂ = sym names.bare ∙ t in counted_new ∙ rw (t₂, new_value_count, names.highest) refl

          value_new : (k : ℕ) → (update_plan (parts es) r ws).value (field_at es i) o k ≡ taken (assigned ws (place_at es i o k)) (get_or (values_had es i r o) (pred k) (null f n))
          unfolding update_plan
          value_new k = new_taken ws (value_at (parts es) r (field_at es i) o k) (place_at es i o k) ∙ ap (taken (assigned ws (place_at es i o k))) (old_value k)

          values_new : (k m : ℕ) → values_laid (update_plan (parts es) r ws) (field_at es i) o k m
              ≡ new_values (λ j. assigned ws (place_at es i o j)) f n (values_had es i r o) k m
          unfolding values_laid new_values run join
          values_new k zero = refl
          values_new k (suc m) = rw (value_new k, values_new (suc k) m) refl

          pub multiple_laid : (m : ℕ) → (update_plan (parts es) r ws).values (field_at es i) o ≡ m
              → cell_laid (update_plan (parts es) r ws) o (field_at es i) ≡ count_bytes m ++ new_values (λ j. assigned ws (place_at es i o j)) f n (values_had es i r o) 1 m
          multiple_laid m c = multiple_cell (update_plan (parts es) r ws) o (field_at es i) (rw field_numbers multiple) ∙ rw (c, values_new 1 m) refl

  -- What a value takes stands on the stage at the field's own format and length.
  pub takes_stands : {text : Bytes} {kept : List ℕ} {count : ℕ} {list : List ℕ} {stage : Bytes} {ws : List Assignment} → Indexed es text kept count list stage ws → (o k m : ℕ)
      → TakesAt ws (place_at es i o k) m → Stands stage f n (assigned ws (place_at es i o k)) m
  takes_stands x o k zero t = t
  takes_stands {stage = stage} {ws = ws} x o k (suc p) (a, s, q, w) =
      let l = x.listed in
      let b = (all_parts ReadsBack s.before (a ∷ s.after) (subst (All ReadsBack) s.is (all_read_back l))).1.0 in
      let z : a.place.field ≡ record { name = (get_or es i blank).name; format = f; size = n; multiple = is_multiple (get_or es i blank).what } = ap (λ (u : Place). u.field) q ∙ field_numbers in
      let (h, rest, r) = read_there l.stands s b in
      (a.bytes, w, (h, rest, subst (λ (g : Field). stored_value g.format g.size (drop p stage) ≡ done (a.bytes, rest)) z r))
