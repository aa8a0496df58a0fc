-- What an entry adds to the new record, by what the code finds of it: a periodic group its new count and its occurrences, a field outside
-- its cell, anything else nothing.
use mathlib.Core.Path.{◌≡◌, refl, sym, ◌∙◌, ap}
use mathlib.Core.Bool.{Bool, true, false, false≢true}
use mathlib.Core.List.{List, []}
use Prim.Native.Nat.{ℕ, suc, ◌+◌, ◌<◌, max}
use native.Mathlib.Nat.{add-zero, zero-add}
use native.Mathlib.Numerals.{add-one}
use native.Mathlib.Omega.{arith}
use lib.ListN.{length, drop, get_or}
use lib.Seq.{slice, drop-cons}
use Rattle.rules.specs.Lists.{Bytes}
use Rattle.rules.specs.Table.{What, field, group, Entry, Part, is_inside, fields_below}
use Rattle.rules.specs.Record.{Record, Plan, group_count_at, count_or_one}
use Rattle.rules.specs.Update.{Assignment, highest_occurrence, new_group_count, update_plan}
use Rattle.tables.specs.Entries.{Valid, entries_of, blank, is_periodic}
use Rattle.tables.specs.Groups.{group_end, fields_in}
use Rattle.tables.specs.Places.{inside_from, inside_at}
use Rattle.tables.proofs.Known.{periodic_level}
use Rattle.records.proofs.Ends.{group_fields}
use Rattle.updating.specs.Laid.{group_part, entry_laid}
use Rattle.updating.proofs.Turns.{adds_group}

-- The new count of a periodic group.
pub group_new : (ps : List Part) (r : Record) (ws : List Assignment) (name : ℕ) (es : List Entry) (old highest n : ℕ) → old ≡ group_count_at ps r name → highest ≡ highest_occurrence ws (group_part name es)
    → n ≡ max old highest → n ≡ (update_plan ps r ws).occurrences (group_part name es) (group_count_at ps r name)
unfolding update_plan count_or_one new_group_count
group_new ps r ws name es old highest n e h m = rw (m, e, h)

-- The fields of a periodic group by their entries.
pub group_members : (t : Bytes) → Valid t → (g : ℕ) → g < length (entries_of t) → (get_or (entries_of t) g blank).what ≡ group true → (last : ℕ) → last ≡ group_end (entries_of t) g
    → fields_below 1 (drop (g + 1) (entries_of t)) ≡ fields_in (slice (g + 1) last (entries_of t))
group_members t valid g l what last e =
    let es = entries_of t in
    ap (λ n. fields_below 1 (drop n es)) (add-one g) ∙ group_fields es g (periodic_level t valid g l what) ∙ ap (λ n. fields_in (slice (g + 1) n es)) (sym e)

-- A periodic group adds the same wherever it stands, and an entry in one that is none itself adds nothing more.
module _ (w : Plan) (old : ℕ → ℕ) (name : ℕ) (es : List Entry) where
  pub adds_alike : (inside : Bool) (x : What) → is_periodic x ≡ true → entry_laid w old true name (group true) es ≡ entry_laid w old inside name x es
  adds_alike inside x e = adds_group w old name es true (group true) refl ∙ sym (adds_group w old name es inside x e)

  pub adds_inside : (inside : Bool) (x : What) → is_periodic x ≡ false → inside ≡ true → entry_laid w old inside name x es ≡ []
  unfolding entry_laid
  adds_inside true (field f s mu) p e = refl
  adds_inside false (field f s mu) p e = absurd (false≢true e)
  adds_inside inside (group true) p e = absurd (false≢true (sym p))
  adds_inside inside (group false) p e = refl

-- Whether the entries from entry i on are periodic groups or in one, by whether the entry before it is.
pub record Insides (es : List Entry) (i : ℕ) (before : Bool) : Type 0 where
  pub each : (k : ℕ) → inside_from before (drop i es) k ≡ inside_at es (i + k)

pub insides_start : (es : List Entry) → Insides es 0 false
insides_start es = record { each = λ k. rw (zero-add k) }

module _ {es : List Entry} {i : ℕ} {before : Bool} (s : Insides es i before) (less : i < length es) where
  pub inside_here : is_inside before (get_or es i blank) ≡ inside_at es i
  unfolding inside_from
  inside_here = rw (drop-cons es i blank less, add-zero i) at (s.each 0)

  pub insides_on : Insides es (i + 1) (is_inside before (get_or es i blank))
  unfolding inside_from
  insides_on = record {
    each = λ k. let z : i + suc k ≡ i + 1 + k = omega arith in
        rw (add-one i) (rw (drop-cons es i blank less, z, add-one i) at (s.each (suc k)));
  }
