-- The part that holds a field of a periodic group is named as the group is: no part before it has a field of that name, by induction over the entries before the group.
use mathlib.Core.Path.{◌≡◌, refl, ◌∙◌, ap}
use mathlib.Core.Bool.{Bool, true, false}
use mathlib.Core.List.{List, [], ◌∷◌}
use mathlib.Core.Option.{none}
use Prim.Native.Nat.{ℕ, zero, suc, ◌<◌}
use native.Mathlib.Nat.{not-suc-le-zero, le_of_suc-le-suc}
use native.Mathlib.Omega.{arith}
use borrow.Author.Tests.{le-ltb}
use lib.Dec.{eqb}
use lib.ListN.{length, get_or}
use Rattle.rules.specs.Table.{What, field, group, Entry, Part, is_inside, fields_below, alone, part_of, parts_from, parts, member, part_holding, names, differ}
use Rattle.rules.proofs.Steps.{true_T}
use Rattle.tables.specs.Entries.{blank, is_group, is_periodic}
use Rattle.tables.specs.Places.{inside_from, Home}
use Rattle.tables.proofs.EntryFields.{field_periodic}
use Rattle.records.proofs.EmptyEntries.{inside_periodic}
use Rattle.records.proofs.Entries.{never, differ_first}
use Rattle.records.proofs.Groups.{member_below}
use Rattle.records.proofs.Passing.{Unnamed, unnamed, Clear, none_below, parts_at}
use Rattle.records.proofs.Placed.{by_field, home_deeper, home_before}

module _ (n : ℕ) where
  -- An entry that is passed.
  passed : (inside : Bool) (m : ℕ) (w : What) (es : List Entry) (ps : List Part) → eqb m n ≡ false → (w ≡ group true → member n (fields_below 1 es) ≡ none)
      → part_holding n (part_of inside m w es ps) ≡ part_holding n ps
  unfolding part_holding part_of alone member
  passed inside m (group true) es ps q h = rw (h refl, part_holding) refl
  passed inside m (group false) es ps q h = refl
  passed true m (field f s mu) es ps q h = refl
  passed false m (field f s mu) es ps q h = rw (q, member, part_holding) refl

  reached : (before : Bool) (es : List Entry) (d : Entry) (j : ℕ) → j < length es → Unnamed n es j → Clear before es d j
      → part_holding n (parts_from before es) ≡ part_holding n (parts_at before es d j)
  unfolding parts_from inside_from
  reached before [] d j l u c = absurd (not-suc-le-zero l)
  reached before (e ∷ es) d zero l u c = refl
  reached before (e ∷ es) d (suc j) l u c =
      passed (is_inside before e) e.name e.what es (parts_from (is_inside before e) es) u.0
      (λ w. none_below n es d j (le_of_suc-le-suc l) u.1 (λ t h. c t (rw (inside_periodic before e.level e.what (ap is_periodic w)) h)))
      ∙ reached (is_inside before e) es d j (le_of_suc-le-suc l) u.1 c

-- Entry i is a field of the periodic group that entry g is.
pub holding : (es : List Entry) → differ (names es) ≡ true → (i g : ℕ) → i < length es → is_group (get_or es i blank).what ≡ false → Home es i g
    → part_holding (get_or es i blank).name (parts es) ≡ (get_or es g blank).name
unfolding parts part_of part_holding
holding es named i g less what home =
    let n = (get_or es i blank).name in
    let first = differ_first es blank i less (true_T named) in
    let later = home_before es i g (field_periodic (get_or es i blank).what what) home in
    by_field (get_or es i blank).what what λ f s mu w.
    reached n false es blank g (omega arith) (unnamed n es g i (omega arith) first) (λ t z. never (le-ltb 1 (get_or es g blank).level (omega (arith, home.level))) t)
    ∙ rw (home.periodic, member_below es blank g i n later (home_deeper es i g home) first f s mu w, part_holding) refl
