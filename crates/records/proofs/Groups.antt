-- The fields of a periodic group by their entries: those between the group and an entry in it, then that entry's own, then the others.
use mathlib.Core.Path.{◌≡◌, refl, sym, ◌∙◌, ap}
use mathlib.Core.Bool.{Bool, true}
use mathlib.Core.List.{List, [], ◌∷◌, ◌++◌, append_assoc}
use mathlib.Core.Option.{none, some}
use Prim.Native.Nat.{ℕ, zero, suc, ◌+◌, ◌≤◌, ◌<◌}
use native.Mathlib.Nat.{not-suc-le-zero, le_of_suc-le-suc}
use native.Mathlib.Omega.{arith}
use borrow.Author.Tests.{le-leb}
use lib.Dec.{eqb}
use lib.ListN.{length, take, drop, get_or}
use lib.Seq.{slice, slice-cons, slice_empty}
use Rattle.rules.specs.Outcome.{done}
use Rattle.rules.specs.Lists.{Bytes}
use Rattle.rules.specs.Values.{Format}
use Rattle.rules.specs.Table.{What, field, group, Entry, Field, fields_below, member}
use Rattle.rules.specs.Record.{Occurrence, each, stored_cell, cell_of}
use Rattle.rules.proofs.Steps.{by_test, not_some}
use Rattle.records.specs.Where.{First, Deeper, field_of}
use Rattle.tables.specs.Groups.{with_field, fields_in}
use Rattle.tables.proofs.EntryFields.{first_field}
use Rattle.records.proofs.Cells.{members_at}
use Rattle.records.proofs.Entries.{first_within, first_name}
use Rattle.records.proofs.Passing.{below_on, other_name}

-- The fields among entries are the first one's and the others.
with_own : (n : ℕ) (w : What) (fs : List Field) → with_field n w fs ≡ field_of n w ++ fs
unfolding field_of
with_own n (field f s mu) fs = refl
with_own n (group p) fs = refl

pub fields_more : (e : Entry) (es : List Entry) → fields_in (e ∷ es) ≡ field_of e.name e.what ++ fields_in es
fields_more e es = first_field e es ∙ with_own e.name e.what (fields_in es)

-- The entries up to entry j all lie deeper than level 1.
split_first : (es : List Entry) (d : Entry) (j : ℕ) → j < length es → ((k : ℕ) → k ≤ j → 1 < (get_or es k d).level)
    → fields_below 1 es ≡ fields_in (take j es) ++ (field_of (get_or es j d).name (get_or es j d).what ++ fields_below 1 (drop (suc j) es))
unfolding fields_in
split_first [] d j l h = absurd (not-suc-le-zero l)
split_first (e ∷ es) d zero l h = below_on e es (le-leb 2 e.level (h 0 (omega arith)))
split_first (e ∷ es) d (suc j) l h = rw (fields_more e (take j es)) (below_on e es (le-leb 2 e.level (h 0 (omega arith)))
    ∙ ap (λ (fs : List Field). field_of e.name e.what ++ fs) (split_first es d j (le_of_suc-le-suc l) (λ k q. h (suc k) (omega arith)))
    ∙ sym (append_assoc (field_of e.name e.what) (fields_in (take j es)) _))

pub split_below : (es : List Entry) (d : Entry) (g j : ℕ) → g < j → j < length es → Deeper es d g j
    → fields_below 1 (drop (suc g) es) ≡ fields_in (slice (suc g) j es) ++ (field_of (get_or es j d).name (get_or es j d).what ++ fields_below 1 (drop (suc j) es))
split_below [] d g j o l h = absurd (not-suc-le-zero l)
split_below (e ∷ es) d g zero o l h = absurd (not-suc-le-zero o)
split_below (e ∷ es) d zero (suc j) o l h = split_first es d j (le_of_suc-le-suc l) (λ k q. h (suc k) (omega arith) (omega arith))
split_below (e ∷ es) d (suc g) (suc j) o l h = split_below es d g j (le_of_suc-le-suc o) (le_of_suc-le-suc l) (λ k p q. h (suc k) (omega arith) (omega arith))

-- The same by their numbers; and in two runs.
pub fields_first : (es : List Entry) (d : Entry) (i j : ℕ) → i < j → j ≤ length es
    → fields_in (slice i j es) ≡ field_of (get_or es i d).name (get_or es i d).what ++ fields_in (slice (suc i) j es)
fields_first es d i j less most = rw (slice-cons i j es d less most) (fields_more (get_or es i d) (slice (suc i) j es))

pub fields_split : (es : List Entry) (d : Entry) (n i k j : ℕ) → i + n ≡ k → k ≤ j → j ≤ length es → fields_in (slice i j es) ≡ fields_in (slice i k es) ++ fields_in (slice k j es)
unfolding fields_in
fields_split es d zero i k j e h l = let z : i ≡ k = omega arith in rw (z, slice_empty k es) refl
fields_split es d (suc n) i k j e h l = rw (fields_first es d i j (omega arith) l, fields_first es d i k (omega arith) (omega arith))
    (ap (λ (fs : List Field). field_of (get_or es i d).name (get_or es i d).what ++ fs) (fields_split es d n (suc i) k j (omega arith) h l)
    ∙ sym (append_assoc (field_of (get_or es i d).name (get_or es i d).what) (fields_in (slice (suc i) k es)) (fields_in (slice k j es))))

-- Before the first entry with a name there is no field with it.
pub none_between : (n : ℕ) (es : List Entry) (g j : ℕ) → First n es j → member n (fields_in (slice g j es)) ≡ none
unfolding fields_in member
none_between n [] g j f = absurd f
none_between n (e ∷ es) zero zero f = refl
none_between n (e ∷ es) (suc g) zero f = refl
none_between n (e ∷ es) zero (suc j) f = rw (fields_more e (take j es)) (other_name n e.name e.what (fields_in (take j es)) f.0 ∙ none_between n es zero j f.1)
none_between n (e ∷ es) (suc g) (suc j) f = none_between n es g j f.1

pub some_there : (n : ℕ) (fs₁ : List Field) (f : Field) (fs₂ : List Field) → member n fs₁ ≡ none → eqb f.name n ≡ true → member n (fs₁ ++ f ∷ fs₂) ≡ some f
unfolding member
some_there n [] f fs₂ m q = rw (q, member) refl
some_there n (x ∷ fs₁) f fs₂ m q = by_test (eqb x.name n) (λ y. absurd (not_some (sym (rw (y, member) at m)))) λ y.
    rw (y, member) (some_there n fs₁ f fs₂ (rw (y, member) at m) q)

-- Entry j, a field in the group that entry g is, and the first entry with the name n.
module _ (es : List Entry) (d : Entry) (g j n : ℕ) (later : g < j) (deep : Deeper es d g j) (first : First n es j) (f : Format) (s : ℕ) (mu : Bool) (what : (get_or es j d).what ≡ field f s mu) where
  abbrev own : Field
  own = record { name = (get_or es j d).name; format = f; size = s; multiple = mu }

  split_own : fields_below 1 (drop (suc g) es) ≡ fields_in (slice (suc g) j es) ++ own ∷ fields_below 1 (drop (suc j) es)
  unfolding field_of
  split_own = split_below es d g j later (first_within n es j first) deep ∙ rw what refl

  pub member_below : member n (fields_below 1 (drop (suc g) es)) ≡ some own
  member_below = rw split_own (some_there n (fields_in (slice (suc g) j es)) own (fields_below 1 (drop (suc j) es)) (none_between n es (suc g) j first) (first_name n es d j first))

  -- In an occurrence of the group, the cell of n stands after those of the fields between.
  pub cell_below : {C : Type 0} (bs : Bytes) {rest : Bytes} {cs : Occurrence} → each stored_cell (fields_below 1 (drop (suc g) es)) bs ≡ done (cs, rest)
      → ((cs₁ : Occurrence) (mid next : Bytes) → each stored_cell (fields_in (slice (suc g) j es)) bs ≡ done (cs₁, mid)
      → stored_cell (record { name = n; format = f; size = s; multiple = mu }) mid ≡ done (cell_of n (fields_below 1 (drop (suc g) es)) cs, next) → C) → C
  unfolding stored_cell
  cell_below bs p k = members_at n (fields_in (slice (suc g) j es)) own (fields_below 1 (drop (suc j) es)) bs (none_between n es (suc g) j first) (first_name n es d j first) (rw split_own at p)
      λ cs₁ mid next h₁ h₂. k cs₁ mid next h₁ (rw split_own h₂)
