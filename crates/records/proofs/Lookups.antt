-- Where the values of a name lie in a record: its entry is reached, and its part, or the periodic group that it lies in, is the first from there on.
use mathlib.Core.Path.{◌≡◌, refl, ◌∙◌}
use mathlib.Core.Bool.{Bool, true, false}
use mathlib.Core.List.{List, [], ◌∷◌}
use mathlib.Core.Option.{some}
use Prim.Native.Nat.{ℕ, suc, pred, ◌≤◌, ◌<◌}
use native.Mathlib.Omega.{arith}
use borrow.Author.Tests.{le-ltb}
use lib.Dec.{eqb}
use lib.ListN.{length, drop, get_or}
use Rattle.rules.specs.Outcome.{done}
use Rattle.rules.specs.Lists.{Bytes}
use Rattle.rules.specs.Values.{Format}
use Rattle.rules.specs.Table.{field, group, Entry, Field, Part, fields_below, alone, part_of, parts_from, member}
use Rattle.rules.specs.Record.{Occurrence, Record, each, stored_cell, stored_part, cell_of, values_at, group_count_at}
use Rattle.tables.specs.Places.{inside_from}
use Rattle.records.specs.Walk.{start_of}
use Rattle.records.specs.Where.{First, Deeper}
use Rattle.records.proofs.Cells.{each_first, counted_once}
use Rattle.records.proofs.Groups.{member_below}
use Rattle.records.proofs.Entries.{never, first_within, first_name}
use Rattle.records.proofs.Passing.{unnamed, reach}

-- A field alone, before other parts.
alone_here : {C : Type 0} (m n : ℕ) (f : Format) (s : ℕ) (mu : Bool) (es : List Entry) (ps : List Part) (bs : Bytes) (r : Record) (rest : Bytes)
    → eqb m n ≡ true → each stored_part (part_of false m (field f s mu) es ps) bs ≡ done (r, rest)
    → ((mid : Bytes) → stored_cell (record { name = n; format = f; size = s; multiple = mu }) bs ≡ done (values_at (part_of false m (field f s mu) es ps) r n 1, mid) → C) → C
unfolding part_of alone stored_part stored_cell each values_at member cell_of
alone_here m n f s mu es ps bs r rest q p k =
    let x : Field = record { name = m; format = f; size = s; multiple = mu } in
    each_first stored_part (alone x) ps bs p λ os r' mid e h t.
    counted_once (each stored_cell (x ∷ [])) bs h λ o e₁ h₁.
    each_first stored_cell x [] bs h₁ λ c cs mid₁ e₂ h₂ t₂.
    k mid₁ (rw (e, q, e₁, e₂, q) h₂)

-- A periodic group, before other parts.
group_here : {C : Type 0} (inside : Bool) (m : ℕ) (es : List Entry) (ps : List Part) (bs : Bytes) (r : Record) (rest : Bytes)
    → each stored_part (part_of inside m (group true) es ps) bs ≡ done (r, rest)
    → ((os : List Occurrence) (mid : Bytes) → stored_part (record { name = m; periodic = true; members = fields_below 1 es }) bs ≡ done (os, mid)
    → ((n : ℕ) → eqb m n ≡ true → group_count_at (part_of inside m (group true) es ps) r n ≡ length os)
    → ((n : ℕ) (f : Field) → member n (fields_below 1 es) ≡ some f → (i : ℕ) → values_at (part_of inside m (group true) es ps) r n i ≡ cell_of n (fields_below 1 es) (get_or os (pred i) []))
    → C) → C
unfolding part_of each group_count_at values_at
group_here inside m es ps bs r rest p k =
    let x : Part = record { name = m; periodic = true; members = fields_below 1 es } in
    each_first stored_part x ps bs p λ os r' mid e h t.
    k os mid h (λ n q. rw (e, q) refl) (λ n f q i. rw (e, q) refl)

-- A periodic group, entry g: its occurrences stand at its place, they are counted, and each has a cell for a field in the group.
pub record Grouped (before : Bool) (es : List Entry) (bs : Bytes) (r : Record) (d : Entry) (g : ℕ) (os : List Occurrence) (mid : Bytes) : Type 0 where
  pub stands : stored_part (record { name = (get_or es g d).name; periodic = true; members = fields_below 1 (drop (suc g) es) }) (start_of before es bs g) ≡ done (os, mid)
  pub count : (n : ℕ) → First n es g → group_count_at (parts_from before es) r n ≡ length os
  pub values : (get_or es g d).level ≤ 1 → (n j : ℕ) → g < j → Deeper es d g j → First n es j
      → (f : Format) (s : ℕ) (mu : Bool) → (get_or es j d).what ≡ field f s mu
      → (i : ℕ) → values_at (parts_from before es) r n i ≡ cell_of n (fields_below 1 (drop (suc g) es)) (get_or os (pred i) [])

module _ (before : Bool) (es : List Entry) (bs : Bytes) (r : Record) (rest : Bytes) (whole : each stored_part (parts_from before es) bs ≡ done (r, rest)) (d : Entry) where
  -- The values of a field outside periodic groups are the cell at its entry's place.
  pub outside : {C : Type 0} (n j : ℕ) (f : Format) (s : ℕ) (mu : Bool) → First n es j → inside_from before es j ≡ false → (get_or es j d).what ≡ field f s mu
      → ((mid : Bytes) → stored_cell (record { name = n; format = f; size = s; multiple = mu }) (start_of before es bs j) ≡ done (values_at (parts_from before es) r n 1, mid) → C) → C
  outside n j f s mu first out what k =
      reach before es bs r rest d j (first_within n es j first) whole λ r' q.
      alone_here (get_or es j d).name n f s mu (drop (suc j) es) _ (start_of before es bs j) r' rest (first_name n es d j first) (rw (out, what) at q.stands) λ mid h.
      k mid (h ∙ rw (q.values n (unnamed n es j j (omega arith) first) (λ t i. never out i) 1, out, what) refl)

  -- The occurrences of a periodic group are what stands at its entry's place.
  pub grouped : {C : Type 0} (g : ℕ) → g < length es → (get_or es g d).what ≡ group true → ((os : List Occurrence) (mid : Bytes) → Grouped before es bs r d g os mid → C) → C
  grouped g l what k =
      reach before es bs r rest d g l whole λ r' q.
      group_here (inside_from before es g) (get_or es g d).name (drop (suc g) es) (parts_from (inside_from before es g) (drop (suc g) es)) (start_of before es bs g) r' rest
      (rw what at q.stands) λ os mid h c v.
      k os mid (record {
        stands = h;
        count = λ n first. q.counts n (unnamed n es g g (omega arith) first) ∙ rw what (c n (first_name n es d g first));
        values = λ top n j o deep first f s mu w i.
            q.values n (unnamed n es g j (omega arith) first) (λ t z. never (le-ltb 1 (get_or es g d).level top) t) i
            ∙ rw what (v n _ (member_below es d g j n o deep first f s mu w) i);
      })
