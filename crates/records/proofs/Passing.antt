-- What stands from an entry on, by induction over the entries before it: their parts are passed, and hold nothing of a name that is not theirs.
use mathlib.Core.Path.{◌≡◌, refl, ◌∙◌, ap}
use mathlib.Core.Bool.{Bool, true, false}
use mathlib.Core.List.{List, [], ◌∷◌, ◌++◌}
use mathlib.Core.Option.{none}
use Prim.Native.Nat.{ℕ, zero, suc, ◌≤◌, ◌<◌}
use native.Mathlib.Nat.{not-suc-le-zero, le_of_suc-le-suc}
use lib.Dec.{eqb, ltb}
use lib.ListN.{length, drop, get_or}
use Rattle.rules.specs.Outcome.{done}
use Rattle.rules.specs.Lists.{Bytes}
use Rattle.rules.specs.Table.{What, field, group, Entry, Field, Part, is_inside, inside_of, fields_below, alone, part_of, parts_from, member}
use Rattle.rules.specs.Record.{Record, each, stored_part, values_at, group_count_at}
use Rattle.rules.proofs.Steps.{by_test}
use Rattle.tables.specs.Entries.{is_periodic}
use Rattle.tables.specs.Places.{inside_from}
use Rattle.records.specs.Walk.{rest_of, after_entry, start_of}
use Rattle.records.specs.Where.{First, field_of}
use Rattle.records.proofs.Cells.{each_first}
use Rattle.records.proofs.EmptyEntries.{inside_periodic, inside_deeper}

-- No entry before entry j has the name n.
abbrev pub Unnamed : ℕ → List Entry → ℕ → Type 0
Unnamed n es zero = Unit {0}
Unnamed n [] (suc j) = Unit {0}
Unnamed n (e ∷ es) (suc j) = (eqb e.name n ≡ false) × Unnamed n es j

pub unnamed : (n : ℕ) (es : List Entry) (g j : ℕ) → g ≤ j → First n es j → Unnamed n es g
unnamed n es zero j l f = tt
unnamed n [] (suc g) j l f = tt
unnamed n (e ∷ es) (suc g) zero l f = absurd (not-suc-le-zero l)
unnamed n (e ∷ es) (suc g) (suc j) l f = (f.0, unnamed n es g j (le_of_suc-le-suc l) f.1)

-- Entry j lies in no periodic group that begins before it: it has level 1, or is in none.
abbrev pub Clear : Bool → List Entry → Entry → ℕ → Type 0
Clear before es d j = ltb 1 (get_or es j d).level ≡ true → inside_from before es j ≡ true → ⊥

-- Only level 1 leaves a periodic group.
stays : (level : ℕ) (w : What) → ltb 1 level ≡ true → inside_of true level w ≡ true
stays level w t = by_test (is_periodic w) (inside_periodic true level w) (λ p. inside_deeper true level w p refl ∙ t)

-- An entry of a level above 1 adds its field, if it is one, to those after it; an entry of level 1 ends them.
module _ (e : Entry) (es : List Entry) where
  pub below_on : ltb 1 e.level ≡ true → fields_below 1 (e ∷ es) ≡ field_of e.name e.what ++ fields_below 1 es
  unfolding fields_below field_of
  below_on t = rw (t, fields_below) (go e.what)
    where
      go : (w : What) → elim w [ field f n m ↦ record { name = e.name; format = f; size = n; multiple = m } ∷ fields_below 1 es | group p ↦ fields_below 1 es ]
          ≡ field_of e.name w ++ fields_below 1 es
      go (field f n m) = refl
      go (group p) = refl

  pub below_end : ltb 1 e.level ≡ false → fields_below 1 (e ∷ es) ≡ []
  unfolding fields_below
  below_end t = rw (t, fields_below) refl

pub other_name : (n m : ℕ) (w : What) (fs : List Field) → eqb m n ≡ false → member n (field_of m w ++ fs) ≡ member n fs
unfolding field_of member
other_name n m (field f s mu) fs q = rw (q, member) refl
other_name n m (group p) fs q = refl

-- A periodic group that does not reach as far as entry j has no field of a name that no entry before entry j has.
pub none_below : (n : ℕ) (es : List Entry) (d : Entry) (j : ℕ) → j < length es → Unnamed n es j → Clear true es d j → member n (fields_below 1 es) ≡ none
unfolding member inside_from
none_below n [] d j l u c = absurd (not-suc-le-zero l)
none_below n (e ∷ es) d zero l u c = by_test (ltb 1 e.level) (λ t. absurd (c t (stays e.level e.what t))) (λ t. rw (below_end e es t) refl)
none_below n (e ∷ es) d (suc j) l u c = by_test (ltb 1 e.level)
    (λ t. rw (below_on e es t, other_name n e.name e.what (fields_below 1 es) u.0)
    (none_below n es d j (le_of_suc-le-suc l) u.1 (λ s i. c s (rw (stays e.level e.what t) i))))
    (λ t. rw (below_end e es t) refl)

-- An entry that is passed: what stands after its part, if it begins one, is the record of the parts after it, and they have what the whole
-- has of a name that is not the entry's, nor in the periodic group that the entry is.
record Passed (inside : Bool) (m : ℕ) (w : What) (es : List Entry) (ps : List Part) (bs : Bytes) (r : Record) (rest cs : Bytes) (r' : Record) : Type 0 where
  left : rest_of (each stored_part (part_of inside m w es []) bs) ≡ done cs
  stands : each stored_part ps cs ≡ done (r', rest)
  counts : (n : ℕ) → eqb m n ≡ false → group_count_at (part_of inside m w es ps) r n ≡ group_count_at ps r' n
  values : (n : ℕ) → eqb m n ≡ false → (w ≡ group true → member n (fields_below 1 es) ≡ none) → (i : ℕ) → values_at (part_of inside m w es ps) r n i ≡ values_at ps r' n i

pass : {C : Type 0} (inside : Bool) (m : ℕ) (w : What) (es : List Entry) (ps : List Part) (bs : Bytes) (r : Record) (rest : Bytes)
    → each stored_part (part_of inside m w es ps) bs ≡ done (r, rest) → ((cs : Bytes) (r' : Record) → Passed inside m w es ps bs r rest cs r' → C) → C
unfolding part_of alone each member group_count_at values_at
pass inside m (group true) es ps bs r rest p k =
    let g : Part = record { name = m; periodic = true; members = fields_below 1 es } in
    each_first stored_part g ps bs p λ os r' mid e h t. k mid r' (record {
      left = rw h refl;
      stands = t;
      counts = λ n q. rw (e, q) refl;
      values = λ n q none i. rw (e, none refl) refl;
    })
pass inside m (group false) es ps bs r rest p k = k bs r (record { left = refl; stands = p; counts = λ n q. refl; values = λ n q none i. refl })
pass true m (field f s mu) es ps bs r rest p k = k bs r (record { left = refl; stands = p; counts = λ n q. refl; values = λ n q none i. refl })
pass false m (field f s mu) es ps bs r rest p k =
    let a : Part = alone (record { name = m; format = f; size = s; multiple = mu }) in
    each_first stored_part a ps bs p λ os r' mid e h t. k mid r' (record {
      left = rw h refl;
      stands = t;
      counts = λ n q. rw (e, q) refl;
      values = λ n q none i. rw (e, q) refl;
    })

-- The parts from entry j on.
abbrev pub parts_at : Bool → List Entry → Entry → ℕ → List Part
parts_at before es d j = part_of (inside_from before es j) (get_or es j d).name (get_or es j d).what (drop (suc j) es) (parts_from (inside_from before es j) (drop (suc j) es))

-- Entry j is reached: what stands from it on is the record of its part and those after it.
pub record Reached (before : Bool) (es : List Entry) (bs : Bytes) (r : Record) (rest : Bytes) (d : Entry) (j : ℕ) (r' : Record) : Type 0 where
  pub stands : each stored_part (parts_at before es d j) (start_of before es bs j) ≡ done (r', rest)
  pub counts : (n : ℕ) → Unnamed n es j → group_count_at (parts_from before es) r n ≡ group_count_at (parts_at before es d j) r' n
  pub values : (n : ℕ) → Unnamed n es j → Clear before es d j → (i : ℕ) → values_at (parts_from before es) r n i ≡ values_at (parts_at before es d j) r' n i

pub reach : {C : Type 0} (before : Bool) (es : List Entry) (bs : Bytes) (r : Record) (rest : Bytes) (d : Entry) (j : ℕ) → j < length es
    → each stored_part (parts_from before es) bs ≡ done (r, rest) → ((r' : Record) → Reached before es bs r rest d j r' → C) → C
unfolding parts_from inside_from start_of after_entry
reach before [] bs r rest d j l p k = absurd (not-suc-le-zero l)
reach before (e ∷ es) bs r rest d zero l p k = k r (record { stands = p; counts = λ n u. refl; values = λ n u c i. refl })
reach before (e ∷ es) bs r rest d (suc j) l p k =
    pass (is_inside before e) e.name e.what es (parts_from (is_inside before e) es) bs r rest p λ cs r₁ q.
    reach (is_inside before e) es cs r₁ rest d j (le_of_suc-le-suc l) q.stands λ r' s. k r' (record {
      stands = rw q.left s.stands;
      counts = λ n u. q.counts n u.0 ∙ s.counts n u.1;
      values = λ n u c i. q.values n u.0
          (λ w. none_below n es d j (le_of_suc-le-suc l) u.1 (λ t h. c t (rw (inside_periodic before e.level e.what (ap is_periodic w)) h))) i ∙ s.values n u.1 c i;
    })
