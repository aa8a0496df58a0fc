-- The run of entries below a group: its length, its fields' numbers, and that it lies in a periodic group where the group does.
use mathlib.Core.Path.{◌≡◌, refl, sym, ap, subst, ◌∙◌}
use mathlib.Core.Bool.{true, false, true≢false, false≢true}
use mathlib.Core.List.{List, [], ◌∷◌, ◌++◌, map}
use Prim.Native.Nat.{ℕ, zero, suc, ◌+◌, ◌-◌, ◌≤◌, ◌<◌}
use native.Mathlib.Nat.{le_of_suc-le-suc, not-suc-le-zero, add-zero, suc-add}
use native.Mathlib.Numerals.{add-one}
use native.Mathlib.Omega.{arith}
use borrow.Author.Tests.{lt-ltb, le-ltb}
use lib.ListN.{length, get_or, drop, drop_of_length-le, length-drop}
use lib.Seq.{drop-drop, get_or-drop}
use Rattle.rules.specs.Table.{What, field, group, Field, Entry, fields_below}
use Rattle.rules.proofs.Steps.{by_test}
use Rattle.buffer.proofs.Cases.{by_order}
use Rattle.tables.specs.Entries.{blank, is_group}
use Rattle.tables.specs.Places.{inside_at}
use Rattle.tables.specs.Groups.{run_below, group_end, numbers_below, with_number, with_field, field_by, field_at}
use Rattle.tables.proofs.EntryFields.{rest_at}
use Rattle.tables.proofs.EntryBytes.{Sound}
use Rattle.tables.proofs.Periodic.{inside_up}

-- ---- the run below a level

module _ (l : ℕ) (e : Entry) (es : List Entry) where
  pub run_deeper : l < e.level → run_below l (e ∷ es) ≡ suc (run_below l es)
  unfolding run_below
  run_deeper h = rw (lt-ltb l e.level h)

  pub run_ends : e.level ≤ l → run_below l (e ∷ es) ≡ 0
  unfolding run_below
  run_ends h = rw (le-ltb l e.level h)

  numbers_deeper : (at : ℕ) → l < e.level → numbers_below l at (e ∷ es) ≡ with_number e.what at (numbers_below l (suc at) es)
  unfolding numbers_below
  numbers_deeper at h = rw (lt-ltb l e.level h)

  numbers_ends : (at : ℕ) → e.level ≤ l → numbers_below l at (e ∷ es) ≡ []
  unfolding numbers_below
  numbers_ends at h = rw (le-ltb l e.level h)

pub run_nil : (l : ℕ) → run_below l [] ≡ 0
unfolding run_below
run_nil l = refl

numbers_nil : (l at : ℕ) → numbers_below l at [] ≡ []
unfolding numbers_below
numbers_nil l at = refl

with_short : (w : What) (at n : ℕ) (ns : List ℕ) → length ns ≤ n → length (with_number w at ns) ≤ suc n
with_short (field f s m) at n ns h = omega arith
with_short (group p) at n ns h = omega arith

with_append : (w : What) (at : ℕ) (a b : List ℕ) → with_number w at (a ++ b) ≡ with_number w at a ++ b
with_append (field f s m) at a b = refl
with_append (group p) at a b = refl

pub run_short : (l : ℕ) (es : List Entry) → run_below l es ≤ length es
run_short l [] = rw run_nil (omega arith)
run_short l (e ∷ es) = by_order l e.level
    (λ h. rw (run_deeper l e es h) (omega (arith, run_short l es)))
    (λ h. rw (run_ends l e es h) (omega arith))

pub run_levels : (l : ℕ) (es : List Entry) (k : ℕ) → k < run_below l es → l < (get_or es k blank).level
run_levels l [] k h = absurd (omega (arith, run_nil l))
run_levels l (e ∷ es) zero h = by_order l e.level (λ d. d) (λ d. absurd (omega (arith, run_ends l e es d)))
run_levels l (e ∷ es) (suc k) h = by_order l e.level (λ d. run_levels l es k (omega (arith, run_deeper l e es d))) (λ d. absurd (omega (arith, run_ends l e es d)))

pub numbers_short : (l at : ℕ) (es : List Entry) → length (numbers_below l at es) ≤ run_below l es
numbers_short l at [] = rw (numbers_nil l at) (omega arith)
numbers_short l at (e ∷ es) = by_order l e.level
    (λ h. rw (run_deeper l e es h, numbers_deeper l e es at h) (with_short e.what at (run_below l es) (numbers_below l (suc at) es) (numbers_short l (suc at) es)))
    (λ h. rw (numbers_ends l e es at h) (omega arith))

-- the members of a deeper group by themselves, and then the rest
run_split : (l deep : ℕ) (es : List Entry) → l ≤ deep → run_below l es ≡ run_below deep es + run_below l (drop (run_below deep es) es)
run_split l deep [] k = rw (run_nil deep, run_nil l)
run_split l deep (e ∷ es) k = by_order deep e.level
    (λ h. rw (run_deeper deep e es h, run_deeper l e es (omega arith), suc-add) (ap suc (run_split l deep es k)))
    (λ h. rw (run_ends deep e es h) (omega arith))

numbers_split : (l deep at : ℕ) (es : List Entry) → l ≤ deep
    → numbers_below l at es ≡ numbers_below deep at es ++ numbers_below l (at + run_below deep es) (drop (run_below deep es) es)
numbers_split l deep at [] k = rw (run_nil deep, numbers_nil deep at, add-zero)
numbers_split l deep at (e ∷ es) k = by_order deep e.level
    (λ h.
    let s : at + suc (run_below deep es) ≡ suc at + run_below deep es = omega arith in
    rw (run_deeper deep e es h, numbers_deeper deep e es at h, numbers_deeper l e es at (omega arith), s)
    (ap (with_number e.what at) (numbers_split l deep (suc at) es k) ∙ with_append e.what at _ _))
    (λ h. rw (run_ends deep e es h, numbers_ends deep e es at h, add-zero))

-- ---- the same at entry i
module _ (es : List Entry) (l i : ℕ) where
  pub run_more : i < length es → l < (get_or es i blank).level → run_below l (drop i es) ≡ suc (run_below l (drop (i + 1) es))
  run_more h k = rw (rest_at es i h) (run_deeper l (get_or es i blank) (drop (i + 1) es) k)

  pub run_stop : i < length es → (get_or es i blank).level ≤ l → run_below l (drop i es) ≡ 0
  run_stop h k = rw (rest_at es i h) (run_ends l (get_or es i blank) (drop (i + 1) es) k)

  pub run_none : length es ≤ i → run_below l (drop i es) ≡ 0
  run_none h = rw (drop_of_length-le es h) (run_nil l)

  pub numbers_stop : i < length es → (get_or es i blank).level ≤ l → numbers_below l i (drop i es) ≡ []
  numbers_stop h k = rw (rest_at es i h) (numbers_ends l (get_or es i blank) (drop (i + 1) es) i k)

  pub numbers_none : length es ≤ i → numbers_below l i (drop i es) ≡ []
  numbers_none h = rw (drop_of_length-le es h) (numbers_nil l i)

  numbers_more : i < length es → l < (get_or es i blank).level
      → numbers_below l i (drop i es) ≡ with_number (get_or es i blank).what i (numbers_below l (i + 1) (drop (i + 1) es))
  numbers_more h k = rw (rest_at es i h, add-one) (numbers_deeper l (get_or es i blank) (drop (suc i) es) i k)

  pub numbers_field : i < length es → l < (get_or es i blank).level → is_group (get_or es i blank).what ≡ false
      → numbers_below l i (drop i es) ≡ i ∷ numbers_below l (i + 1) (drop (i + 1) es)
  numbers_field h k g = numbers_more h k ∙ with_field_number (get_or es i blank).what g i _
    where
      with_field_number : (w : What) → is_group w ≡ false → (at : ℕ) (ns : List ℕ) → with_number w at ns ≡ at ∷ ns
      with_field_number (field f s m) e at ns = refl
      with_field_number (group p) e at ns = absurd (true≢false e)

  pub numbers_group : i < length es → l < (get_or es i blank).level → is_group (get_or es i blank).what ≡ true
      → numbers_below l i (drop i es) ≡ numbers_below l (i + 1) (drop (i + 1) es)
  numbers_group h k g = numbers_more h k ∙ with_group_number (get_or es i blank).what g i _
    where
      with_group_number : (w : What) → is_group w ≡ true → (at : ℕ) (ns : List ℕ) → with_number w at ns ≡ ns
      with_group_number (group p) e at ns = refl
      with_group_number (field f s m) e at ns = absurd (false≢true e)

module _ (es : List Entry) (l deep i next : ℕ) (h : l ≤ deep) (e : next ≡ i + run_below deep (drop i es)) where
  pub run_then : run_below l (drop i es) ≡ run_below deep (drop i es) + run_below l (drop next es)
  run_then = rw (e, ← drop-drop (run_below deep (drop i es)) i es) (run_split l deep (drop i es) h)

  pub numbers_then : numbers_below l i (drop i es) ≡ numbers_below deep i (drop i es) ++ numbers_below l next (drop next es)
  numbers_then = rw (e, ← drop-drop (run_below deep (drop i es)) i es) (numbers_split l deep i (drop i es) h)

-- ---- the numbers, taken as entries, are the group's fields

below_parts : (l n k : ℕ) (w : What) (es : List Entry) → l < k
    → fields_below l (record { name = n; level = k; what = w } ∷ es) ≡ with_field n w (fields_below l es)
unfolding fields_below
below_parts l n k (field f s m) es h = rw (lt-ltb l k h, fields_below)
below_parts l n k (group p) es h = rw (lt-ltb l k h, fields_below)

pub below_deeper : (l : ℕ) (e : Entry) (es : List Entry) → l < e.level → fields_below l (e ∷ es) ≡ with_field e.name e.what (fields_below l es)
below_deeper l e es h = below_parts l e.name e.level e.what es h

pub below_ends : (l : ℕ) (e : Entry) (es : List Entry) → e.level ≤ l → fields_below l (e ∷ es) ≡ []
unfolding fields_below
below_ends l e es h = rw (le-ltb l e.level h, fields_below)

pub below_nil : (l : ℕ) → fields_below l [] ≡ []
unfolding fields_below
below_nil l = refl

map_with : (g : ℕ → Field) (n : ℕ) (w : What) (at : ℕ) (ns : List ℕ) → g at ≡ field_by n w → map g (with_number w at ns) ≡ with_field n w (map g ns)
unfolding field_by
map_with g n (field f s m) at ns e = ap (λ (x : Field). x ∷ map g ns) e
map_with g n (group p) at ns e = refl

empty_head : {C : Type 0} (x : Entry) (rest : List Entry) → ◌≡◌ {A = List Entry} [] (x ∷ rest) → C
empty_head x rest e = let z : ◌≡◌ {A = ℕ} 0 1 = cc in absurd (omega arith)

drop_head : (es : List Entry) (at : ℕ) (x : Entry) (rest : List Entry) → drop at es ≡ x ∷ rest → (get_or es at blank ≡ x) × (drop (suc at) es ≡ rest)
drop_head [] zero x rest e = empty_head x rest e
drop_head [] (suc at) x rest e = empty_head x rest e
drop_head (y ∷ es) zero x rest e = (cc, cc)
drop_head (y ∷ es) (suc at) x rest e = drop_head es at x rest e

field_is : (es : List Entry) (at : ℕ) (x : Entry) → get_or es at blank ≡ x → field_at es at ≡ field_by x.name x.what
unfolding field_at
field_is es at x e = ap (λ (y : Entry). field_by y.name y.what) e

numbers_mean : (es : List Entry) (l at : ℕ) (rest : List Entry) → drop at es ≡ rest → map (field_at es) (numbers_below l at rest) ≡ fields_below l rest
numbers_mean es l at [] e = rw (numbers_nil l at) (sym (below_nil l))
numbers_mean es l at (x ∷ rest) e = by_order l x.level
    (λ h.
    rw (numbers_deeper l x rest at h, below_deeper l x rest h)
    (map_with (field_at es) x.name x.what at (numbers_below l (suc at) rest) here ∙ ap (with_field x.name x.what) (numbers_mean es l (suc at) rest after)))
    (λ h. rw (numbers_ends l x rest at h, below_ends l x rest h))
  where
    here : field_at es at ≡ field_by x.name x.what
    here = field_is es at x (drop_head es at x rest e).0

    after : drop (suc at) es ≡ rest
    after = (drop_head es at x rest e).1

-- the numbers of a group's fields, taken as entries, are its fields
pub numbers_fields : (es : List Entry) (l at : ℕ) → map (field_at es) (numbers_below l at (drop at es)) ≡ fields_below l (drop at es)
numbers_fields es l at = numbers_mean es l at (drop at es) refl

-- ---- each number of a group's fields

-- entry m is a field among the entries from `at` on that are deeper than a level
pub record Member (es : List Entry) (l at m : ℕ) : Type 0 where
  pub from : at ≤ m
  pub below : m < at + run_below l (drop at es)
  pub field : is_group (get_or es m blank).what ≡ false

later : (es : List Entry) (l at m : ℕ) → at < length es → l < (get_or es at blank).level → Member es l (at + 1) m → Member es l at m
later es l at m h k x =
    let r = run_more es l at h k in
    record { from = omega (arith, x.from); below = omega (arith, x.below); field = x.field }

first_or : (es : List Entry) (l at : ℕ) (ns : List ℕ) (k : ℕ) → Member es l at at
    → ((j : ℕ) → j < length ns → Member es l at (get_or ns j 0)) → k < length (at ∷ ns) → Member es l at (get_or (at ∷ ns) k 0)
first_or es l at ns zero x r h = x
first_or es l at ns (suc k) x r h = r k (le_of_suc-le-suc h)

each_from : (es : List Entry) (l at left k : ℕ) → at + left ≡ length es → k < length (numbers_below l at (drop at es))
    → Member es l at (get_or (numbers_below l at (drop at es)) k 0)
each_from es l at zero k e h = absurd (not-suc-le-zero (rw (numbers_none es l at (omega arith)) at h))
each_from es l at (suc left) k e h = by_order l (get_or es at blank).level
    (λ deep. by_test (is_group (get_or es at blank).what)
    (λ g. subst (λ (ns : List ℕ). k < length ns → Member es l at (get_or ns k 0)) (sym (numbers_group es l at inside deep g))
    (λ q. later es l at _ inside deep (each_from es l (at + 1) left k (omega arith) q)) h)
    (λ g. subst (λ (ns : List ℕ). k < length ns → Member es l at (get_or ns k 0)) (sym (numbers_field es l at inside deep g))
    (λ q. first_or es l at (numbers_below l (at + 1) (drop (at + 1) es)) k (record { from = omega arith; below = omega (arith, run_more es l at inside deep); field = g })
    (λ j p. later es l at _ inside deep (each_from es l (at + 1) left j (omega arith) p)) q) h))
    (λ stop. absurd (not-suc-le-zero (rw (numbers_stop es l at inside stop) at h)))
  where
    inside : at < length es
    inside = omega arith

pub numbers_each : (es : List Entry) (l at k : ℕ) → at ≤ length es → k < length (numbers_below l at (drop at es))
    → Member es l at (get_or (numbers_below l at (drop at es)) k 0)
numbers_each es l at k h = each_from es l at (length es - at) k (omega arith)

-- ---- the walk to the number after a group's members
module _ (es : List Entry) (l i : ℕ) where
  pub end_start : l ≡ (get_or es i blank).level → i + 1 + run_below l (drop (i + 1) es) ≡ group_end es i
  unfolding group_end
  end_start e = rw (e, add-one)

  pub end_turn : i < length es → l < (get_or es i blank).level → i + 1 + run_below l (drop (i + 1) es) ≡ i + run_below l (drop i es)
  end_turn h k = omega (arith, run_more es l i h k)

  pub end_here : i < length es → (get_or es i blank).level ≤ l → i ≡ i + run_below l (drop i es)
  end_here h k = omega (arith, run_stop es l i h k)

  pub end_last : length es ≤ i → i ≡ i + run_below l (drop i es)
  end_last h = omega (arith, run_none es l i h)

-- ---- a group's members lie in a periodic group where the group does
module _ (es : List Entry) (sound : (k : ℕ) → k < length es → Sound (get_or es k blank).level (get_or es k blank).what) (i : ℕ) (low : 1 ≤ (get_or es i blank).level) where
  member_level : (k : ℕ) → k < run_below (get_or es i blank).level (drop (suc i) es) → 1 < (get_or es (suc i + k) blank).level
  member_level k h =
      let d = run_levels (get_or es i blank).level (drop (suc i) es) k h in
      let q = rw (get_or-drop (suc i) es k blank) at d in
      omega arith

  member_inside : (k : ℕ) → k ≤ run_below (get_or es i blank).level (drop (suc i) es) → inside_at es (i + k) ≡ inside_at es i
  member_inside zero h = rw add-zero
  member_inside (suc k) h =
      let n = run_short (get_or es i blank).level (drop (suc i) es) in
      let z : i + suc k ≡ suc (i + k) = omega arith in
      let d = member_level k h in
      let l : suc (i + k) < length es = omega (arith, length-drop (suc i) es) in
      rw z (inside_up es (i + k) (rw suc-add at d) (sound (suc (i + k)) l) ∙ member_inside k (omega arith))

  pub members_inside : (j : ℕ) → i ≤ j → j < group_end es i → inside_at es j ≡ inside_at es i
  unfolding group_end
  members_inside j p q =
      let z : i + (j - i) ≡ j = omega arith in
      let m = member_inside (j - i) (omega arith) in
      rw z at m

-- what a loop over a group's entries cites
pub ruleset run_steps = (end_start, end_turn, end_here, end_last)
