-- What the uses say of one field in one occurrence, said of the assignments that they give: nothing is assigned where no use names the cell; and
-- what the uses of its chains were tallied to is what is named of it.
use mathlib.Core.Path.{◌≡◌, refl, sym, ap, ◌∙◌}
use mathlib.Core.Bool.{Bool, true, false, cond, ◌&&◌}
use mathlib.Core.List.{List, [], ◌∷◌, ◌++◌, map}
use mathlib.Core.Option.{none}
use Prim.Native.Nat.{ℕ, zero, suc, ◌-◌, ◌<◌, max}
use native.Mathlib.Omega.{arith}
use borrow.Author.Tests.{eqb-true, eqb-false, ltb-true}
use lib.Dec.{eqb, ltb}
use lib.ListN.{length, get_or}
use Rattle.rules.specs.Limits.{highest_index}
use Rattle.rules.specs.Outcome.{done}
use Rattle.rules.specs.Lists.{Bytes, all, any, filter, join, maximum, run}
use Rattle.rules.specs.Table.{Entry}
use Rattle.rules.specs.Use.{Place, items_of, items}
use Rattle.rules.specs.Update.{Assignment, assignments, same_place, assigned, to_field, bare_only, highest_value}
use Rattle.rules.proofs.Steps.{by_test}
use Rattle.rules.proofs.Named.{values_named, value_and_bare, assigned_named}
use Rattle.rules.proofs.Runs.{run_agree}
use Rattle.rules.proofs.Ranges.{assignments_taking}
use Rattle.tables.specs.Entries.{blank, is_group}
use Rattle.tables.proofs.EntryFields.{name_at}
use Rattle.uses.specs.Kept.{use_at, uses_kept}
use Rattle.uses.specs.Meant.{use_meant}
use Rattle.assignments.specs.Notes.{chains, cell_chain, chained, highest_noted, use_names, use_chain, use_reach, place_at, TakesAt, Indexed}
use Rattle.assignments.specs.Answers.{chain_at, chains_for, highest_by, bare_by, value_by, NotedBy, CanName, Tally, Names}
use Rattle.assignments.specs.declared.Naming.{Naming}
use Rattle.assignments.proofs.Giving.{places_once, takes_there}
use Rattle.assignments.proofs.Heights.{join_none, greatest, greatest_none, greatest_more, greatest_append, greatest_map, greatest_join, greatest_three, filter_in, filter_out, unmet, met, all_greatest, any_greatest, maximum_zero, maximum_above, maximum_within}
use Rattle.assignments.proofs.SpanNames.{named_run}
use Rattle.assignments.proofs.UseNames.{cell_by, use_there, use_highest, use_bare, use_value, use_reached, use_some, use_most, use_in}
use Rattle.assignments.proofs.Splitting.{items_run}
use Rattle.assignments.proofs.CellParts.{nothing_mapped}

-- What is given to entry i in occurrence o, with whether it is bare: what the uses give to it, one after the other.
cell_given : {es : List Entry} {f : Bytes} {kept : List ℕ} {count : ℕ} {list : List ℕ} {stage : Bytes} {ws : List Assignment}
    → Indexed es f kept count list stage ws → (i o : ℕ)
    → map value_and_bare (to_field ws (get_or es i blank).name o) ≡ join (run (λ m. cell_by es f i o (use_at kept m)) 0 count)
unfolding uses_kept
cell_given {es} {f} {kept} {count} {ws = ws} x i o =
    let us = items (uses_kept es f kept count) in
    let n = (get_or es i blank).name in
    let all : assignments us x.listed.buffer ≡ done ws = assignments_taking us x.listed.buffer ∙ rw x.listed.given in
    assigned_named n o us x.listed.buffer ws all
    ∙ ap (values_named n o) (items_run (λ m. use_meant es f (use_at kept m)) 0 count)
    ∙ named_run n o (λ m. items_of (use_meant es f (use_at kept m))) 0 count

assigned_there : (a : Assignment) (ws : List Assignment) (q : Place) → same_place a.place q ≡ false → assigned (a ∷ ws) q ≡ assigned ws q
unfolding assigned
assigned_there a ws q e = rw (e, assigned)

-- Nothing is assigned to a value that none of what is given to its field in its occurrence has.
unassigned : (ws : List Assignment) (q : Place) → greatest (λ a. met (eqb a.place.value q.value)) (to_field ws q.field.name q.occurrence) ≡ 0 → assigned ws q ≡ none
unfolding assigned to_field filter same_place
unassigned [] q e = refl
unassigned (a ∷ ws) q e =
    let test : Assignment → Bool = λ b. eqb b.place.field.name q.field.name && eqb b.place.occurrence q.occurrence in
    let this : Assignment → ℕ = λ b. met (eqb b.place.value q.value) in
    by_test (test a)
    (λ t.
    let z : max (this a) (greatest this (filter test ws)) ≡ 0 = sym (greatest_more this a (filter test ws)) ∙ ap (greatest this) (sym (filter_in test a ws t)) ∙ e in
    let r = unassigned ws q (omega arith) in
    by_test (eqb a.place.value q.value)
    (λ v. let y : this a ≡ 1 = rw v in absurd (omega arith))
    (λ v. assigned_there a ws q (rw (t, v)) ∙ r))
    (λ t. assigned_there a ws q (rw t) ∙ unassigned ws q (ap (greatest this) (sym (filter_out test a ws t)) ∙ e))

-- Where no use names entry i, a field, in occurrence o, nothing is assigned to it there.
pub none_given : {es : List Entry} {f : Bytes} {kept : List ℕ} {count : ℕ} {list : List ℕ} {stage : Bytes} {ws : List Assignment}
    → Indexed es f kept count list stage ws → (i o : ℕ) → i < length es → is_group (get_or es i blank).what ≡ false
    → ((n : ℕ) → n < count → use_names (use_at kept n) i o ≡ false) → to_field ws (get_or es i blank).name o ≡ []
none_given {es} {f} {kept} {count} x i o h g e =
    nothing_mapped _ _ (cell_given x i o
    ∙ join_none _ 0 count (λ m a b. use_there es f x.apart i o h g (use_at kept m) (x.listed.uses m (omega arith)) (e m (omega arith))))

pub none_assigned : {es : List Entry} {f : Bytes} {kept : List ℕ} {count : ℕ} {list : List ℕ} {stage : Bytes} {ws : List Assignment}
    → Indexed es f kept count list stage ws → (i o k : ℕ) → i < length es → is_group (get_or es i blank).what ≡ false
    → ((n : ℕ) → n < count → use_names (use_at kept n) i o ≡ false) → assigned ws (place_at es i o k) ≡ none
none_assigned {es} {ws = ws} x i o k h g e =
    unassigned ws (place_at es i o k)
    (ap (λ n. greatest (λ a. met (eqb a.place.value k)) (to_field ws n o)) (name_at es i)
    ∙ ap (greatest (λ a. met (eqb a.place.value k))) (none_given x i o h g e) ∙ greatest_none _)

-- No use names an occurrence above the highest one that is noted of its entry.
pub none_above : {es : List Entry} {f : Bytes} {kept : List ℕ} {count : ℕ} {list : List ℕ} {stage : Bytes} {ws : List Assignment}
    → Indexed es f kept count list stage ws → (i o : ℕ) → i < length es → is_group (get_or es i blank).what ≡ false → highest_noted list i < o
    → (n : ℕ) → n < count → use_names (use_at kept n) i o ≡ false
none_above {es} {f} {kept} {count} x i o h g l n k =
    by_test (use_names (use_at kept n) i o)
    (λ t.
    let a = use_reached (use_at kept n) i o t in
    let b = maximum_above (λ m. use_reach (use_at kept m) i) 0 (count - 0) n (omega arith) (omega arith) in
    absurd (omega (arith, x.chains.highest i h g)))
    (λ t. t)

-- A use that names a cell is in one of its three chains.
pub in_chains : {es : List Entry} {f : Bytes} {kept : List ℕ} {count : ℕ} {list : List ℕ} {stage : Bytes} {ws : List Assignment}
    → Indexed es f kept count list stage ws → (i o n : ℕ) → n < count → use_names (use_at kept n) i o ≡ true
    → (x : ℕ) × (x < 3) × (use_chain (use_at kept n) ≡ chain_at x i o)
in_chains {es} {f} {kept} x i o n h e = use_in es f (use_at kept n) (x.listed.uses n h) i o e

one_of_three : {C : Type 0} (c i o x : ℕ) → x < 3 → c ≡ chain_at x i o → (c ≡ chain_at 0 i o → ⊥) → (c ≡ chain_at 1 i o → ⊥) → (c ≡ chain_at 2 i o → ⊥) → C
one_of_three n i o zero l e a b c = absurd (a e)
one_of_three n i o (suc zero) l e a b c = absurd (b e)
one_of_three n i o (suc (suc zero)) l e a b c = absurd (c e)
one_of_three n i o (suc (suc (suc m))) l e a b c = absurd (omega arith)

-- The numbers of the uses in the first m of the chains of a cell.
unfoldable pub gone_over : List ℕ → ℕ → ℕ → ℕ → ℕ → List ℕ
gone_over list count i o zero = []
gone_over list count i o (suc m) = gone_over list count i o m ++ chained list count (get_or list (chain_at m i o) 0)

module _ {es : List Entry} {f : Bytes} {kept : List ℕ} {count : ℕ} {list : List ℕ} {stage : Bytes} {ws : List Assignment} (x : Indexed es f kept count list stage ws)
    (i o : ℕ) (h : i < length es) (g : is_group (get_or es i blank).what ≡ false) where
  chain_known : (m : ℕ) → chain_at m i o < chains
  unfolding chain_at cell_chain
  chain_known m =
      by_test (eqb m 0)
      (λ t. rw t (omega arith))
      (λ t. rw t (by_test (eqb m 1) (λ s. rw s (omega (arith, x.listed.entries))) (λ s. rw s (omega arith))))

  -- The greatest over the chains of a cell is that over all uses, where a use that does not name the cell counts 0.
  over_three : (p : ℕ → ℕ) → ((n : ℕ) → n < count → use_names (use_at kept n) i o ≡ false → p n ≡ 0)
      → greatest p (gone_over list count i o 3) ≡ maximum (run p 0 count)
  unfolding gone_over
  over_three p z =
      let of : ℕ → List ℕ = λ m. chained list count (get_or list (chain_at m i o) 0) in
      let in_one : ℕ → ℕ → Bool = λ m n. eqb (use_chain (use_at kept n)) (chain_at m i o) in
      let all : count - 0 ≡ count = omega arith in
      let is : (m : ℕ) → of m ≡ filter (in_one m) (run (λ n. n) 0 count) = λ m. x.chains.members (chain_at m i o) (chain_known m) ∙ rw all in
      let a : greatest p (gone_over list count i o 3) ≡ max (max (greatest p (of 0)) (greatest p (of 1))) (greatest p (of 2)) =
      greatest_append p (of 0 ++ of 1) (of 2) ∙ ap (λ n. max n (greatest p (of 2))) (greatest_append p (of 0) (of 1)) in
      a ∙ rw (is 0, is 1, is 2) (greatest_three p (in_one 0) (in_one 1) (in_one 2) 0 count (λ n l u a b c. z n (omega arith) (unnamed n (omega arith) a b c)))
    where
      unnamed : (n : ℕ) → n < count → eqb (use_chain (use_at kept n)) (chain_at 0 i o) ≡ false → eqb (use_chain (use_at kept n)) (chain_at 1 i o) ≡ false
          → eqb (use_chain (use_at kept n)) (chain_at 2 i o) ≡ false → use_names (use_at kept n) i o ≡ false
      unnamed n k a b c =
          by_test (use_names (use_at kept n) i o)
          (λ t. let (y, l, e) = in_chains x i o n k t in one_of_three (use_chain (use_at kept n)) i o y l e (eqb-false _ _ a) (eqb-false _ _ b) (eqb-false _ _ c))
          (λ t. t)

  over_chains : (p : ℕ → ℕ) → ((n : ℕ) → n < count → use_names (use_at kept n) i o ≡ false → p n ≡ 0)
      → greatest p (gone_over list count i o (chains_for list i o)) ≡ maximum (run p 0 count)
  unfolding gone_over chains_for
  over_chains p z =
      by_test (ltb (highest_noted list i) o)
      (λ t. rw t (greatest_none p ∙ sym (maximum_zero p 0 count (λ n a b. z n (omega arith) (none_above x i o h g (ltb-true (highest_noted list i) o t) n (omega arith))))))
      (λ t. rw t (over_three p z))

  -- So the greatest of what is given to the cell is that over its chains, by what a use gives.
  module _ (q : ℕ × Bool → ℕ) (p : ℕ → ℕ) (e : (n : ℕ) → n < count → greatest q (cell_by es f i o (use_at kept n)) ≡ p n) where
    over_uses : greatest p (gone_over list count i o (chains_for list i o)) ≡ maximum (run p 0 count)
    over_uses = over_chains p (λ n k u. sym (e n k) ∙ ap (greatest q) (use_there es f x.apart i o h g (use_at kept n) (x.listed.uses n k) u) ∙ greatest_none q)

    cell_over : greatest (λ a. q (value_and_bare a)) (to_field ws (get_or es i blank).name o) ≡ greatest p (gone_over list count i o (chains_for list i o))
    cell_over =
        sym (greatest_map q value_and_bare (to_field ws (get_or es i blank).name o))
        ∙ ap (greatest q) (cell_given x i o)
        ∙ greatest_join q (λ m. cell_by es f i o (use_at kept m)) 0 count
        ∙ ap maximum (run_agree (λ m. greatest q (cell_by es f i o (use_at kept m))) p 0 count (λ n a b. e n (omega arith)))
        ∙ sym over_uses

  -- The highest value that is given, whether all is bare, and whether a value is given.
  abbrev all_uses : List ℕ
  all_uses = gone_over list count i o (chains_for list i o)

  given_highest : greatest (λ a. a.place.value) (to_field ws (get_or es i blank).name o) ≡ greatest (λ n. highest_by (use_at kept n) i o) all_uses
  given_highest = cell_over (λ c. c.0) (λ n. highest_by (use_at kept n) i o) (λ n k. use_highest es f x.apart i o h g (use_at kept n) (x.listed.uses n k))

  uses_highest : greatest (λ n. highest_by (use_at kept n) i o) all_uses ≡ maximum (run (λ n. highest_by (use_at kept n) i o) 0 count)
  uses_highest = over_uses (λ c. c.0) (λ n. highest_by (use_at kept n) i o) (λ n k. use_highest es f x.apart i o h g (use_at kept n) (x.listed.uses n k))

  given_bare : all (λ a. a.bare) (to_field ws (get_or es i blank).name o) ≡ all (λ n. bare_by (use_at kept n) i o) all_uses
  given_bare =
      all_greatest (λ a. a.bare) (to_field ws (get_or es i blank).name o)
      ∙ ap (λ n. eqb n 0) (cell_over (λ c. unmet c.1) (λ n. unmet (bare_by (use_at kept n) i o)) (λ n k. use_bare es f x.apart i o h g (use_at kept n) (x.listed.uses n k)))
      ∙ sym (all_greatest (λ n. bare_by (use_at kept n) i o) all_uses)

  given_value : (v : ℕ) → any (λ n. value_by (use_at kept n) i o v) all_uses ≡ false → greatest (λ a. met (eqb a.place.value v)) (to_field ws (get_or es i blank).name o) ≡ 0
  given_value v e =
      cell_over (λ c. met (eqb c.0 v)) (λ n. met (value_by (use_at kept n) i o v)) (λ n k. use_value es f x.apart i o h g v (use_at kept n) (x.listed.uses n k))
      ∙ any_greatest (λ n. value_by (use_at kept n) i o v) all_uses e

  -- Something is given where a use names the cell, and there alone.
  pub given_some : (n : ℕ) → n < count → use_names (use_at kept n) i o ≡ true → to_field ws (get_or es i blank).name o ≡ [] → ⊥
  given_some n k t e =
      let z : greatest (λ a. a.place.value) (to_field ws (get_or es i blank).name o) ≡ 0 = ap (greatest _) e ∙ greatest_none _ in
      let a = use_some es f (use_at kept n) (x.listed.uses n k) i o t in
      let b = maximum_above (λ n. highest_by (use_at kept n) i o) 0 count n (omega arith) (omega arith) in
      omega (arith, given_highest, uses_highest)

  given_nothing : greatest (λ n. highest_by (use_at kept n) i o) all_uses ≡ 0 → to_field ws (get_or es i blank).name o ≡ []
  given_nothing z =
      none_given x i o h g (λ n k. by_test (use_names (use_at kept n) i o)
      (λ t.
      let a = use_some es f (use_at kept n) (x.listed.uses n k) i o t in
      let b = maximum_above (λ n. highest_by (use_at kept n) i o) 0 count n (omega arith) (omega arith) in
      absurd (omega (arith, uses_highest)))
      (λ t. t))

  takes : (k v : ℕ) → NotedBy kept es ws i o all_uses k v → TakesAt ws (place_at es i o k) v
  takes k zero e =
      unassigned ws (place_at es i o k) (ap (λ n. greatest (λ a. met (eqb a.place.value k)) (to_field ws n o)) (name_at es i) ∙ given_value k e)
  takes k (suc p) s = takes_there (places_once x) s.1 s.2

as_greatest : {A : Type 0} (p : A → ℕ) (xs : List A) → maximum (map p xs) ≡ greatest p xs
unfolding greatest
as_greatest p xs = refl

as_highest : (ws : List Assignment) (n o : ℕ) → greatest (λ a. a.place.value) (to_field ws n o) ≡ highest_value ws n o
unfolding greatest highest_value
as_highest ws n o = refl

nothing_bare : bare_only [] ≡ false
unfolding bare_only
nothing_bare = refl

some_bare : (ws : List Assignment) → (greatest (λ a. a.place.value) ws ≡ 0 → ⊥) → bare_only ws ≡ all (λ a. a.bare) ws
unfolding bare_only all
some_bare [] h = absurd (h (greatest_none _))
some_bare (a ∷ ws) h = refl

-- What these were tallied to is what is named of the cell.
pub tally_names : {es : List Entry} {f : Bytes} {kept : List ℕ} {count : ℕ} {list : List ℕ} {stage : Bytes} {ws : List Assignment} {i o size : ℕ}
    → CanName es f kept count list stage ws i size → (by : List ℕ) (r r' : Naming) → Tally kept es ws i o (gone_over list count i o (chains_for list i o)) by r
    → r'.highest ≡ r.highest → r'.bare ≡ cond (eqb r.highest 0) false r.bare → Names es ws i o by r'
tally_names {es} {f} {kept} {count} {list} {stage} {ws} {i} {o} c by r r' t e e' =
    let x = c.indexed in
    let n = (get_or es i blank).name in
    let u : r.highest ≡ greatest (λ n. highest_by (use_at kept n) i o) (gone_over list count i o (chains_for list i o)) = t.highest ∙ as_greatest _ _ in
    let v = given_highest x i o c.entry c.field in
    record {
      highest = e ∙ u ∙ sym v ∙ as_highest ws n o;
      most =
          let m = maximum_within (λ n. highest_by (use_at kept n) i o) highest_index 0 count (λ n a b. use_most es f (use_at kept n) (x.listed.uses n (omega arith)) i o) in
          omega (arith, uses_highest x i o c.entry c.field);
      bare =
          e' ∙ by_test (eqb r.highest 0)
          (λ q. rw q (sym (ap bare_only (given_nothing x i o c.entry c.field (sym u ∙ eqb-true r.highest 0 q)) ∙ nothing_bare)))
          (λ q. rw q (t.bare ∙ sym (given_bare x i o c.entry c.field) ∙ sym (some_bare (to_field ws n o) (λ z. eqb-false r.highest 0 q (u ∙ sym v ∙ z)))));
      each = λ k l. takes x i o c.entry c.field k (get_or by k 0) (t.noted k l);
    }
