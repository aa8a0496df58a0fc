-- Chains gone over: what is left of a chain answers as the whole, and each number of a chain is that of a use of values that belongs to it.
use Rattle.std.specs.Prelude.{Option, None, Some}
use mathlib.Core.Path.{◌≡◌, refl, sym, ap, subst, ◌∙◌}
use mathlib.Core.Bool.{Bool, true, false, cond, ◌||◌, true≢false}
use mathlib.Core.List.{List, [], ◌∷◌}
use Prim.Native.Nat.{ℕ, zero, suc, ◌+◌, ◌-◌, ◌*◌, ◌≤◌, ◌<◌}
use native.Mathlib.Omega.{arith}
use lib.Dec.{eqb, ltb}
use lib.ListN.{length, get_or}
use Rattle.rules.specs.Limits.{most_entries}
use Rattle.rules.specs.Lists.{Bytes, filter, all, any, run}
use Rattle.rules.specs.Table.{Entry}
use Rattle.rules.specs.Update.{Assignment}
use Rattle.rules.proofs.Steps.{by_test, eqb_same}
use Rattle.rules.proofs.Bools.{and_both}
use Rattle.tables.specs.Entries.{blank, is_group}
use Rattle.uses.specs.Kept.{numbers_kept, span_at, use_at}
use Rattle.uses.specs.declared.Use.{Use}
use Rattle.uses.specs.declared.Use.TheVariants as code
use Rattle.uses.proofs.Numbers.{use_blanks, use_text, use_group_count, use_value_count, use_values}
use borrow.Author.Tests.{lt-ltb, le-ltb, eqb-true, ltb-true, ltb-false, eq-eqb}
use Rattle.assignments.specs.Notes.{note_bound, chains, field_chains, group_chain, note_place, highest_noted, next_noted, cell_chain, use_chain, use_names, names_cell, chained, Indexed}
use Rattle.assignments.specs.Answers.{OfEach, FoundIn, chain_at, chains_for, HasChains}
use Rattle.assignments.proofs.Cells.{none_above, in_chains}
use Rattle.assignments.proofs.PutBefore.{cell_low}
use Rattle.assignments.proofs.Chained.{chained_end, chained_more, belongs_to, all_filter, none_of, chained_alike, none_below}

-- How many turns may be left, where the use with one number less comes next.
unfoldable pub turns_left : ℕ → ℕ
turns_left zero = 0
turns_left (suc m) = note_bound - m

turns_fall : (n next : ℕ) → 0 < n → n ≤ note_bound → next ≤ note_bound → (0 < next → n < next) → turns_left next < turns_left n
unfolding turns_left
turns_fall zero next h k l f = absurd (omega arith)
turns_fall (suc m) zero h k l f = omega arith
turns_fall (suc m) (suc q) h k l f = let g = f (omega arith) in omega arith

-- A use that is in a chain is one of values, with the span that is kept.
module _ (kept : List ℕ) (n x : ℕ) (h : x < chains) (e : use_chain (use_at kept n) ≡ x) where
  out_of_chains : (u : Use) → u ≡ use_at kept n → use_chain u ≡ chains → ⊥
  out_of_chains u d k = let q : x ≡ chains = sym e ∙ ap use_chain (sym d) ∙ k in omega arith

  pub chained_use : use_at kept n ≡ code.Values (span_at kept (numbers_kept * n))
  unfolding use_chain
  chained_use =
      sym (use_values kept n
      (λ z. out_of_chains _ (use_blanks kept n z) refl)
      (λ z. out_of_chains _ (use_text kept n z) refl)
      (λ z. out_of_chains _ (use_group_count kept n z) refl)
      (λ z. out_of_chains _ (use_value_count kept n z) refl))

  pub chained_names : (i o : ℕ) → use_names (use_at kept n) i o ≡ names_cell (span_at kept (numbers_kept * n)) i o
  unfolding use_names
  chained_names i o = ap (λ (u : Use). use_names u i o) chained_use

-- A walk stands before the use with one number less than n. No more uses are left than it may take.
pub record Walk (kept list : List ℕ) (x count n : ℕ) : Type 0 where
  pub most : ℕ
  pub enough : 0 < n → count < most + n
  pub few : n ≤ count
  pub belong : all (belongs_to kept x) (chained list most n) ≡ true

-- The numbers that are left.
abbrev pub left : {kept list : List ℕ} {x count n : ℕ} → Walk kept list x count n → List ℕ
left {list = list} {n = n} w = chained list w.most n

-- The numbers of the use with one number less are within the lists.
abbrev pub Room : List ℕ → List ℕ → ℕ → Type 0
Room kept list n = (n ≤ note_bound) × (numbers_kept * n ≤ length kept) × (note_place n ≤ length list)

module _ {es : List Entry} {f : Bytes} {kept : List ℕ} {count : ℕ} {list : List ℕ} {stage : Bytes} {ws : List Assignment}
    (ix : Indexed es f kept count list stage ws) {x : ℕ} (c : x < chains) where
  pub walk_start : Walk kept list x count (get_or list x 0)
  walk_start = record {
    most = count;
    enough = λ h. omega arith;
    few = ix.chains.heads x c;
    belong = ap (all (belongs_to kept x)) (ix.chains.members x c) ∙ all_filter (belongs_to kept x) (run (λ n. n) 0 (count - 0));
  }

  pub left_start : left walk_start ≡ chained list count (get_or list x 0)
  unfolding walk_start
  left_start = refl

  module _ {n : ℕ} (w : Walk kept list x count n) where
    pub walk_room : Room kept list n
    walk_room = let l = ix.listed in (omega (arith, w.few, l.few), omega (arith, w.few, l.kept_room), omega (arith, w.few, l.room))

    pub left_none : n ≤ 0 → left w ≡ []
    left_none h = let e : n ≡ 0 = omega arith in ap (chained list w.most) e ∙ chained_end list w.most

    module _ (h : 0 < n) where
      nexts : (next_noted list (n - 1) ≤ count) × (0 < next_noted list (n - 1) → n < next_noted list (n - 1))
      nexts = let q = ix.chains.nexts (n - 1) (omega arith) (omega (arith, w.few)) in (q.0, λ j. let k = q.1 j in omega arith)

      pub chain_next : left w ≡ (n - 1) ∷ chained list (w.most - 1) (next_noted list (n - 1))
      chain_next = chained_more list w.most n h (omega (arith, w.enough h, w.few))

      both_belong : (belongs_to kept x (n - 1) ≡ true) × (all (belongs_to kept x) (chained list (w.most - 1) (next_noted list (n - 1))) ≡ true)
      unfolding all
      both_belong = and_both (belongs_to kept x (n - 1)) (all (belongs_to kept x) (chained list (w.most - 1) (next_noted list (n - 1))))
          (sym (ap (all (belongs_to kept x)) chain_next) ∙ w.belong)

      pub walk_next : Walk kept list x count (next_noted list (n - 1))
      walk_next = record {
        most = w.most - 1;
        enough = λ j. let e = w.enough h in let q = nexts.1 j in omega (arith, w.few);
        few = nexts.0;
        belong = both_belong.1;
      }

      pub left_next : left w ≡ (n - 1) ∷ left walk_next
      unfolding walk_next
      left_next = chain_next

      pub walk_falls : turns_left (next_noted list (n - 1)) < turns_left n
      walk_falls = let k = ix.listed.few in turns_fall n (next_noted list (n - 1)) h (omega (arith, w.few)) (omega (arith, nexts.0)) nexts.1

      walk_chain : use_chain (use_at kept (n - 1)) ≡ x
      walk_chain = eqb-true (use_chain (use_at kept (n - 1))) x both_belong.0

      pub walk_use : use_at kept (n - 1) ≡ code.Values (span_at kept (numbers_kept * (n - 1)))
      walk_use = chained_use kept (n - 1) x c walk_chain

      pub walk_names : (i o : ℕ) → use_names (use_at kept (n - 1)) i o ≡ names_cell (span_at kept (numbers_kept * (n - 1))) i o
      walk_names = chained_names kept (n - 1) x c walk_chain

-- A search stands before the use with one number less than n: what is left of the chain answers as the whole.
abbrev names_at : List ℕ → ℕ → ℕ → ℕ → Bool
names_at kept i o n = use_names (use_at kept n) i o

abbrev pub Seeking : List ℕ → List ℕ → ℕ → ℕ → ℕ → ℕ → Type 0
Seeking kept list x i o n = OfEach kept list (λ es f count stage ws. (w : Walk kept list x count n)
    × (any (names_at kept i o) (left w) ≡ any (names_at kept i o) (chained list count (get_or list x 0))))

abbrev pub Found : List ℕ → List ℕ → ℕ → ℕ → ℕ → Option ℕ → Type 0
Found kept list x i o r = OfEach kept list (λ es f count stage ws. FoundIn kept count (λ n. eqb (use_chain (use_at kept n)) x) i o r)

module _ (kept list : List ℕ) (x i o : ℕ) (c : x < chains) where
  pub seek_start : Seeking kept list x i o (get_or list x 0)
  seek_start es f count stage ws ix = (walk_start ix c, ap (any (names_at kept i o)) (left_start ix c))

  module _ (n : ℕ) (s : Seeking kept list x i o n) where
    pub seek_end : n ≤ 0 → Found kept list x i o None
    unfolding any
    seek_end h es f count stage ws ix m l t =
        let (w, e) = s es f count stage ws ix in
        let z : any (names_at kept i o) (filter (belongs_to kept x) (run (λ n. n) 0 (count - 0))) ≡ false =
        sym (e ∙ ap (any (names_at kept i o)) (ix.chains.members x c)) ∙ ap (any (names_at kept i o)) (left_none ix c w h) in
        none_of (names_at kept i o) (belongs_to kept x) 0 (count - 0) z m (omega arith) (omega arith) t

    module _ (h : 0 < n) where
      pub seek_found : names_cell (span_at kept (numbers_kept * (n - 1))) i o ≡ true → Found kept list x i o (Some (n - 1))
      seek_found t es f count stage ws ix = let w = (s es f count stage ws ix).0 in (omega (arith, w.few), walk_names ix c w h i o ∙ t)

      pub seek_on : names_cell (span_at kept (numbers_kept * (n - 1))) i o ≡ false → Seeking kept list x i o (next_noted list (n - 1))
      unfolding any
      seek_on t es f count stage ws ix =
          let (w, e) = s es f count stage ws ix in
          let k : names_at kept i o (n - 1) ≡ false = walk_names ix c w h i o ∙ t in
          (walk_next ix c w h, ap (λ b. b || any (names_at kept i o) (left (walk_next ix c w h))) (sym k) ∙ sym (ap (any (names_at kept i o)) (left_next ix c w h)) ∙ e)

-- Two that the same list may hold know the same uses of values.
known_both : {es es' : List Entry} {f f' : Bytes} {kept : List ℕ} {count count' : ℕ} {list : List ℕ} {stage stage' : Bytes} {ws ws' : List Assignment}
    → Indexed es f kept count list stage ws → Indexed es' f' kept count' list stage' ws' → (n : ℕ) → n < count → use_chain (use_at kept n) < chains → n < count'
known_both {kept = kept} {count = count} {count' = count'} {list = list} ix ix' n h c = by_test (ltb n count') (λ e. ltb-true n count' e) (λ e.
    let x : ℕ = use_chain (use_at kept n) in
    let k : count' ≤ n = ltb-false n count' e in
    let same : chained list count (get_or list x 0) ≡ chained list count' (get_or list x 0) =
    chained_alike list count' (λ m l. ix'.chains.nexts m (omega arith) l) count count' (get_or list x 0) (ix'.chains.heads x c) (λ l. omega arith) (λ l. omega arith) in
    let z : any (eqb n) (filter (belongs_to kept x) (run (λ m. m) 0 (count - 0))) ≡ false =
    ap (any (eqb n)) (sym (ix.chains.members x c) ∙ same ∙ ix'.chains.members x c) ∙ none_below (belongs_to kept x) 0 (count' - 0) n (omega arith) in
    absurd (true≢false (sym (eqb_same n) ∙ none_of (eqb n) (belongs_to kept x) 0 (count - 0) z n (omega arith) (omega arith) (eqb_same x))))

pub chain_small : (x i o : ℕ) → i < most_entries → chain_at x i o < chains
unfolding chain_at
chain_small x i o h = by_test (eqb x 0)
    (λ e. rw e (omega (arith, cell_low i o)))
    (λ e. by_test (eqb x 1) (λ e₂. rw (e, e₂) (omega arith)) (λ e₂. rw (e, e₂) (omega arith)))

-- They are found by the highest occurrence that is noted.
module _ (list : List ℕ) (i o : ℕ) where
  pub no_chains : highest_noted list i < o → HasChains list i o None
  unfolding chains_for
  no_chains h = rw (lt-ltb (highest_noted list i) o h)

  pub three_chains : o ≤ highest_noted list i → i < most_entries → (c : ℕ) → c ≡ cell_chain i o → HasChains list i o (Some (c ∷ (field_chains + i) ∷ group_chain ∷ []))
  unfolding chains_for chain_at
  three_chains h k c e = (rw (le-ltb (highest_noted list i) o h), each)
    where
      each : (x : ℕ) → x < 3 → (get_or (c ∷ (field_chains + i) ∷ group_chain ∷ []) x 0 ≡ chain_at x i o) × (get_or (c ∷ (field_chains + i) ∷ group_chain ∷ []) x 0 < chains)
      each zero l = (e, omega (arith, cell_low i o))
      each (suc zero) l = (refl, omega arith)
      each (suc (suc zero)) l = (refl, omega arith)
      each (suc (suc (suc x))) l = absurd (omega arith)

-- The chains of a cell are searched one after the other.
abbrev pub Searched : List ℕ → List ℕ → ℕ → ℕ → ℕ → Type 0
Searched kept list i o x = OfEach kept list (λ es f count stage ws. (y : ℕ) → y < x → (n : ℕ) → n < count → belongs_to kept (chain_at y i o) n ≡ true → names_at kept i o n ≡ false)

abbrev pub FoundAny : List ℕ → List ℕ → ℕ → ℕ → Option ℕ → Type 0
FoundAny kept list i o r = OfEach kept list (λ es f count stage ws. FoundIn kept count (λ n. true) i o r)

module _ (kept list : List ℕ) (i o : ℕ) where
  pub searched_start : Searched kept list i o 0
  searched_start es f count stage ws ix y h = absurd (omega arith)

  pub searched_on : (x z : ℕ) → z ≡ chain_at x i o → Found kept list z i o None → Searched kept list i o x → Searched kept list i o (x + 1)
  searched_on x z e d s es f count stage ws ix y k n l t =
      by_test (ltb y x)
      (λ j. s es f count stage ws ix y (ltb-true y x j) n l t)
      (λ j.
      let m = ltb-false y x j in
      let q : y ≡ x = omega arith in
      d es f count stage ws ix n l (ap (λ v. belongs_to kept v n) (e ∙ ap (λ v. chain_at v i o) (sym q)) ∙ t))

  pub searched_end : {es : List Entry} {f : Bytes} {count : ℕ} {stage : Bytes} {ws : List Assignment} → Indexed es f kept count list stage ws → i < length es
      → is_group (get_or es i blank).what ≡ false → (x : ℕ) → chains_for list i o ≤ x → Searched kept list i o x → FoundAny kept list i o None
  unfolding chains_for
  searched_end ix h g x k s es' f' count' stage' ws' ix' n l t = by_test (names_at kept i o n)
      (λ e.
      let w = in_chains ix' i o n l e in
      let most = ix.listed.entries in
      by_test (ltb (highest_noted list i) o)
      (λ j.
      let small = chain_small w.0 i o (omega arith) in
      none_above ix i o h g (ltb-true (highest_noted list i) o j) n (known_both ix' ix n l (omega (arith, w.2))))
      (λ j.
      let three : 3 ≤ x = subst (λ (b : Bool). cond b 0 3 ≤ x) j k in
      s es' f' count' stage' ws' ix' w.0 (omega (arith, w.1)) n l (eq-eqb (use_chain (use_at kept n)) (chain_at w.0 i o) w.2)))
      (λ e. e)
