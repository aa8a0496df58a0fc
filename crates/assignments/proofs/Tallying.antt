-- What uses name of one field in one occurrence, use by use: those that were gone over, with what is left of a chain, are the whole.
use mathlib.Core.Path.{◌≡◌, refl, sym, ap, subst, ◌∙◌}
use mathlib.Core.Bool.{Bool, true, false, cond, not, ◌&&◌, and-true, and-false}
use mathlib.Core.Logic.{inr}
use mathlib.Core.List.{List, [], ◌∷◌, ◌++◌, map, append_assoc, append-nil}
use Prim.Native.Nat.{ℕ, zero, suc, ◌+◌, ◌-◌, ◌*◌, ◌≤◌, ◌<◌, max}
use native.Mathlib.Omega.{arith}
use native.Mathlib.Numerals.{add-one}
use lib.Dec.{eqb, leb, ltb}
use lib.ListN.{length, get_or}
use Rattle.rules.specs.Limits.{highest_index}
use Rattle.rules.specs.Lists.{Bytes, all, any, maximum}
use Rattle.rules.specs.Table.{Entry}
use Rattle.rules.specs.Update.{Assignment}
use Rattle.rules.proofs.Steps.{by_test}
use Rattle.rules.proofs.Places.{any_append}
use Rattle.uses.specs.Kept.{numbers_kept, span_at, use_at}
use Rattle.uses.specs.declared.Span.{Span}
use Rattle.uses.specs.declared.Use.{Use}
use Rattle.uses.specs.declared.Use.TheVariants as code
use borrow.Author.Tests.{ltb-true, ltb-false, lt-leb, ne_eqb}
use Rattle.assignments.specs.Notes.{chains, next_noted, names_cell, chained}
use Rattle.assignments.specs.Answers.{NamedBy, Block, BeginsAt, NotedAt, CanFill, Filled, highest_by, bare_by, value_by, NotedBy, Tally, CanName, Tallies, NamesAll, chain_at, chains_for}
use Rattle.assignments.specs.declared.Naming.{Naming}
use Rattle.assignments.proofs.Searching.{Walk, left, walk_start, walk_next, walk_use, walk_names, left_start, left_none, left_next}
use Rattle.assignments.proofs.CellSpans.{cell_span}
use Rattle.assignments.proofs.Cells.{gone_over, tally_names}

maximum_last : (g : ℕ → ℕ) (ns : List ℕ) (n : ℕ) → maximum (map g (ns ++ (n ∷ []))) ≡ max (maximum (map g ns)) (g n)
unfolding maximum
maximum_last g [] n = omega arith
maximum_last g (m ∷ ns) n = omega (arith, maximum_last g ns n)

all_last : (g : ℕ → Bool) (ns : List ℕ) (n : ℕ) → all g (ns ++ (n ∷ [])) ≡ (all g ns && g n)
unfolding all
all_last g [] n = and-true (g n)
all_last g (m ∷ ns) n = ap (λ b. g m && b) (all_last g ns n) ∙ and_grouped (g m) (all g ns) (g n)
  where
    and_grouped : (a b c : Bool) → (a && (b && c)) ≡ ((a && b) && c)
    and_grouped true b c = refl
    and_grouped false b c = refl

any_last : (g : ℕ → Bool) (ns : List ℕ) (n : ℕ) → any g ns ≡ false → g n ≡ false → any g (ns ++ (n ∷ [])) ≡ false
unfolding any
any_last g ns n e h = any_append g ns (n ∷ []) ∙ rw (e, h)

-- A note of a value, by one use more.
noted_there : (kept : List ℕ) (es : List Entry) (ws : List Assignment) (i o : ℕ) (ns : List ℕ) (k v : ℕ) → NotedAt es ws i o k v → NotedBy kept es ws i o ns k v
noted_there kept es ws i o ns k zero h = absurd h
noted_there kept es ws i o ns k (suc p) h = h

noted_still : (kept : List ℕ) (es : List Entry) (ws : List Assignment) (i o : ℕ) (ns : List ℕ) (n k v : ℕ) → value_by (use_at kept n) i o k ≡ false
    → NotedBy kept es ws i o ns k v → NotedBy kept es ws i o (ns ++ (n ∷ [])) k v
noted_still kept es ws i o ns n k zero e h = any_last (λ m. value_by (use_at kept m) i o k) ns n h e
noted_still kept es ws i o ns n k (suc p) e h = h

-- What a use says by its span.
module _ (s : Span) (i o : ℕ) where
  module _ (e : names_cell s i o ≡ false) where
    highest_out : highest_by (code.Values s) i o ≡ 0
    unfolding highest_by
    highest_out = rw e

    bare_out : bare_by (code.Values s) i o ≡ true
    unfolding bare_by
    bare_out = rw e

    value_out : (k : ℕ) → value_by (code.Values s) i o k ≡ false
    unfolding value_by
    value_out k = rw e

  module _ (e : names_cell s i o ≡ true) where
    highest_in : highest_by (code.Values s) i o ≡ s.value_upto
    unfolding highest_by
    highest_in = rw e

    bare_in : bare_by (code.Values s) i o ≡ s.bare
    unfolding bare_by
    bare_in = rw e

    value_below : (k : ℕ) → k < s.value_from → value_by (code.Values s) i o k ≡ false
    unfolding value_by
    value_below k h = rw (e, lt-leb s.value_from k h)

    value_above : (k : ℕ) → s.value_upto < k → value_by (code.Values s) i o k ≡ false
    unfolding value_by
    value_above k h = rw (e, lt-leb k s.value_upto h) (and-false (leb s.value_from k))

-- One use more, which names the cell or does not.
module _ {kept : List ℕ} {es : List Entry} {ws : List Assignment} {i o : ℕ} {ns by : List ℕ} {r : Naming} (t : Tally kept es ws i o ns by r)
    (n : ℕ) {s : Span} (u : use_at kept n ≡ code.Values s) where
  tally_out : names_cell s i o ≡ false → Tally kept es ws i o (ns ++ (n ∷ [])) by r
  tally_out e = record {
    highest = t.highest ∙ sym (maximum_last (λ m. highest_by (use_at kept m) i o) ns n ∙ none);
    bare = t.bare ∙ sym (all_last (λ m. bare_by (use_at kept m) i o) ns n
        ∙ ap (λ b. all (λ m. bare_by (use_at kept m) i o) ns && b) (ap (λ (v : Use). bare_by v i o) u ∙ bare_out s i o e)
        ∙ and-true (all (λ m. bare_by (use_at kept m) i o) ns));
    long = t.long;
    noted = λ k h. noted_still kept es ws i o ns n k (get_or by k 0) (ap (λ (v : Use). value_by v i o k) u ∙ value_out s i o e k) (t.noted k h);
  }
    where
      none : max (maximum (map (λ m. highest_by (use_at kept m) i o) ns)) (highest_by (use_at kept n) i o) ≡ maximum (map (λ m. highest_by (use_at kept m) i o) ns)
      none = let z : highest_by (use_at kept n) i o ≡ 0 = ap (λ (v : Use). highest_by v i o) u ∙ highest_out s i o e in omega arith

  tally_in : names_cell s i o ≡ true → (by' : List ℕ) (r' : Naming) → Filled es ws i o s by by' → r'.highest ≡ max r.highest s.value_upto
      → r'.bare ≡ (r.bare && s.bare) → Tally kept es ws i o (ns ++ (n ∷ [])) by' r'
  tally_in e by' r' f g b = record {
    highest = g ∙ sym (maximum_last (λ m. highest_by (use_at kept m) i o) ns n
        ∙ ap (λ (v : ℕ). max (maximum (map (λ m. highest_by (use_at kept m) i o) ns)) v) (ap (λ (v : Use). highest_by v i o) u ∙ highest_in s i o e)
        ∙ ap (λ (v : ℕ). max v s.value_upto) (sym t.highest));
    bare = b ∙ sym (all_last (λ m. bare_by (use_at kept m) i o) ns n
        ∙ ap (λ v. all (λ m. bare_by (use_at kept m) i o) ns && v) (ap (λ (v : Use). bare_by v i o) u ∙ bare_in s i o e)
        ∙ ap (λ v. v && s.bare) (sym t.bare));
    long = f.same ∙ t.long;
    noted = λ k h. by_test (ltb k s.value_from)
        (λ c.
        let l = ltb-true k s.value_from c in
        subst (λ (v : ℕ). NotedBy kept es ws i o (ns ++ (n ∷ [])) k v) (sym (f.below k l))
        (noted_still kept es ws i o ns n k (get_or by k 0) (ap (λ (v : Use). value_by v i o k) u ∙ value_below s i o e k l) (t.noted k h)))
        (λ c. by_test (ltb s.value_upto k)
        (λ d.
        let l = ltb-true s.value_upto k d in
        subst (λ (v : ℕ). NotedBy kept es ws i o (ns ++ (n ∷ [])) k v) (sym (f.above k l))
        (noted_still kept es ws i o ns n k (get_or by k 0) (ap (λ (v : Use). value_by v i o k) u ∙ value_above s i o e k l) (t.noted k h)))
        (λ d. noted_there kept es ws i o (ns ++ (n ∷ [])) k (get_or by' k 0) (f.inside k (ltb-false k s.value_from c) (ltb-false s.value_upto k d))));
  }

-- A use of a chain that names a cell gives it a block, which can be noted.
module _ {es : List Entry} {f : Bytes} {kept : List ℕ} {count : ℕ} {list : List ℕ} {stage : Bytes} {ws : List Assignment} {i size : ℕ}
    (c : CanName es f kept count list stage ws i size) {x : ℕ} (few : x < chains) {n : ℕ} (w : Walk kept list x count n) (h : 0 < n) (o : ℕ)
    (t : names_cell (span_at kept (numbers_kept * (n - 1))) i o ≡ true) where
  pub walk_named : NamedBy es f kept count list stage ws (n - 1) i o size
  walk_named = record {
    indexed = c.indexed;
    known = omega (arith, w.few);
    names = walk_names c.indexed few w h i o ∙ t;
    entry = c.entry;
    field = c.field;
    size_is = c.size_is;
    inside = inr c.multiple;
  }

  pub walk_fills : {s : Span} (at : ℕ) → s ≡ span_at kept (numbers_kept * (n - 1)) → BeginsAt kept list stage (n - 1) i o size at → CanFill es ws stage i o s at size
  walk_fills {s} at e b =
      let v = (cell_span walk_named e).values in
      record {
        stands = c.indexed.listed.stands;
        block = subst (λ (y : Span). Block es ws i o y at) (sym e) (b es f count ws walk_named);
        size_is = c.size_is;
        values = (v.0, v.2);
      }

-- The tally stands before the use with one number less than n.
abbrev pub naming : ℕ → Bool → Naming
naming highest bare = record { highest = highest; bare = bare }

pub record Gone (kept list : List ℕ) (es : List Entry) (ws : List Assignment) (x i o count : ℕ) (ns left by : List ℕ) (r : Naming) : Type 0 where
  pub gone : List ℕ
  pub whole : ns ++ chained list count (get_or list x 0) ≡ gone ++ left
  pub tally : Tally kept es ws i o gone by r

abbrev pub Tallying : List ℕ → List ℕ → Bytes → ℕ → ℕ → ℕ → ℕ → List ℕ → Naming → List ℕ → Naming → ℕ → Type 0
Tallying kept list stage x i o size by₀ r₀ by r n = (es : List Entry) (f : Bytes) (count : ℕ) (ws : List Assignment) (ns : List ℕ) → CanName es f kept count list stage ws i size
    → (w : Walk kept list x count n) × (Tally kept es ws i o ns by₀ r₀ → Gone kept list es ws x i o count ns (left w) by r)

module _ (kept list : List ℕ) (stage : Bytes) (x i o size : ℕ) (few : x < chains) (by₀ : List ℕ) (r₀ : Naming) where
  pub tallying_start : Tallying kept list stage x i o size by₀ r₀ by₀ r₀ (get_or list x 0)
  tallying_start es f count ws ns c = (
    walk_start c.indexed few,
    λ t. record { gone = ns; whole = ap (λ (ms : List ℕ). ns ++ ms) (sym (left_start c.indexed few)); tally = t },
  )

  module _ (by : List ℕ) (r : Naming) (n : ℕ) (s : Tallying kept list stage x i o size by₀ r₀ by r n) where
    pub tallying_end : n ≤ 0 → Tallies kept list stage x i o size by₀ by r₀ r
    tallying_end h es f count ws ns c t =
        let (w, y) = s es f count ws ns c in
        let g = y t in
        subst (λ (ms : List ℕ). Tally kept es ws i o ms by r)
        (sym (g.whole ∙ ap (λ (ms : List ℕ). g.gone ++ ms) (left_none c.indexed few w h) ∙ append-nil g.gone)) g.tally

    module _ (h : 0 < n) where
      further : {es : List Entry} {f : Bytes} {count : ℕ} {ws : List Assignment} {ns : List ℕ} (c : CanName es f kept count list stage ws i size) (w : Walk kept list x count n)
          (by' : List ℕ) (r' : Naming) (g : Gone kept list es ws x i o count ns (left w) by r) → Tally kept es ws i o (g.gone ++ ((n - 1) ∷ [])) by' r'
          → Gone kept list es ws x i o count ns (left (walk_next c.indexed few w h)) by' r'
      further c w by' r' g t = record {
        gone = g.gone ++ ((n - 1) ∷ []);
        whole = g.whole ∙ ap (λ (ms : List ℕ). g.gone ++ ms) (left_next c.indexed few w h)
            ∙ sym (append_assoc g.gone ((n - 1) ∷ []) (left (walk_next c.indexed few w h)));
        tally = t;
      }

      pub tallying_out : names_cell (span_at kept (numbers_kept * (n - 1))) i o ≡ false → Tallying kept list stage x i o size by₀ r₀ by r (next_noted list (n - 1))
      tallying_out e es f count ws ns c =
          let (w, y) = s es f count ws ns c in
          (walk_next c.indexed few w h, λ t. let g = y t in further c w by r g (tally_out g.tally (n - 1) (walk_use c.indexed few w h) e))

      pub tallying_in : names_cell (span_at kept (numbers_kept * (n - 1))) i o ≡ true → (sp : Span) → sp ≡ span_at kept (numbers_kept * (n - 1)) → (at : ℕ)
          → BeginsAt kept list stage (n - 1) i o size at → {by' : List ℕ}
          → ((es : List Entry) (ws : List Assignment) (i o : ℕ) → CanFill es ws stage i o sp at size → Filled es ws i o sp by by')
          → (r' : Naming) → r'.highest ≡ max r.highest sp.value_upto → r'.bare ≡ (r.bare && sp.bare)
          → Tallying kept list stage x i o size by₀ r₀ by' r' (next_noted list (n - 1))
      tallying_in e sp d at b {by'} fl r' k k' es f count ws ns c =
          let (w, y) = s es f count ws ns c in (
            walk_next c.indexed few w h,
            λ t.
                let g = y t in
                further c w by' r' g
                (tally_in g.tally (n - 1) (walk_use c.indexed few w h ∙ ap code.Values (sym d)) (ap (λ (v : Span). names_cell v i o) d ∙ e) by' r'
                (fl es ws i o (walk_fills c few w h o e at d b)) k k'),
          )

      -- A turn in which the use names the cell, with the room for the notes.
      pub turn_in : {es : List Entry} {f : Bytes} {count : ℕ} {ws : List Assignment} → CanName es f kept count list stage ws i size → length by ≡ highest_index + 1
          → names_cell (span_at kept (numbers_kept * (n - 1))) i o ≡ true → (sp : Span) → sp ≡ span_at kept (numbers_kept * (n - 1)) → (at : ℕ)
          → BeginsAt kept list stage (n - 1) i o size at → {by' : List ℕ}
          → ((es : List Entry) (ws : List Assignment) (i o : ℕ) → CanFill es ws stage i o sp at size → Filled es ws i o sp by by')
          → (by'' : List ℕ) → by'' ≡ by' → (r' : Naming) → r'.highest ≡ max r.highest sp.value_upto → r'.bare ≡ (r.bare && sp.bare)
          → (length by'' ≡ highest_index + 1) × Tallying kept list stage x i o size by₀ r₀ by'' r' (next_noted list (n - 1))
      turn_in {es} {f} {count} {ws} c l e sp d at b {by'} fl by'' q r' k k' =
          let w = (s es f count ws [] c).0 in (
            ap length q ∙ (fl es ws i o (walk_fills c few w h o e at d b)).same ∙ l,
            subst (λ (v : List ℕ). Tallying kept list stage x i o size by₀ r₀ v r' (next_noted list (n - 1))) (sym q) (tallying_in e sp d at b fl r' k k'),
          )

      pub turn_out : length by ≡ highest_index + 1 → names_cell (span_at kept (numbers_kept * (n - 1))) i o ≡ false → (by'' : List ℕ) → by'' ≡ by → (r' : Naming) → r' ≡ r
          → (length by'' ≡ highest_index + 1) × Tallying kept list stage x i o size by₀ r₀ by'' r' (next_noted list (n - 1))
      turn_out l e by'' q r' k = (
        ap length q ∙ l,
        subst (λ (v : List ℕ). Tallying kept list stage x i o size by₀ r₀ v r' (next_noted list (n - 1))) (sym q)
            (subst (λ (v : Naming). Tallying kept list stage x i o size by₀ r₀ by v (next_noted list (n - 1))) (sym k) (tallying_out e)),
      )

-- The chains of a cell are gone over one after the other.
abbrev pub Counting : List ℕ → List ℕ → Bytes → ℕ → ℕ → ℕ → List ℕ → Naming → ℕ → Type 0
Counting kept list stage i o size by r x = (es : List Entry) (f : Bytes) (count : ℕ) (ws : List Assignment) → CanName es f kept count list stage ws i size
    → Tally kept es ws i o (gone_over list count i o x) by r

module _ (kept list : List ℕ) (stage : Bytes) (i o size : ℕ) where
  pub counting_start : (by : List ℕ) → length by ≡ highest_index + 1 → ((k : ℕ) → get_or by k 0 ≡ 0) → Counting kept list stage i o size by (naming 0 true) 0
  unfolding gone_over maximum all any
  counting_start by l z es f count ws c = record {
    highest = refl;
    bare = refl;
    long = l;
    noted = λ k h. subst (λ (v : ℕ). NotedBy kept es ws i o [] k v) (sym (z k)) refl;
  }

  gone_last : (count x : ℕ) → gone_over list count i o (x + 1) ≡ gone_over list count i o x ++ chained list count (get_or list (chain_at x i o) 0)
  unfolding gone_over
  gone_last count x = rw (add-one x)

  pub counting_on : (by : List ℕ) (r : Naming) (x y : ℕ) → Counting kept list stage i o size by r x → y ≡ chain_at x i o → (by' : List ℕ) (r' : Naming)
      → Tallies kept list stage y i o size by by' r r' → Counting kept list stage i o size by' r' (x + 1)
  counting_on by r x y s e by' r' t es f count ws c =
      subst (λ (ms : List ℕ). Tally kept es ws i o ms by' r')
      (ap (λ (z : ℕ). gone_over list count i o x ++ chained list count (get_or list z 0)) e ∙ sym (gone_last count x))
      (t es f count ws (gone_over list count i o x) c (s es f count ws c))

  pub counting_end : (by : List ℕ) (r : Naming) (x : ℕ) → Counting kept list stage i o size by r x → x ≡ chains_for list i o → (r' : Naming)
      → r'.highest ≡ r.highest → r'.bare ≡ cond (eqb r.highest 0) false r.bare → NamesAll kept list stage i o size by r'
  counting_end by r x s e r' h b es f count ws c =
      tally_names c by r r' (subst (λ (z : ℕ). Tally kept es ws i o (gone_over list count i o z) by r) e (s es f count ws c)) h b

-- The answer is bare only where something is named.
pub bare_none : (highest : ℕ) (bare : Bool) → highest ≡ 0 → not (eqb highest 0) ≡ cond (eqb highest 0) false bare
bare_none highest bare e = rw e

pub bare_some : (highest : ℕ) (bare : Bool) → (highest ≡ 0 → ⊥) → bare ≡ cond (eqb highest 0) false bare
bare_some highest bare e = rw (ne_eqb highest 0 e)
