-- Uses are put before their chains from the last to the first: of those that were put, each chain has the uses that belong to it in their
-- order.
use mathlib.Core.Path.{◌≡◌, refl, sym, ap, subst, ◌∙◌}
use mathlib.Core.Bool.{Bool, false}
use mathlib.Core.List.{List, ◌∷◌}
use Prim.Native.Nat.{ℕ, suc, ◌+◌, ◌-◌, ◌<◌, ◌≤◌, max}
use native.Mathlib.Omega.{arith}
use lib.Dec.{eqb, ltb}
use lib.ListN.{length, get_or}
use borrow.Author.Tests.{eqb-true, eqb-false, ltb-true, ltb-false}
use Rattle.rules.specs.Limits.{most_entries}
use Rattle.rules.specs.Lists.{Bytes, filter, maximum, run}
use Rattle.rules.specs.Table.{Entry}
use Rattle.rules.specs.Update.{Assignment}
use Rattle.rules.proofs.Steps.{by_test}
use Rattle.tables.specs.Entries.{blank, is_group}
use Rattle.uses.specs.Kept.{use_at}
use Rattle.uses.specs.Meant.{GoodUse}
use Rattle.uses.specs.declared.Span.{Span}
use Rattle.uses.specs.declared.Use.TheVariants as code
use Rattle.format_buffer.specs.Elements.{range}
use Rattle.uses.proofs.Spreading.{ordered_within}
use Rattle.assignments.specs.Notes.{group_chain, chains, highest_from, firsts_from, highest_noted, first_noted, start_noted, next_noted, use_chain, use_reach, chained, place_at, TakesAt, Listed, Chained, Indexed}
use Rattle.assignments.specs.Answers.{CanLink, Widened, LinkedAll, NamedOnce}
use Rattle.assignments.proofs.Chained.{chained_end, chained_first, Ascending, chain_same, filter_nil, filter_in, filter_out, numbers_none, numbers_more}
use Rattle.assignments.proofs.Climbing.{maximum_none, maximum_more}
use Rattle.assignments.proofs.PutBefore.{PutBefore}

-- The uses from m on were put before their chains; of those before them there is no next one yet.
pub record Linking (es : List Entry) (kept : List ℕ) (count : ℕ) (list after : List ℕ) (m : ℕ) : Type 0 where
  pub upto : m ≤ count
  pub same : length after ≡ length list
  pub starts : (k : ℕ) → start_noted after k ≡ start_noted list k
  pub firsts : (i : ℕ) → i < most_entries → first_noted after i ≡ first_noted list i
  pub left : (k : ℕ) → k < m → next_noted after k ≡ 0
  pub above : (x : ℕ) → x < chains → 0 < get_or after x 0 → m < get_or after x 0
  pub chains : Chained es kept count m after

pub linking_start : (es : List Entry) (kept : List ℕ) (count : ℕ) (list : List ℕ) → length es ≤ most_entries → ((j : ℕ) → j < firsts_from → get_or list j 0 ≡ 0) → ((k : ℕ) → k < count → next_noted list k ≡ 0)
    → Linking es kept count list list count
linking_start es kept count list most u z =
    let none : count - count ≡ 0 = omega arith in
    record {
      upto = omega arith;
      same = refl;
      starts = λ k. refl;
      firsts = λ i h. refl;
      left = z;
      above = λ x h p. absurd (let q = u x (omega arith) in omega arith);
      chains = record {
        heads = λ x h. let q = u x (omega arith) in omega arith;
        nexts = λ n h l. absurd (omega arith);
        members = λ x h.
            ap (chained list count) (u x (omega arith)) ∙ chained_end list count
            ∙ sym (ap (λ r. filter (λ n. eqb (use_chain (use_at kept n)) x) (run (λ n. n) count r)) none ∙ ap (filter (λ n. eqb (use_chain (use_at kept n)) x)) (numbers_none count)
            ∙ filter_nil (λ n. eqb (use_chain (use_at kept n)) x));
        highest = λ i h g. u (highest_from + i) (omega arith) ∙ sym (ap (λ r. maximum (run (λ n. use_reach (use_at kept n) i) count r)) none ∙ maximum_none (λ n. use_reach (use_at kept n) i) count);
        groups = λ i h g. u (highest_from + i) (omega arith);
      };
    }

module _ {es : List Entry} {kept : List ℕ} {count k : ℕ} {list mid after : List ℕ} (l : Linking es kept count list mid (suc k)) (p : PutBefore es k (use_at kept k) mid after) where
  left_more : count - k ≡ suc (count - suc k)
  left_more = omega (arith, l.upto)

  own_chain : ℕ
  own_chain = use_chain (use_at kept k)

  next_kept : (j : ℕ) → suc k ≤ j → next_noted after j ≡ next_noted mid j
  next_kept j h = p.nexts j (λ e. absurd (omega arith))

  heads_on : (x : ℕ) → x < chains → (get_or after x 0 ≤ count) × (0 < get_or after x 0 → k < get_or after x 0)
  unfolding own_chain
  heads_on x h = by_test (eqb own_chain x)
      (λ t. let (e, _) = p.own x h (eqb-true own_chain x t) in (omega (arith, l.upto), λ q. omega arith))
      (λ t.
      let e = p.other x h (eqb-false own_chain x t) in
      (omega (arith, l.chains.heads x h), λ q. let u = l.above x h (omega arith) in omega arith))

  nexts_on : Ascending after count k
  unfolding own_chain
  nexts_on j h b = by_test (eqb j k)
      (λ t.
      let same = eqb-true j k t in
      by_test (ltb own_chain chains)
      (λ w.
      let low = ltb-true own_chain chains w in
      let (_, e) = p.own own_chain low refl in
      rw same (omega (arith, l.chains.heads own_chain low), λ q. let u = l.above own_chain low (omega arith) in omega arith))
      (λ w.
      let e = p.alone (ltb-false own_chain chains w) in
      let z = l.left k (omega arith) in
      rw same (omega arith, λ q. absurd (omega arith))))
      (λ t. let d = eqb-false j k t in let e = p.nexts j d in rw e (l.chains.nexts j (omega (arith, d)) b))

  chain_kept : (g n : ℕ) → n ≤ count → (0 < n → suc k < n) → count - suc k ≤ g → chained after g n ≡ chained mid count n
  chain_kept g n h b e =
      chain_same mid after count (suc k) l.chains.nexts next_kept count g n h b (λ q. omega arith) (λ q. let u = b q in omega (arith, l.upto))

  chain_own : (x : ℕ) → x < chains → own_chain ≡ x → chained after count (get_or after x 0) ≡ k ∷ chained mid count (get_or mid x 0)
  unfolding own_chain
  chain_own x h e =
      let (head, next) = p.own x h e in
      let f : count ≡ suc (count - 1) = omega (arith, l.upto) in
      ap (λ g. chained after g (get_or after x 0)) f ∙ ap (chained after (suc (count - 1))) head ∙ chained_first after (count - 1) k
      ∙ ap (λ n. k ∷ chained after (count - 1) n) next
      ∙ ap (◌∷◌ k) (chain_kept (count - 1) (get_or mid x 0) (l.chains.heads x h) (l.above x h) (omega (arith, l.upto)))

  members_on : (x : ℕ) → x < chains → chained after count (get_or after x 0) ≡ filter (λ n. eqb (use_chain (use_at kept n)) x) (run (λ n. n) k (count - k))
  unfolding own_chain
  members_on x h =
      let t : ℕ → Bool = λ n. eqb (use_chain (use_at kept n)) x in
      let more : filter t (run (λ n. n) k (count - k)) ≡ filter t (k ∷ run (λ n. n) (suc k) (count - suc k)) =
      ap (λ r. filter t (run (λ n. n) k r)) left_more ∙ ap (filter t) (numbers_more k (count - suc k)) in
      by_test (eqb own_chain x)
      (λ w.
      chain_own x h (eqb-true own_chain x w) ∙ ap (◌∷◌ k) (l.chains.members x h)
      ∙ sym (more ∙ filter_in t k (run (λ n. n) (suc k) (count - suc k)) w))
      (λ w.
      ap (chained after count) (p.other x h (eqb-false own_chain x w))
      ∙ chain_kept count (get_or mid x 0) (l.chains.heads x h) (l.above x h) (omega arith)
      ∙ l.chains.members x h
      ∙ sym (more ∙ filter_out t k (run (λ n. n) (suc k) (count - suc k)) w))

  highest_on : (i : ℕ) → i < length es → is_group (get_or es i blank).what ≡ false
      → highest_noted after i ≡ maximum (run (λ n. use_reach (use_at kept n) i) k (count - k))
  highest_on i h g =
      let more : maximum (run (λ n. use_reach (use_at kept n) i) k (count - k)) ≡ max (use_reach (use_at kept k) i) (maximum (run (λ n. use_reach (use_at kept n) i) (suc k) (count - suc k))) =
      ap (λ r. maximum (run (λ n. use_reach (use_at kept n) i) k r)) left_more ∙ maximum_more (λ n. use_reach (use_at kept n) i) k (count - suc k) in
      omega (arith, p.reach i h g, l.chains.highest i h g, more)

  -- One use more is in its chain.
  pub chained_on : Chained es kept count k after
  chained_on = record {
    heads = λ x h. (heads_on x h).0;
    nexts = nexts_on;
    members = members_on;
    highest = highest_on;
    groups = λ i h g. p.groups i h g ∙ l.chains.groups i h g;
  }

  pub linking_on : Linking es kept count list after k
  linking_on = record {
    upto = omega (arith, l.upto);
    same = p.same ∙ l.same;
    starts = λ j. p.starts j ∙ l.starts j;
    firsts = λ i h. p.firsts i h ∙ l.firsts i h;
    left = λ j h. p.nexts j (λ e. absurd (omega arith)) ∙ l.left j (omega arith);
    above = λ x h. (heads_on x h).1;
    chains = chained_on;
  }

-- What is listed stays so where the places of the values do.
pub listed_again : {es : List Entry} {f : Bytes} {kept : List ℕ} {count : ℕ} {list : List ℕ} {stage : Bytes} {ws : List Assignment}
    (after : List ℕ) → length after ≡ length list → ((n : ℕ) → start_noted after n ≡ start_noted list n) → ((i : ℕ) → i < most_entries → first_noted after i ≡ first_noted list i)
    → Listed es f kept count list stage ws → Listed es f kept count after stage ws
listed_again {es} {ws = ws} after e s t x = record {
  entries = x.entries;
  table = x.table;
  valid = x.valid;
  entries_are = x.entries_are;
  uses = x.uses;
  kept_room = x.kept_room;
  room = omega (arith, x.room);
  few = x.few;
  buffer = x.buffer;
  rest = x.rest;
  small = x.small;
  given = x.given;
  starts = λ n h. s n ∙ x.starts n h;
  stands = x.stands;
  firsts = λ i h g. subst (λ (r : ℕ). TakesAt ws (place_at es i 1 1) r) (sym (t i (omega (arith, x.entries)))) (x.firsts i h g);
}

-- A turn, in the numbers of the code.
module _ {es : List Entry} {kept : List ℕ} {count : ℕ} {list mid : List ℕ} {m : ℕ} (l : Linking es kept count list mid m) (h : 0 < m) where
  pub can_link : {f stage : Bytes} {ws : List Assignment} → Listed es f kept count list stage ws → (s : Span) → use_at kept (m - 1) ≡ code.Values s → CanLink es (m - 1) s mid
  can_link {f} x s e =
      let g : GoodUse es f (code.Values s) = subst (GoodUse es f) e (x.uses (m - 1) (omega (arith, l.upto))) in
      let (_, ordered, most) = ordered_within (range s.from s.upto) g.occurrences in
      record {
        room = omega (arith, x.room, l.same, l.upto);
        few = omega (arith, x.few, l.upto);
        most = x.entries;
        entries = (g.ordered, g.upto);
        occurrences = (ordered, most);
      }

  pub linking_turn : {after : List ℕ} → PutBefore es (m - 1) (use_at kept (m - 1)) mid after → Linking es kept count list after (m - 1)
  linking_turn p =
      let q : m ≡ suc (m - 1) = omega arith in
      linking_on (subst (λ (k : ℕ). Linking es kept count list mid k) q l) p

-- All uses were put before their chains.
pub linking_end : {es : List Entry} {kept : List ℕ} {count : ℕ} {list after : List ℕ} {m : ℕ} → Linking es kept count list after m → m ≡ 0
    → {f stage : Bytes} {ws : List Assignment} → Listed es f kept count list stage ws → LinkedAll es f kept count after stage ws
linking_end {es} {kept} {count} {list} {after} l e x = record {
  listed = listed_again after l.same l.starts l.firsts x;
  chains = subst (λ (k : ℕ). Chained es kept count k after) e l.chains;
}

-- The list can be searched: no use has several fields, or the widths are noted.
module _ {es : List Entry} {f : Bytes} {kept : List ℕ} {count : ℕ} {list : List ℕ} {stage : Bytes} {ws : List Assignment}
    (l : LinkedAll es f kept count list stage ws) (o : NamedOnce f es kept count) where
  pub indexed_single : (0 < get_or list group_chain 0 → ⊥) → Indexed es f kept count list stage ws
  indexed_single d = record { listed = l.listed; chains = l.chains; widths = λ h. absurd (d h); apart = o.apart; once = o.once }

  module _ {after : List ℕ} (w : Widened es list after) where
    heads_again : (x : ℕ) → x < chains → get_or after x 0 ≡ get_or list x 0
    heads_again x h = w.others x (omega arith)

    heights_again : (i : ℕ) → i < length es → highest_noted after i ≡ highest_noted list i
    heights_again i h = w.others (highest_from + i) (omega (arith, l.listed.entries))

    chained_again : Chained es kept count 0 after
    chained_again =
        let c = l.chains in
        record {
          heads = λ x h. rw (heads_again x h) (c.heads x h);
          nexts = λ n h b. rw (w.nexts n) (c.nexts n h b);
          members = λ x h.
              ap (chained after count) (heads_again x h)
              ∙ chain_same list after count 0 c.nexts (λ k _. w.nexts k) count count (get_or list x 0) (c.heads x h) (λ p. p) (λ p. omega arith) (λ p. omega arith)
              ∙ c.members x h;
          highest = λ i h g. heights_again i h ∙ c.highest i h g;
          groups = λ i h g. heights_again i h ∙ c.groups i h g;
        }

    pub indexed_widened : Indexed es f kept count after stage ws
    indexed_widened = record {
      listed = listed_again after w.same w.notes (λ i h. w.others (firsts_from + i) (omega arith)) l.listed;
      chains = chained_again;
      widths = λ _. w.widths;
      apart = o.apart;
      once = o.once;
    }
