-- The names of entries by their marks: equal names have equal marks, so a name whose mark is not set is new, and names of which each
-- is new differ.
use mathlib.Core.Path.{◌≡◌, sym, subst, ◌∙◌}
use mathlib.Core.Bool.{Bool, true, false, true≢false}
use mathlib.Core.List.{List, [], ◌∷◌}
use Prim.Native.Nat.{ℕ, suc, ◌+◌, ◌<◌, ◌≤◌}
use native.Mathlib.Omega.{arith}
use borrow.Author.Tests.{ne_eqb, eqb-true, eqb-false}
use lib.Dec.{eqb}
use lib.ListN.{length, length-set, get_or, set}
use lib.Seq.{get_or-set_same, get_or-set_other}
use Rattle.buffer.proofs.Cases.{by_order}
use Rattle.rules.specs.Lists.{Bytes}
use Rattle.rules.specs.Table.{Entry, differ, names}
use Rattle.rules.proofs.Steps.{by_test}
use Rattle.tables.specs.Entries.{blank}
use Rattle.tables.specs.Validity.{read_entries, Right, unused, mark_of, NamedBefore}
use Rattle.tables.proofs.Levels.{unused_nil, unused_cons, differ_nil, differ_cons}
use Rattle.tables.proofs.Names.{one_name}
use Rattle.tables.proofs.Tables.{read_count, read_name}

mark_small : (n : ℕ) → mark_of n < 256
unfolding mark_of
mark_small n = omega arith

-- entry i has the name of no entry before it
abbrev pub New : List Entry → ℕ → Type 0
New es i = (j : ℕ) → j < i → (get_or es j blank).name ≡ (get_or es i blank).name → ⊥

-- ---- names of which each is new differ

unused_by : (n : ℕ) (es : List Entry) → ((j : ℕ) → j < length es → (get_or es j blank).name ≡ n → ⊥) → unused n es ≡ true
unused_by n [] f = unused_nil n
unused_by n (e ∷ es) f = rw (unused_cons n e es, ne_eqb e.name n (f 0 (omega arith))) (unused_by n es (λ j h. f (suc j) (omega arith)))

differ_by : (es : List Entry) → ((i : ℕ) → i < length es → New es i) → differ (names es) ≡ true
differ_by [] f = differ_nil
differ_by (e ∷ es) f =
    rw (differ_cons e es, unused_by e.name es (λ j h q. f (suc j) (omega arith) 0 (omega arith) (sym q)))
    (differ_by es (λ i h j k. f (suc i) (omega arith) (suc j) (omega arith)))

-- ---- the loop over the entries

-- each of the first i names is new, and its mark is set
pub record Marked (es : List Entry) (s : List Bool) (i : ℕ) : Type 0 where
  pub size : length s ≡ 256
  pub apart : (k : ℕ) → k < i → New es k
  pub noted : (k : ℕ) → k < i → get_or s (mark_of (get_or es k blank).name) false ≡ true

pub marked_start : (es : List Entry) (s : List Bool) → length s ≡ 256 → Marked es s 0
marked_start es s l = record { size = l; apart = λ k h. absurd (omega arith); noted = λ k h. absurd (omega arith) }

-- a mark that is set stays so
still_set : (s : List Bool) (m k : ℕ) → m < length s → get_or s k false ≡ true → get_or (set s m true) k false ≡ true
still_set s m k h e = by_test (eqb k m)
    (λ q. rw (eqb-true k m q) (get_or-set_same s m true false h))
    (λ q. get_or-set_other s m k true false (eqb-false k m q) ∙ e)

module _ {es : List Entry} {s : List Bool} {i : ℕ} (w : Marked es s i) where
  module _ (m : ℕ) (z : m ≡ mark_of (get_or es i blank).name) where
    -- a name whose mark is not set is new
    pub unmarked_new : get_or s m false ≡ false → New es i
    unmarked_new f j h q = absurd (true≢false (sym (w.noted j h) ∙ rw (q, ← z) f))

    pub marked_turn : New es i → Marked es (set s m true) (i + 1)
    marked_turn f =
        let small : m < length s = omega (arith, z, w.size, mark_small (get_or es i blank).name) in
        record {
          size = simp length-set w.size;
          apart = λ k h. by_order k i (w.apart k) (λ q. let e : i ≡ k = omega arith in subst (New es) e f);
          noted = λ k h. by_order k i
              (λ q. still_set s m (mark_of (get_or es k blank).name) small (w.noted k q))
              (λ q. let e : k ≡ i = omega arith in rw (e, ← z) (get_or-set_same s m true false small));
        }

  pub marked_end : length es ≤ i → true ≡ differ (names es)
  marked_end h = sym (differ_by es (λ k q. w.apart k (omega arith)))

-- an answer to whether the name of entry i stands before it
module _ (n : ℕ) (t : Bytes) (v : Right n t) (i : ℕ) (h : i < n) (m : ℕ) (e : m ≡ (get_or (read_entries n t) i blank).name) (r : Bool) (b : NamedBefore t i m r) where
  pub named_new : r ≡ false → New (read_entries n t) i
  named_new f j k q = subst (NamedBefore t i m) f b j k (read_name n t v j (omega arith) ∙ q ∙ sym e)

  pub named_twice : r ≡ true → false ≡ differ (names (read_entries n t))
  named_twice f =
      let x = subst (NamedBefore t i m) f b in
      let c = read_count n t v in
      let q = sym (read_name n t v x.0 (omega (arith, x.1))) ∙ x.2 ∙ e in
      by_test (differ (names (read_entries n t)))
      (λ d. absurd (omega (arith, x.1, one_name (read_entries n t) d x.0 i (omega (arith, x.1)) (omega arith) q)))
      (λ d. sym d)

-- what a loop over names cites
pub ruleset mark_steps = (marked_start, marked_turn, marked_end, unmarked_new, named_new, named_twice)
