-- What a walk over the entries below a group leaves, at each of its ends.
use mathlib.Core.Path.{◌≡◌, refl, sym, ap, ◌∙◌}
use mathlib.Core.Bool.{true, false}
use mathlib.Core.List.{List, [], ◌∷◌, map}
use Prim.Native.Nat.{ℕ, ◌+◌, ◌≤◌, ◌<◌}
use native.Mathlib.Nat.{le_of_lt}
use native.Mathlib.Omega.{arith}
use lib.ListN.{length, get_or, take, drop, set, length-set, length-append, length-drop}
use Rattle.rules.specs.Table.{Entry}
use Rattle.buffer.proofs.Laws.{splice_nil, splice_then, set_splice, take_splice}
use Rattle.tables.specs.Entries.{blank, is_group}
use Rattle.tables.specs.Groups.{run_below, numbers_below, field_at, Expanded, FieldsOf}
use Rattle.tables.specs.declared.groups.Expansion.{Expansion}
use Rattle.tables.proofs.Tables.{valid_most}
use Rattle.tables.proofs.Nesting.{run_short, run_more, run_stop, run_none, numbers_short, numbers_stop, numbers_none, numbers_field, numbers_group, run_then, numbers_then, numbers_fields}

module _ (es : List Entry) (level at count : ℕ) (before : List ℕ) where
  empty : (r : Expansion) → run_below level (drop at es) ≡ 0 → numbers_below level at (drop at es) ≡ [] → r.next ≡ at → r.count ≡ count
      → Expanded es level at count before before r
  empty r e f p q = record {
    past = rw e (omega arith);
    counted = rw f (omega arith);
    written = rw f (sym (splice_nil count before));
    same = refl;
  }

  pub done_none : (r : Expansion) → length es ≤ at → r.next ≡ at → r.count ≡ count → Expanded es level at count before before r
  done_none r h = empty r (run_none es level at h) (numbers_none es level at h)

  pub done_stop : (r : Expansion) → at < length es → (get_or es at blank).level ≤ level → r.next ≡ at → r.count ≡ count
      → Expanded es level at count before before r
  done_stop r h k = empty r (run_stop es level at h k) (numbers_stop es level at h k)

  pub done_field : (r : Expansion) (after : List ℕ) → at < length es → level < (get_or es at blank).level → is_group (get_or es at blank).what ≡ false
      → count < length before
      → Expanded es level (at + 1) (count + 1) (set before count at) after r
      → Expanded es level at count before after r
  done_field r after h l g s x = record {
    past = rw (run_more es level at h l) (omega (arith, x.past));
    counted = rw (numbers_field es level at h l g) (omega (arith, x.counted));
    written =
        rw (numbers_field es level at h l g)
        (x.written
        ∙ rw (set_splice before count at s) (splice_then count (at ∷ []) (numbers_below level (at + 1) (drop (at + 1) es)) before (count + 1) (omega arith) (omega arith)));
    same = x.same ∙ simp length-set;
  }

  pub done_group : (deep : ℕ) (i r : Expansion) (mid after : List ℕ) → at < length es → deep ≡ (get_or es at blank).level → level < deep
      → is_group (get_or es at blank).what ≡ true
      → count ≤ at → length es ≤ length before
      → Expanded es deep (at + 1) count before mid i
      → Expanded es level i.next i.count mid after r
      → Expanded es level at count before after r
  done_group deep i r mid after h d l g u s x y =
      let l' : level < (get_or es at blank).level = rw (← d) l in
      let m = run_then es level deep (at + 1) i.next (le_of_lt l) x.past in
      let n = numbers_then es level deep (at + 1) i.next (le_of_lt l) x.past in
      let q = numbers_short deep (at + 1) (drop (at + 1) es) in
      let b = run_short deep (drop (at + 1) es) in
      record {
        past = rw (run_more es level at h l', m) (omega (arith, y.past, x.past));
        counted = rw (numbers_group es level at h l' g, n, length-append) (omega (arith, y.counted, x.counted));
        written =
            rw (numbers_group es level at h l' g, n)
            (y.written
            ∙ rw x.written (splice_then count (numbers_below deep (at + 1) (drop (at + 1) es)) _ before i.count x.counted (omega (arith, q, b, length-drop (at + 1) es))));
        same = y.same ∙ x.same;
      }

-- the walk from the entry after group i, as its expansion
pub expanded : (es : List Entry) (i : ℕ) (before after : List ℕ) (r : Expansion) → Expanded es (get_or es i blank).level (i + 1) 0 before after r
    → FieldsOf es i before after r.count
expanded es i before after r x =
    let ns = numbers_below (get_or es i blank).level (i + 1) (drop (i + 1) es) in
    let n : r.count ≡ length ns = omega (arith, x.counted) in
    record {
      counted = n;
      written = x.written;
      same = x.same;
      fields =
          ap (λ (l : List ℕ). map (field_at es) l) (ap (take r.count) x.written ∙ take_splice ns before r.count n)
          ∙ numbers_fields es (get_or es i blank).level (i + 1);
    }

-- what bounds the walk's numbers
pub ruleset walk_bounds = (valid_most, run_short, numbers_short, length-drop)
