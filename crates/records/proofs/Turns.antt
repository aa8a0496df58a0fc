-- Loops over a record's bytes, for a reader n times and for the fields among entries: what is left ends where the whole does.
use Rattle.std.specs.Prelude.{None, Option, Some}
use mathlib.Core.Path.{◌≡◌, refl, sym, ◌∙◌, ap, subst}
use mathlib.Core.List.{List, [], ◌∷◌}
use Prim.Native.Nat.{ℕ, zero, suc, ◌+◌, ◌-◌, ◌≤◌, ◌<◌}
use native.Mathlib.Nat.{sub-zero, not-suc-le-zero, le_of_suc-le-suc}
use native.Mathlib.Numerals.{add-one}
use native.Mathlib.Omega.{arith}
use lib.ListN.{length, drop, get_or, set, length-set}
use lib.Seq.{slice, get_or-set_same, get_or-set_other}
use Rattle.rules.specs.Outcome.{Outcome, done, by}
use Rattle.rules.specs.Lists.{Bytes}
use Rattle.rules.specs.Table.{Entry}
use Rattle.rules.specs.Record.{Reader, times, each, stored_cell}
use Rattle.rules.proofs.Steps.{not_done, by_outcome}
use Rattle.buffer.proofs.Cases.{by_order}
use Rattle.records.specs.Walk.{rest_of, Walked, Ends, directory, Kept}
use Rattle.records.specs.Where.{field_of}
use Rattle.tables.specs.Groups.{fields_in}
use Rattle.records.proofs.Walks.{walked_at, walked_bad, times_stop, times_more, turn_at, turn_bad, turns_over}
use Rattle.records.proofs.Checking.{each_on, each_off}
use Rattle.records.proofs.Groups.{fields_first}
use Rattle.records.proofs.Occurrences.{between_over}

-- A reader n times, of which i are done, at the place p.
pub record Repeating {X : Type 0} (one : Reader X) (b : Bytes) (whole : Outcome Bytes) (n i p : ℕ) : Type 0 where
  pub upto : i ≤ n
  pub place : p ≤ length b
  pub rest : rest_of (times (n - i) one (drop p b)) ≡ whole

pub repeating : {X : Type 0} (one : Reader X) (b : Bytes) (n p : ℕ) → p ≤ length b → Repeating one b (rest_of (times n one (drop p b))) n 0 p
repeating one b n p h = record { upto = omega arith; place = h; rest = rw (sub-zero n) refl }

module _ {X : Type 0} {one : Reader X} {b : Bytes} {whole : Outcome Bytes} {n i p : ℕ} (l : Repeating one b whole n i p) where
  module _ (less : i < n) {r : (Option ℕ)} (w : Walked b (rest_of (one (drop p b))) r) where
    pub repeat_on : {e : ℕ} → r ≡ Some e → Repeating one b whole n (i + 1) e
    repeat_on {e} q = let h = walked_at w q in record { upto = omega arith; place = h.1; rest = turn_at one b n i p less l.rest e h.0 }

    pub repeat_off : r ≡ None → Walked b whole None
    repeat_off q = record { answer = turn_bad one b n i p less l.rest (walked_bad w q); place = tt }

  pub repeated : n ≤ i → Walked b whole (Some p)
  repeated h = record { answer = turns_over one b n i p h l.rest; place = l.place }

  -- A reader that comes to an end n times does so the next time.
  pub repeat_there : i < n → Ends whole → Ends (rest_of (one (drop p b)))
  repeat_there less e = by_outcome (rest_of (one (drop p b)))
      (λ cs h. (cs, h))
      (λ k h. let q : n - i ≡ suc (n - (i + 1)) = omega arith in absurd (not_done (sym (times_stop one (n - (i + 1)) (drop p b) h) ∙ rw q at l.rest ∙ e.1)))

-- Beginnings that are kept on the way: i of n times are done, at the place p.
pub record Keeping {X : Type 0} (one : Reader X) (b : Bytes) (at kept : ℕ) (before after : List ℕ) (i p : ℕ) : Type 0 where
  pub here : rest_of (times i one (drop at b)) ≡ done (drop p b)
  pub far : Kept one b at i kept before after

pub keeping : {X : Type 0} (one : Reader X) (b : Bytes) (at kept : ℕ) (places : List ℕ) → Keeping one b at kept places places 0 at
unfolding times
keeping one b at kept places = record { here = refl; far = record { long = refl; others = λ j l. refl; occurrences = λ k l. absurd (not-suc-le-zero l) } }

pub keep_on : {X : Type 0} {one : Reader X} {b : Bytes} {at kept : ℕ} {before after : List ℕ} {i p : ℕ} → Keeping one b at kept before after i p → length before ≡ directory → p ≤ length b
    → {r : (Option ℕ)} → Walked b (rest_of (one (drop p b))) r → {e : ℕ} → r ≡ Some e → Keeping one b at kept before (set after (kept + i) p) (i + 1) e
keep_on {X} {one} {b} {at} {kept} {before} {after} {i} {p} l room h w {e} q = record {
  here = rw add-one (times_more one i (drop at b) l.here (walked_at w q).0);
  far = record {
    long = length-set after (kept + i) p ∙ l.far.long;
    others = λ j k. get_or-set_other after (kept + i) j p 0 (λ z. omega arith) ∙ l.far.others j k;
    occurrences = λ k m s. by_order k i
        (λ o. rw (get_or-set_other after (kept + i) (kept + k) p 0 (λ z. omega arith)) (l.far.occurrences k o s))
        (λ o. let z : k ≡ i = omega arith in rw (z, get_or-set_same after (kept + i) p 0 (omega (arith, l.far.long))) (record { answer = sym l.here; place = h }));
  };
}

pub kept_all : {X : Type 0} {one : Reader X} {b : Bytes} {at kept : ℕ} {before after : List ℕ} {i p n : ℕ} → Keeping one b at kept before after i p → i ≡ n → Kept one b at n kept before after
kept_all {X} {one} {b} {at} {kept} {before} {after} l e = subst (λ m. Kept one b at m kept before after) e l.far

-- A number beyond the end keeps nothing.
pub set_beyond : (l : List ℕ) (j v : ℕ) → length l ≤ j → set l j v ≡ l
set_beyond [] j v h = refl
set_beyond (x ∷ l) zero v h = absurd (not-suc-le-zero h)
set_beyond (x ∷ l) (suc j) v h = ap (λ (r : List ℕ). x ∷ r) (set_beyond l j v (le_of_suc-le-suc h))

-- The cells of the fields among the entries from i to j, at the place p.
pub record Among (es : List Entry) (b : Bytes) (whole : Outcome Bytes) (j i p : ℕ) : Type 0 where
  pub upto : i ≤ j
  pub place : p ≤ length b
  pub rest : rest_of (each stored_cell (fields_in (slice i j es)) (drop p b)) ≡ whole

pub among : (es : List Entry) (b : Bytes) (j i p : ℕ) → i ≤ j → p ≤ length b → Among es b (rest_of (each stored_cell (fields_in (slice i j es)) (drop p b))) j i p
among es b j i p h k = record { upto = h; place = k; rest = refl }

module _ {es : List Entry} {b : Bytes} {whole : Outcome Bytes} {j i p : ℕ} (l : Among es b whole j i p) where
  module _ (d : Entry) (less : i < j) (most : j ≤ length es) {r : (Option ℕ)} (w : Walked b (rest_of (each stored_cell (field_of (get_or es i d).name (get_or es i d).what) (drop p b))) r) where
    pub among_on : {e : ℕ} → r ≡ Some e → Among es b whole j (i + 1) e
    among_on {e} q =
        let h = walked_at w q in
        record {
          upto = omega arith;
          place = h.1;
          rest =
              rw add-one (sym (each_on stored_cell (fields_in (slice (suc i) j es)) (field_of (get_or es i d).name (get_or es i d).what) (drop p b) (drop e b) h.0)
              ∙ rw (fields_first es d i j less most) at l.rest);
        }

    pub among_off : r ≡ None → Walked b whole None
    among_off q = record {
      answer =
          sym (each_off stored_cell (fields_in (slice (suc i) j es)) (field_of (get_or es i d).name (get_or es i d).what) (drop p b) (by 2) (walked_bad w q))
          ∙ rw (fields_first es d i j less most) at l.rest;
      place = tt;
    }

  pub among_there : (d : Entry) → i < j → j ≤ length es → Ends whole → Ends (rest_of (each stored_cell (field_of (get_or es i d).name (get_or es i d).what) (drop p b)))
  among_there d less most e = by_outcome (rest_of (each stored_cell (field_of (get_or es i d).name (get_or es i d).what) (drop p b)))
      (λ cs h. (cs, h))
      (λ k h. absurd (not_done (sym (each_off stored_cell (fields_in (slice (suc i) j es)) (field_of (get_or es i d).name (get_or es i d).what) (drop p b) k h)
      ∙ rw (fields_first es d i j less most) at l.rest ∙ e.1)))

  pub among_all : j ≤ i → Walked b whole (Some p)
  among_all h = let e : i ≡ j = omega (arith, l.upto) in record { answer = sym (between_over es j (drop p b)) ∙ rw e at l.rest; place = l.place }

-- what loops over values, occurrences and members cite
pub ruleset repeat_steps = (repeating, repeat_on, repeat_off, repeat_there, repeated)

pub ruleset among_steps = (among, among_on, among_off, among_there, among_all)
