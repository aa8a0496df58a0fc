-- The walk over a body, entry by entry: what is left of the body answers as the whole, and each entry passed has its place kept.
use mathlib.Core.Path.{◌≡◌, refl, sym, ◌∙◌, ap}
use mathlib.Core.Bool.{Bool, true, false}
use mathlib.Core.List.{List, [], ◌∷◌, ◌++◌}
use Prim.Native.Nat.{ℕ, suc, ◌+◌, ◌≤◌, ◌<◌}
use native.Mathlib.Nat.{add-zero, zero-add, not-suc-le-zero}
use native.Mathlib.Numerals.{add-one}
use native.Mathlib.Omega.{arith}
use lib.ListN.{length, drop, get_or, drop_of_length-le}
use lib.Seq.{drop-cons}
use Rattle.rules.specs.Limits.{record_head_size}
use Rattle.rules.specs.Outcome.{Refusal, Outcome, done, refused, by}
use Rattle.rules.specs.Lists.{Bytes}
use Rattle.rules.specs.Table.{What, field, group, Entry, Part, is_inside, parts_from, part_of}
use Rattle.rules.specs.Record.{Reader, each, stored_part}
use Rattle.records.specs.Walk.{rest_of, after_entry, start_of, Starts}
use Rattle.rules.proofs.Steps.{done_inj, not_done, by_outcome}
use Rattle.buffer.proofs.Cases.{by_order}
use Rattle.records.proofs.Walks.{each_turn, each_stop}

-- An entry adds its own part, if any, before those after it.
part_first : (inside : Bool) (n : ℕ) (w : What) (es : List Entry) (ps : List Part) → part_of inside n w es ps ≡ part_of inside n w es [] ++ ps
unfolding part_of
part_first inside n (group true) es ps = refl
part_first inside n (group false) es ps = refl
part_first true n (field f s mu) es ps = refl
part_first false n (field f s mu) es ps = refl

-- Readers one after the other, in two runs.
module _ {X Y : Type 0} (one : Y → Reader X) (zs : List Y) where
  pub each_on : (ys : List Y) (bs cs : Bytes) → rest_of (each one ys bs) ≡ done cs → rest_of (each one (ys ++ zs) bs) ≡ rest_of (each one zs cs)
  unfolding each
  each_on [] bs cs q = rw (done_inj q) refl
  each_on (y ∷ ys) bs cs q = by_outcome (rest_of (one y bs))
      (λ ds h. each_turn one y (ys ++ zs) bs h ∙ each_on ys ds cs (sym (each_turn one y ys bs h) ∙ q))
      (λ n h. absurd (not_done (sym (each_stop one y ys bs h) ∙ q)))

  pub each_off : (ys : List Y) (bs : Bytes) (k : Refusal) → rest_of (each one ys bs) ≡ refused k → rest_of (each one (ys ++ zs) bs) ≡ refused k
  unfolding each
  each_off [] bs k q = absurd (not_done (sym q))
  each_off (y ∷ ys) bs k q = by_outcome (rest_of (one y bs))
      (λ ds h. each_turn one y (ys ++ zs) bs h ∙ each_off ys ds k (sym (each_turn one y ys bs h) ∙ q))
      (λ n h. each_stop one y (ys ++ zs) bs h ∙ sym (each_stop one y ys bs h) ∙ q)

abbrev left : Bool → List Entry → Bytes → Outcome Bytes
left before es bs = rest_of (each stored_part (parts_from before es) bs)

-- An entry and those after it.
module _ (before : Bool) (e : Entry) (es : List Entry) (bs : Bytes) where
  entry_on : (cs : Bytes) → after_entry (is_inside before e) e es bs ≡ done cs → left before (e ∷ es) bs ≡ left (is_inside before e) es cs
  unfolding parts_from after_entry
  entry_on cs q = rw (part_first (is_inside before e) e.name e.what es (parts_from (is_inside before e) es))
      (each_on stored_part (parts_from (is_inside before e) es) (part_of (is_inside before e) e.name e.what es []) bs cs q)

  entry_off : (k : Refusal) → after_entry (is_inside before e) e es bs ≡ refused k → left before (e ∷ es) bs ≡ refused k
  unfolding parts_from after_entry
  entry_off k q = rw (part_first (is_inside before e) e.name e.what es (parts_from (is_inside before e) es))
      (each_off stored_part (parts_from (is_inside before e) es) (part_of (is_inside before e) e.name e.what es []) bs k q)

  start_here : start_of before (e ∷ es) bs 0 ≡ bs
  unfolding start_of
  start_here = refl

  start_on : (cs : Bytes) (j : ℕ) → after_entry (is_inside before e) e es bs ≡ done cs → start_of before (e ∷ es) bs (suc j) ≡ start_of (is_inside before e) es cs j
  unfolding start_of
  start_on cs j q = rw q refl

nothing_left : (before : Bool) (bs : Bytes) → left before [] bs ≡ done bs
unfolding parts_from each
nothing_left before bs = refl

-- The walk over the body of b by the entries es: i are passed, of which each place is kept, and it stands at p.
pub record Checking (es : List Entry) (b : Bytes) (places : List ℕ) (before : Bool) (i p : ℕ) : Type 0 where
  pub upto : i ≤ length es
  pub inside : p ≤ length b
  pub rest : left before (drop i es) (drop p b) ≡ left false es (drop record_head_size b)
  pub starts : (j : ℕ) → start_of before (drop i es) (drop p b) j ≡ start_of false es (drop record_head_size b) (i + j)
  pub kept : (j : ℕ) → j < i → Starts es b places j

pub start : (es : List Entry) (b : Bytes) (places : List ℕ) → record_head_size ≤ length b → Checking es b places false 0 record_head_size
start es b places h = record {
  upto = omega arith;
  inside = h;
  rest = refl;
  starts = λ j. rw (zero-add j) refl;
  kept = λ j k. absurd (not-suc-le-zero k);
}

module _ {es : List Entry} {b : Bytes} {places : List ℕ} {before : Bool} {i p : ℕ} (c : Checking es b places before i p) (less : i < length es) (d : Entry) where
  -- The place of entry i is where the walk stands.
  here : start_of false es (drop record_head_size b) i ≡ drop p b
  here = rw add-zero at (sym (c.starts 0)) ∙ rw (drop-cons es i d less) (start_here before (get_or es i d) (drop (suc i) es) (drop p b))

  pub turn : (q : ℕ) (after : List ℕ) → get_or after i 0 ≡ p → ((j : ℕ) → j < i → get_or after j 0 ≡ get_or places j 0) → q ≤ length b
      → after_entry (is_inside before (get_or es i d)) (get_or es i d) (drop (suc i) es) (drop p b) ≡ done (drop q b)
      → Checking es b after (is_inside before (get_or es i d)) (i + 1) q
  turn q after new old h e = record {
    upto = omega arith;
    inside = h;
    rest = rw add-one (sym (entry_on before (get_or es i d) (drop (suc i) es) (drop p b) (drop q b) e) ∙ rw (drop-cons es i d less) at c.rest);
    starts = λ j. rw add-one (sym (start_on before (get_or es i d) (drop (suc i) es) (drop p b) (drop q b) j e)
        ∙ rw (drop-cons es i d less) at (c.starts (suc j)) ∙ ap (start_of false es (drop record_head_size b)) (omega arith));
    kept = λ j k. by_order j i (λ l. rw (old j l) (c.kept j l)) (λ l. let z : j ≡ i = omega arith in rw (z, new) (c.inside, sym here));
  }

  pub bad : after_entry (is_inside before (get_or es i d)) (get_or es i d) (drop (suc i) es) (drop p b) ≡ refused (by 2) → left false es (drop record_head_size b) ≡ refused (by 2)
  bad e = sym c.rest ∙ rw (drop-cons es i d less) (entry_off before (get_or es i d) (drop (suc i) es) (drop p b) (by 2) e)

pub over : {es : List Entry} {b : Bytes} {places : List ℕ} {before : Bool} {i p : ℕ} → Checking es b places before i p → length es ≤ i → left false es (drop record_head_size b) ≡ done (drop p b)
over {es} {b} {places} {before} {i} {p} c h = sym c.rest ∙ rw (drop_of_length-le es h) (nothing_left before (drop p b))
