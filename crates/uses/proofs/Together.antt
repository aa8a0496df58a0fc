-- The entries of a span lie in one periodic group or in none: the members of a group lie where it does, and a series passes no periodic group.
use mathlib.Core.Path.{◌≡◌, refl, ap, ◌∙◌}
use mathlib.Core.Bool.{Bool, true, false, not, ◌&&◌}
use mathlib.Core.List.{List, [], ◌∷◌}
use Prim.Native.Nat.{ℕ, zero, suc, ◌+◌, ◌-◌, ◌<◌, ◌≤◌}
use native.Mathlib.Nat.{add-zero, not-suc-le-zero, le_of_suc-le-suc}
use native.Mathlib.Numerals.{add-one}
use native.Mathlib.Omega.{arith}
use borrow.Author.Tests.{ne_eqb}
use lib.Dec.{T, eqb}
use lib.ListN.{length, get_or, drop, length-drop}
use lib.Seq.{drop-drop, get_or-drop}
use Rattle.rules.specs.Outcome.{done}
use Rattle.rules.specs.Lists.{Bytes}
use Rattle.rules.specs.Table.{What, field, group, Field, Entry, inside_of}
use Rattle.rules.specs.Use.{fields_to}
use Rattle.rules.proofs.Steps.{from_bind, from_need, by_test}
use Rattle.rules.proofs.Uses.{by_what}
use Rattle.buffer.proofs.Cases.{by_order}
use Rattle.tables.specs.Entries.{Valid, entries_of, blank, is_group, is_periodic}
use Rattle.tables.specs.Places.{inside_at, Home}
use Rattle.tables.specs.Groups.{run_below, group_end}
use Rattle.tables.proofs.Tables.{valid_sound}
use Rattle.tables.proofs.Known.{level_known, member_next, one_entry, periodic_level}
use Rattle.tables.proofs.Periodic.{inside_next}
use Rattle.tables.proofs.LevelSteps.{periodic_what}
use Rattle.tables.proofs.Nesting.{members_inside, run_nil, run_deeper, run_ends, run_more, run_then}

-- A run, and what is left of it further on.
run_on : (l : ℕ) (es : List Entry) (k : ℕ) → k ≤ run_below l es → run_below l es ≡ k + run_below l (drop k es)
run_on l es zero h = omega arith
run_on l [] (suc k) h = absurd (omega (arith, run_nil l))
run_on l (e ∷ es) (suc k) h = by_order l e.level
    (λ d. let r = run_deeper l e es d in omega (arith, run_on l es k (omega arith)))
    (λ d. absurd (omega (arith, run_ends l e es d)))

-- Group i and the entries after it.
module _ (t : Bytes) (v : Valid t) (i : ℕ) (h : i < length (entries_of t)) (g : is_group (get_or (entries_of t) i blank).what ≡ true) where
  abbrev es : List Entry
  es = entries_of t

  pub group_some : i + 1 < group_end es i
  unfolding group_end
  group_some =
      let n = member_next t v i h g in
      let r = run_more es (get_or es i blank).level (suc i) n.0 (omega (arith, n.1)) in
      omega arith

  pub group_begins : is_periodic (get_or es (i + 1) blank).what ≡ false
  group_begins = by_test (is_periodic (get_or es (i + 1) blank).what)
      (λ p. let n = member_next t v i h g in
      let l : (get_or es (i + 1) blank).level ≡ suc (get_or es i blank).level = rw (add-one i) n.1 in
      absurd (omega (arith, l, periodic_level t v (i + 1) (omega (arith, n.0)) (periodic_what (get_or es (i + 1) blank).what p), (level_known t v i h).0)))
      (λ p. p)

  pub group_inside : (j : ℕ) → i ≤ j → j < group_end es i → inside_at es j ≡ inside_at es i
  group_inside = members_inside es (valid_sound t v) i (level_known t v i h).0

  pub group_together : (k : ℕ) → Home es (i + 1) k → group_end es i ≤ group_end es k
  unfolding group_end
  group_together k home =
      let n = member_next t v i h g in
      let low = (level_known t v i h).0 in
      let l : (get_or es (i + 1) blank).level ≡ suc (get_or es i blank).level = rw (add-one i) n.1 in
      by_order k (i + 1)
      (λ less.
      let d = run_on 1 (drop (suc k) es) (suc i - suc k) (omega (arith, home.within)) in
      let z : suc k + (suc i - suc k) ≡ suc i = omega arith in
      let s = run_then es 1 (get_or es i blank).level (suc i) (suc i + run_below (get_or es i blank).level (drop (suc i) es)) low refl in
      rw home.level (omega (arith, s, d, ap (run_below 1) (drop-drop (suc i - suc k) (suc k) es), ap (λ m. run_below 1 (drop m es)) z)))
      (λ more. let z : k ≡ i + 1 = omega (arith, home.upto) in absurd (omega (arith, l, home.level, ap (λ m. (get_or es m blank).level) z)))

not_this : (b y : Bool) → T (not b && y) → b ≡ false
not_this true y u = absurd u
not_this false y u = refl

-- A series passes no periodic group.
no_periodic : (n : ℕ) (es : List Entry) (fs : List Field) → fields_to n es ≡ done fs → (d : ℕ) → ((k : ℕ) → k < d → (get_or es k blank).name ≡ n → ⊥) → (k : ℕ) → k ≤ d → k < length es
    → is_periodic (get_or es k blank).what ≡ false
unfolding fields_to
no_periodic n [] fs p d other k m l = absurd (not-suc-le-zero l)
no_periodic n (x ∷ es) fs p d other zero m l = by_what x.what
    (λ f s mu q. ap is_periodic q)
    (λ b q. from_need (not b && not (eqb x.name n)) 5 _ (rw (q, fields_to) at p) λ u r. ap is_periodic q ∙ not_this b _ u)
no_periodic n (x ∷ es) fs p zero other (suc k) m l = absurd (not-suc-le-zero m)
no_periodic n (x ∷ es) fs p (suc d) other (suc k) m l = by_what x.what
    (λ f s mu q. from_need (not mu) 5 _ (rw (q, fields_to) at p) λ u r.
    let z : eqb x.name n ≡ false = ne_eqb x.name n (other 0 (omega arith)) in
    from_bind (fields_to n es) _ (rw z at r) λ gs t w. no_periodic n es gs t d (λ j a. other (suc j) (omega arith)) k (le_of_suc-le-suc m) (le_of_suc-le-suc l))
    (λ b q. from_need (not b && not (eqb x.name n)) 5 _ (rw (q, fields_to) at p) λ u r. no_periodic n es fs r d (λ j a. other (suc j) (omega arith)) k (le_of_suc-le-suc m) (le_of_suc-le-suc l))

stays_outside : (l : ℕ) (w : What) → is_periodic w ≡ false → inside_of false l w ≡ false
unfolding inside_of
stays_outside l (field f s m) e = refl
stays_outside l (group p) e = rw e refl

module _ (es : List Entry) where
  outside_on : (i m : ℕ) → inside_at es i ≡ false → ((k : ℕ) → k ≤ m → is_periodic (get_or es (i + k) blank).what ≡ false) → inside_at es (i + m) ≡ false
  outside_on i zero o p = rw (add-zero i) o
  outside_on i (suc m) o p =
      let z : i + suc m ≡ suc (i + m) = omega arith in
      let x = rw z at (p (suc m) (omega arith)) in
      rw (z, inside_next false es (i + m), outside_on i m o (λ k l. p k (omega arith))) (stays_outside (get_or es (suc (i + m)) blank).level (get_or es (suc (i + m)) blank).what x)

module _ (t : Bytes) (v : Valid t) (i j : ℕ) (h : i < length (entries_of t)) (k : j < length (entries_of t)) (o : inside_at (entries_of t) i ≡ false) (fs : List Field) where
  pub series_outside : fields_to (get_or (entries_of t) j blank).name (drop i (entries_of t)) ≡ done fs → (m : ℕ) → i ≤ m → m ≤ j → inside_at (entries_of t) m ≡ false
  series_outside d m low high =
      let es = entries_of t in
      let z : i + (m - i) ≡ m = omega arith in
      let y = outside_on es i (m - i) o λ n l.
      rw (← get_or-drop i es n blank) (no_periodic (get_or es j blank).name (drop i es) fs d (j - i)
      (λ n₁ l₁ e. omega (arith, one_entry t v (i + n₁) j (omega arith) k (rw (← get_or-drop i es n₁ blank) e)))
      n (omega arith) (omega (arith, length-drop i es))) in
      rw z at y
