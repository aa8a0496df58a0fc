-- The way from an entry back to its entry of level 1: what holds at each step of it, and at its end; by it what lies in a periodic group has one.
use mathlib.Core.Path.{◌≡◌, refl, sym, ◌∙◌}
use mathlib.Core.Bool.{Bool, true, false, false≢true}
use mathlib.Core.List.{List}
use Prim.Native.Nat.{ℕ, zero, suc, ◌+◌, ◌-◌, ◌≤◌, ◌<◌}
use native.Mathlib.Nat.{not-suc-le-zero}
use native.Mathlib.Numerals.{add-one}
use native.Mathlib.Omega.{arith}
use lib.ListN.{length, get_or, drop}
use Rattle.std.specs.Bool.{then_some}
use Rattle.rules.specs.Table.{Entry, levels, group}
use Rattle.rules.proofs.Steps.{by_test}
use Rattle.buffer.proofs.Cases.{by_order}
use Rattle.tables.specs.Entries.{blank, is_periodic}
use Rattle.tables.specs.Places.{inside_at, Home, Homes}
use Rattle.tables.specs.Groups.{run_below}
use Rattle.tables.proofs.EntryBytes.{Sound}
use Rattle.tables.proofs.Periodic.{inside_up, inside_one}
use Rattle.tables.proofs.LevelSteps.{periodic_what, level_range, first_level}
use Rattle.tables.proofs.Nesting.{run_more}

pub record Climb (es : List Entry) (i j : ℕ) : Type 0 where
  pub upto : j ≤ i
  pub within : i ≤ j + run_below 1 (drop (suc j) es)
  pub inside : inside_at es j ≡ inside_at es i

pub climb_start : (es : List Entry) (i : ℕ) → Climb es i i
climb_start es i = record { upto = omega arith; within = omega arith; inside = refl }

up : (es : List Entry) (i k : ℕ) → suc k < length es → 1 < (get_or es (suc k) blank).level → Sound (get_or es (suc k) blank).level (get_or es (suc k) blank).what
    → Climb es i (suc k) → Climb es i k
up es i k h l s c =
    let m : run_below 1 (drop (suc k) es) ≡ suc (run_below 1 (drop (suc (suc k)) es)) = rw add-one at (run_more es 1 (suc k) h l) in
    record { upto = omega (arith, c.upto); within = omega (arith, c.within); inside = sym (inside_up es k l s) ∙ c.inside }

pub climb_up : (es : List Entry) (i j : ℕ) → 1 ≤ j → j < length es → 1 < (get_or es j blank).level → Sound (get_or es j blank).level (get_or es j blank).what
    → Climb es i j → Climb es i (j - 1)
climb_up es i zero p h l s c = absurd (not-suc-le-zero p)
climb_up es i (suc k) p h l s c = let e : suc k - 1 ≡ k = omega arith in rw e (up es i k h l s c)

pub climb_home : (es : List Entry) (i j : ℕ) → Climb es i j → (get_or es j blank).level ≡ 1 → is_periodic (get_or es j blank).what ≡ true → Home es i j
climb_home es i j c l p = record {
  upto = c.upto;
  level = l;
  periodic = periodic_what (get_or es j blank).what p;
  within = c.within;
  inside = sym c.inside ∙ inside_one es j (omega arith) ∙ p;
}

pub climb_none : (es : List Entry) (i j : ℕ) → Climb es i j → (get_or es j blank).level ≡ 1 → is_periodic (get_or es j blank).what ≡ false
    → inside_at es i ≡ false
climb_none es i j c l p = sym c.inside ∙ inside_one es j (omega arith) ∙ p

-- the same of an answer that a test makes
pub climb_answer : (es : List Entry) (i j : ℕ) (p : Bool) → Climb es i j → (get_or es j blank).level ≡ 1 → p ≡ is_periodic (get_or es j blank).what
    → Homes es i (then_some p j)
climb_answer es i j true c l q = climb_home es i j c l (sym q)
climb_answer es i j false c l q = climb_none es i j c l (sym q)

-- an entry that has not level 1 is not the first
pub not_first : (es : List Entry) → levels (group false) 0 es ≡ true → (j : ℕ) → ((get_or es j blank).level ≡ 1 → ⊥) → 1 ≤ j
not_first es v zero h = absurd (h (first_level es v))
not_first es v (suc j) h = omega arith

-- the periodic group in which an entry lies
module _ (es : List Entry) (v : levels (group false) 0 es ≡ true) (sound : (k : ℕ) → k < length es → Sound (get_or es k blank).level (get_or es k blank).what)
    (i : ℕ) (less : i < length es) (inside : inside_at es i ≡ true) where
  ends : (j : ℕ) → Climb es i j → (get_or es j blank).level ≡ 1 → (g : ℕ) × Home es i g
  ends j c l = by_test (is_periodic (get_or es j blank).what)
      (λ p. (j, climb_home es i j c l p))
      (λ p. absurd (false≢true (sym (climb_none es i j c l p) ∙ inside)))

  climbs : (j : ℕ) → Climb es i j → (g : ℕ) × Home es i g
  climbs zero c = ends zero c (first_level es v)
  climbs (suc j) c =
      let h : suc j < length es = omega (arith, c.upto) in
      by_order 1 (get_or es (suc j) blank).level
      (λ deep. climbs j (up es i j h deep (sound (suc j) h) c))
      (λ top. ends (suc j) c (omega (arith, (level_range es v (suc j) h).0)))

  pub homed : (g : ℕ) × Home es i g
  homed = climbs i (climb_start es i)

-- what the way back cites
pub ruleset climb_steps = (climb_start, climb_up, climb_answer, not_first, level_range)
