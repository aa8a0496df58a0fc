-- The values of an MU field one after the other: each takes what its note gives, or stays as it was, and those that are left fill the room
-- that is left as all of them do from the start.
use Rattle.std.specs.Prelude.{Err, None, Ok, Result, Some}
use mathlib.Core.Path.{◌≡◌, refl, sym, ◌∙◌, subst}
use mathlib.Core.Bool.{true}
use mathlib.Core.List.{List, [], ◌∷◌, ◌++◌}
use mathlib.Core.Option.{Option}
use Prim.Native.Nat.{ℕ, suc, ◌+◌, ◌-◌, ◌≤◌, ◌<◌}
use native.Mathlib.Nat.{sub-zero}
use native.Mathlib.Omega.{arith}
use lib.ListN.{length, drop, get_or, get_or-eq_default, drop_of_length-le}
use lib.Seq.{drop-cons}
use Rattle.rules.specs.Outcome.{done}
use Rattle.rules.specs.Lists.{Bytes, join, run}
use Rattle.rules.specs.Values.{Format, null}
use Rattle.rules.specs.Record.{times, stored_value}
use Rattle.rules.specs.declared.Refusal.{Refusal}
use Rattle.records.specs.Walk.{rest_of, EndsAt}
use Rattle.records.proofs.Cells.{times_first}
use Rattle.filling.specs.Filling.{in_room, Filling, Continues}
use Rattle.filling.proofs.Continues.{continues_start}
use Rattle.updating.specs.New.{Was, Were, Old, taken, new_values}
use Rattle.updating.specs.declared.cells.Run.{Run}
use Rattle.updating.proofs.OldValues.{was_within, was_rest}
use Rattle.updating.proofs.InRoom.{run_within, run_on, run_off, runs_end}

-- The value after the first j: what it was and what it is; and the values from there on.
module _ (given : ℕ → Option Bytes) (f : Format) (size : ℕ) (vs : List Bytes) where
  abbrev old_at : ℕ → Bytes
  old_at j = get_or vs j (null f size)

  abbrev new_at : ℕ → Bytes
  new_at j = taken (given (suc j)) (old_at j)

  abbrev left_from : ℕ → ℕ → Bytes
  left_from n j = new_values given f size vs (suc j) (n - j)

  left_first : (n j : ℕ) → j < n → left_from n j ≡ new_at j ++ left_from n (suc j)
  unfolding new_values run join
  left_first n j h = let e : n - j ≡ suc (n - suc j) = omega arith in rw e refl

  left_none : (n j : ℕ) → n ≤ j → left_from n j ≡ []
  unfolding new_values run join
  left_none n j h = let e : n - j ≡ 0 = omega arith in rw e refl

  -- A loop over the values, some of which are put: the old ones after those stand at q.
  pub record Putting (b : Bytes) (run : Run) (n end start k q at : ℕ) (out₀ out : Bytes) : Type 0 where
    pub put : ℕ
    pub next : k ≡ suc put
    pub were : Were b f size q (run.count - put) (drop put vs)
    pub fits : at ≤ end
    pub room : end ≤ length out
    pub continues : Continues (in_room (end - start) (done (new_values given f size vs 1 n))) (in_room (end - at) (done (left_from n put))) start at true out₀ out

  pub putting_start : (b : Bytes) (run : Run) → Old b f size vs run → (n end at : ℕ) (out : Bytes) → at ≤ end → end ≤ length out → Putting b run n end at 1 run.from at out out
  putting_start b run x n end at out h h₂ = record {
    put = 0;
    next = refl;
    were = subst (λ (m : ℕ). Were b f size run.from m vs) (sym (sub-zero run.count)) x.were;
    fits = h;
    room = h₂;
    continues = subst (λ (m : ℕ). Continues (in_room (end - at) (done (new_values given f size vs 1 n))) (in_room (end - at) (done (new_values given f size vs 1 m))) at at true out out) (sym (sub-zero n)) (continues_start (in_room (end - at) (done (new_values given f size vs 1 n))) at true out);
  }

  -- The next value: it stands at q where the field had it, and else it is null.
  module _ {b : Bytes} {run : Run} {n end start k q at : ℕ} {out₀ out : Bytes} (g : Putting b run n end start k q at out₀ out) (x : Old b f size vs run) where
    next_there : {C : Type 0} → k ≤ run.count
        → ((mid : Bytes) → stored_value f size (drop q b) ≡ done (old_at g.put, mid) → times (run.count - suc g.put) (stored_value f size) mid ≡ done (drop (suc g.put) vs, g.were.1) → C) → C
    next_there h c =
        let j = g.put in
        let m : run.count - j ≡ suc (run.count - suc j) = omega (arith, g.next) in
        let d = drop-cons vs j (null f size) (omega (arith, g.next, x.many)) in
        times_first (stored_value f size) (run.count - suc j) (drop q b) (rw m at g.were.2) λ v ys mid e p t.
        let s : old_at j ∷ drop (suc j) vs ≡ v ∷ ys = sym d ∙ e in
        let e₁ : v ≡ old_at j = cc in
        let e₂ : ys ≡ drop (suc j) vs = cc in
        c mid (rw e₁ at p) (rw e₂ at t)

    pub stands_next : k ≤ run.count → Was b f size (old_at g.put) (Some q)
    stands_next h = next_there h λ mid p t. (g.were.0, mid, p)

    pub missing_next : run.count < k → Was b f size (old_at g.put) None
    missing_next h = get_or-eq_default vs (null f size) (omega (arith, g.next, x.many))

    -- The old values after it.
    pub were_after : k ≤ run.count → (q' : ℕ) → EndsAt b (rest_of (times 1 (stored_value f size) (drop q b))) q' → Were b f size q' (run.count - suc g.put) (drop (suc g.put) vs)
    were_after h q' e = next_there h λ mid p t.
        let w : Was b f size (old_at g.put) (Some q) = (g.were.0, mid, p) in
        (was_within b f size (old_at g.put) q w q' e, g.were.1, rw (← was_rest b f size (old_at g.put) q w q' e) t)

    pub were_none : run.count < k → Were b f size q (run.count - suc g.put) (drop (suc g.put) vs)
    unfolding times
    were_none h =
        let j = g.put in
        let m : run.count - suc j ≡ 0 = omega (arith, g.next) in
        let d = drop_of_length-le vs {i = suc j} (omega (arith, g.next, x.many)) in
        (g.were.0, drop q b, rw (m, d) refl)

  -- A turn that puts the next value, and a stop at it.
  module _ {b : Bytes} {run : Run} {n end start k q at : ℕ} {out₀ out out' : Bytes} {m : (Result ℕ Refusal)} (g : Putting b run n end start k q at out₀ out) (more : k ≤ n)
      (p : Filling (in_room (end - at) (done (taken (given k) (old_at g.put)))) at true out out' m) where
    begun : Continues (in_room (end - start) (done (new_values given f size vs 1 n))) (in_room (end - at) (done (new_at g.put ++ left_from n (suc g.put)))) start at true out₀ out
    begun = rw (← left_first n g.put (omega (arith, g.next))) g.continues

    filled : Filling (in_room (end - at) (done (new_at g.put))) at true out out' m
    filled = rw (← g.next) p

    pub putting_on : (at' : ℕ) → m ≡ Ok at' → (q' : ℕ) → Were b f size q' (run.count - suc g.put) (drop (suc g.put) vs) → Putting b run n end start (k + 1) q' at' out₀ out'
    putting_on at' e q' w =
        let j = g.put in
        let t = run_on end (new_at j) (left_from n (suc j)) begun filled g.fits g.room at' e in
        record {
          put = suc j;
          next = omega (arith, g.next);
          were = w;
          fits = (run_within end (new_at j) (left_from n (suc j)) begun filled g.fits g.room at' e).1;
          room = omega (arith, p.same, g.room);
          continues = t;
        }

    pub putting_off : (r : Refusal) → m ≡ Err r → Filling (in_room (end - start) (done (new_values given f size vs 1 n))) start true out₀ out' (Err r)
    putting_off r e = run_off end (new_at g.put) (left_from n (suc g.put)) begun filled g.fits g.room r e

  pub putting_end : {b : Bytes} {run : Run} {n end start k q at : ℕ} {out₀ out : Bytes} → Putting b run n end start k q at out₀ out → n < k
      → Filling (in_room (end - start) (done (new_values given f size vs 1 n))) start true out₀ out (Ok at)
  putting_end {n = n} {end} {at = at} g h = runs_end (end - at) g.continues (left_none n g.put (omega (arith, g.next)))
