-- A step of a walk: how `times` and `each` go on from what one reader leaves, and how they stop, the values forgotten.
use Rattle.std.specs.Prelude.{None, Option, Some}
use mathlib.Core.Path.{◌≡◌, refl, sym, ◌∙◌, ap}
use mathlib.Core.Bool.{true, false}
use mathlib.Core.List.{List, [], ◌∷◌}
use Prim.Native.Nat.{ℕ, zero, suc, ◌+◌, ◌-◌, ◌≤◌, ◌<◌}
use native.Mathlib.Omega.{arith}
use borrow.Author.Tests.{le-leb, lt-leb}
use lib.ListN.{length, drop, get_or, drop_of_length-le}
use lib.Seq.{drop-cons}
use Rattle.rules.specs.Outcome.{Refusal, Outcome, done, refused, by, ◌>>=◌}
use Rattle.rules.specs.Limits.{greatest_count}
use Rattle.rules.specs.Lists.{Bytes}
use Rattle.rules.specs.Record.{Reader, times, each, stored_count, counted}
use Rattle.rules.proofs.Steps.{done_inj, not_done, by_outcome}
use Rattle.records.specs.Walk.{rest_of, seen, Walked}

-- What a call that walked says, once its answer is known.
pub walked_at : {b : Bytes} {o : Outcome Bytes} {r : (Option ℕ)} {e : ℕ} → Walked b o r → r ≡ Some e → (o ≡ done (drop e b)) × (e ≤ length b)
walked_at {b} {o} {r} {e} w q = (sym w.answer ∙ ap (seen b) q, rw q at w.place)

pub walked_bad : {b : Bytes} {o : Outcome Bytes} {r : (Option ℕ)} → Walked b o r → r ≡ None → o ≡ refused (by 2)
walked_bad {b} {o} {r} w q = sym w.answer ∙ ap (seen b) q

pub not_at : {e : ℕ} → None ≡ Some e → ⊥
not_at {e} q = not_done (ap (seen []) q)

-- The same step, of an outcome said otherwise.
pub walked_as : {b : Bytes} {o o' : Outcome Bytes} {r : (Option ℕ)} → o' ≡ o → Walked b o r → Walked b o' r
walked_as q w = record { answer = w.answer ∙ sym q; place = w.place }

-- Forgetting what was taken goes past what is done with it.
after : {X Y Z : Type 0} (f : X → Y → Z) (x : X) (o : Outcome (Y × Bytes)) → rest_of (o >>= λ y. done (f x y.0, y.1)) ≡ rest_of o
after f x (done y) = refl
after f x (refused m) = refl

-- One reader and then another: on from what the first leaves, or its refusal.
module _ {X Y Z : Type 0} (f : X → Y → Z) (first : Outcome (X × Bytes)) (second : Reader Y) where
  abbrev both : Outcome (Z × Bytes)
  both = first >>= λ x. second x.1 >>= λ y. done (f x.0 y.0, y.1)

pub then_on : {X Y Z : Type 0} (f : X → Y → Z) (first : Outcome (X × Bytes)) (second : Reader Y) {bs : Bytes}
    → rest_of first ≡ done bs → rest_of (both f first second) ≡ rest_of (second bs)
then_on f (done x) second q = after f x.0 (second x.1) ∙ rw (done_inj q) refl
then_on f (refused m) second q = absurd (not_done q)

pub then_stop : {X Y Z : Type 0} (f : X → Y → Z) (first : Outcome (X × Bytes)) (second : Reader Y) {k : Refusal}
    → rest_of first ≡ refused k → rest_of (both f first second) ≡ refused k
then_stop f (done x) second q = absurd (not_done (sym q))
then_stop f (refused m) second q = q

module _ {X : Type 0} (one : Reader X) (n : ℕ) (bs : Bytes) where
  pub times_turn : {cs : Bytes} → rest_of (one bs) ≡ done cs → rest_of (times (suc n) one bs) ≡ rest_of (times n one cs)
  unfolding times
  times_turn q = then_on (λ x xs. x ∷ xs) (one bs) (times n one) q

  pub times_stop : {k : Refusal} → rest_of (one bs) ≡ refused k → rest_of (times (suc n) one bs) ≡ refused k
  unfolding times
  times_stop q = then_stop (λ x xs. x ∷ xs) (one bs) (times n one) q

-- One more after n of them.
pub times_more : {X : Type 0} (one : Reader X) (n : ℕ) (bs : Bytes) {cs : Bytes} {o : Outcome Bytes} → rest_of (times n one bs) ≡ done cs → rest_of (one cs) ≡ o
    → rest_of (times (suc n) one bs) ≡ o
unfolding times
times_more one zero bs q h = by_outcome (rest_of (one bs))
    (λ ds k. times_turn one 0 bs k ∙ sym k ∙ rw (done_inj q) h)
    (λ m k. times_stop one 0 bs k ∙ sym k ∙ rw (done_inj q) h)
times_more one (suc n) bs q h = by_outcome (rest_of (one bs))
    (λ ds k. times_turn one (suc n) bs k ∙ times_more one n ds (sym (times_turn one n bs k) ∙ q) h)
    (λ m k. absurd (not_done (sym (times_stop one n bs k) ∙ q)))

module _ {X Y : Type 0} (one : Y → Reader X) (y : Y) (ys : List Y) (bs : Bytes) where
  pub each_turn : {cs : Bytes} → rest_of (one y bs) ≡ done cs → rest_of (each one (y ∷ ys) bs) ≡ rest_of (each one ys cs)
  unfolding each
  each_turn q = then_on (λ x xs. x ∷ xs) (one y bs) (each one ys) q

  pub each_stop : {k : Refusal} → rest_of (one y bs) ≡ refused k → rest_of (each one (y ∷ ys) bs) ≡ refused k
  unfolding each
  each_stop q = then_stop (λ x xs. x ∷ xs) (one y bs) (each one ys) q

-- A loop over `times` in code: i of n are done, and it stands at p.
module _ {X : Type 0} (one : Reader X) (b : Bytes) (n i p : ℕ) (less : i < n) {o : Outcome Bytes} (inv : rest_of (times (n - i) one (drop p b)) ≡ o) where
  pub turn_at : (e : ℕ) → rest_of (one (drop p b)) ≡ done (drop e b) → rest_of (times (n - (i + 1)) one (drop e b)) ≡ o
  turn_at e h = let q : n - i ≡ suc (n - (i + 1)) = omega arith in sym (times_turn one (n - (i + 1)) (drop p b) h) ∙ rw q at inv

  pub turn_bad : {k : Refusal} → rest_of (one (drop p b)) ≡ refused k → refused k ≡ o
  turn_bad h = let q : n - i ≡ suc (n - (i + 1)) = omega arith in sym (times_stop one (n - (i + 1)) (drop p b) h) ∙ rw q at inv

pub turns_over : {X : Type 0} (one : Reader X) (b : Bytes) (n i p : ℕ) {o : Outcome Bytes} → n ≤ i → rest_of (times (n - i) one (drop p b)) ≡ o → done (drop p b) ≡ o
unfolding times
turns_over one b n i p h inv = let q : n - i ≡ 0 = omega arith in rw q at inv

-- What is counted: no byte, a count over its limit, a count and that many; and what is not counted.
module _ {X : Type 0} (one : Reader X) (b : Bytes) (at : ℕ) where
  pub count_missing : length b ≤ at → rest_of (counted true one (drop at b)) ≡ refused (by 2)
  unfolding counted stored_count
  count_missing h = rw (drop_of_length-le b h) refl

  pub count_over : at < length b → greatest_count < get_or b at 0 → rest_of (counted true one (drop at b)) ≡ refused (by 2)
  unfolding counted stored_count
  count_over h k = rw (drop-cons b at 0 h, lt-leb (get_or b at 0) greatest_count k) refl

  pub count_good : at < length b → get_or b at 0 ≤ greatest_count
      → rest_of (counted true one (drop at b)) ≡ rest_of (times (get_or b at 0) one (drop (suc at) b))
  unfolding counted stored_count
  count_good h k = rw (drop-cons b at 0 h, le-leb (get_or b at 0) greatest_count k) refl

  pub not_counted : rest_of (counted false one (drop at b)) ≡ rest_of (one (drop at b))
  unfolding counted times
  not_counted = single (one (drop at b))
    where
      single : (o : Outcome (X × Bytes)) → rest_of (o >>= λ x. done (x.0 ∷ [], x.1)) ≡ rest_of o
      single (done x) = refl
      single (refused m) = refl
