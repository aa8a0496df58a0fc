-- Values as they were: one that stands at a place is the bytes between two places, and one that does not exist is null.
use Rattle.std.specs.Prelude.{None, Result, Some}
use Rattle.rules.specs.declared.Refusal.{Refusal}
use mathlib.Core.Path.{◌≡◌, refl, sym, ◌∙◌, ap, subst}
use mathlib.Core.Bool.{Bool}
use mathlib.Core.List.{List, [], ◌∷◌, ◌++◌, append-nil}
use mathlib.Core.Option.{Option, none, some}
use Prim.Native.Nat.{ℕ, zero, suc, ◌+◌, ◌-◌, ◌≤◌, ◌<◌}
use native.Mathlib.Nat.{sub-zero, suc-sub-suc, zero-sub}
use native.Mathlib.Numerals.{add-one}
use native.Mathlib.Omega.{arith}
use lib.ListN.{length, take, drop, get_or, replicate, length-append, length-drop}
use lib.Seq.{take_at, take-nil, drop-nil, slice}
use Rattle.rules.specs.Outcome.{done}
use Rattle.rules.specs.Limits.{greatest_count, count_size}
use Rattle.rules.specs.Lists.{Bytes, join}
use Rattle.rules.specs.Values.{Format}
use Rattle.rules.specs.Record.{times, stored_value}
use Rattle.rules.proofs.Steps.{done_inj}
use Rattle.rules.proofs.Readers.{value_sound}
use Rattle.records.specs.Walk.{rest_of, Ends, EndsAt}
use Rattle.records.proofs.Cells.{counted_many, byte_there}
use Rattle.filling.specs.Filling.{in_room, Filling}
use Rattle.updating.specs.New.{Was, Stands, Had, Old}

-- The same bytes, said otherwise.
pub filling_as : (room : ℕ) {at : ℕ} {write : Bool} {out out' x y : Bytes} {r : (Result ℕ Refusal)} → Filling (in_room room (done x)) at write out out' r → x ≡ y → Filling (in_room room (done y)) at write out out' r
filling_as room {at} {write} {out} {out'} {r = r} f e = subst (λ (b : Bytes). Filling (in_room room (done b)) at write out out' r) e f

pub bytes_between : (from upto : ℕ) (s : Bytes) → take (upto - from) (drop from s) ≡ slice from upto s
bytes_between zero upto s = ap (λ (n : ℕ). take n s) (sub-zero upto)
bytes_between (suc from) zero s = ap (λ (n : ℕ). take n (drop (suc from) s)) (zero-sub (suc from)) ∙ sym (drop-nil (suc from))
bytes_between (suc from) (suc upto) [] = take-nil (suc upto - suc from)
bytes_between (suc from) (suc upto) (x ∷ s) = ap (λ (n : ℕ). take n (drop from s)) (suc-sub-suc upto from) ∙ bytes_between from upto s

-- A value by itself is a run of one.
value_alone : (f : Format) (n : ℕ) (bs v rest : Bytes) → stored_value f n bs ≡ done (v, rest) → times 1 (stored_value f n) bs ≡ done (v ∷ [], rest)
unfolding times
value_alone f n bs v rest p = rw p refl

pub null_alone : (v : Bytes) → join (replicate 1 v) ≡ v
unfolding join
null_alone v = append-nil v

-- A value that stands at a place.
module _ (b : Bytes) (f : Format) (n : ℕ) (v : Bytes) (q : ℕ) (w : Was b f n v (Some q)) where
  alone : rest_of (times 1 (stored_value f n) (drop q b)) ≡ done w.1
  alone = ap rest_of (value_alone f n (drop q b) v w.1 w.2)

  pub was_ends : Ends (rest_of (times 1 (stored_value f n) (drop q b)))
  was_ends = (w.1, alone)

  -- It is the bytes up to where it ends.
  module _ (upto : ℕ) (e : EndsAt b (rest_of (times 1 (stored_value f n) (drop q b))) upto) where
    pub was_within : upto ≤ length b
    was_within = (e was_ends).place

    pub was_rest : w.1 ≡ drop upto b
    was_rest = done_inj (sym alone ∙ sym (e was_ends).answer)

    parted : drop q b ≡ v ++ drop upto b
    parted = value_sound f n (drop q b) v w.1 w.2 ∙ ap (λ (r : Bytes). v ++ r) was_rest

    long : length b - q ≡ length v + (length b - upto)
    long = sym (length-drop q b) ∙ ap length parted ∙ length-append v (drop upto b) ∙ ap (λ (k : ℕ). length v + k) (length-drop upto b)

    pub was_ordered : q ≤ upto
    was_ordered = let l = long in let h = w.0 in let h₂ = was_within in omega arith

    pub was_bytes : take (upto - q) (drop q b) ≡ v
    was_bytes =
        let l = long in
        let h = w.0 in
        let h₂ = was_within in
        ap (take (upto - q)) parted ∙ take_at v (drop upto b) (upto - q) (omega arith)

-- The values of a cell of an MU field stand after their count.
module _ (b : Bytes) (f : Format) (n : ℕ) (vs : List Bytes) where
  module _ (q : ℕ) (x : Had b f n vs (Some q)) where
    pub had_count : (q < length b) × (get_or b q 0 ≡ length vs) × (length vs ≤ greatest_count) × (times (length vs) (stored_value f n) (drop (q + 1) b) ≡ done (vs, x.1))
    had_count = counted_many (stored_value f n) (drop q b) x.2 λ tail h most t.
        let y = byte_there b q h in (y.0, y.1, most, rw (add-one q, ← y.2) t)

    pub had_old : {from count : ℕ} → from ≡ q + count_size → count ≡ get_or b q 0 → Old b f n vs (record { from = from; count = count })
    had_old {from} {count} e e₂ =
        let c = had_count in
        let k = e₂ ∙ c.1 in
        record { were = (omega (arith, c.0), x.1, rw (e, k) c.3); many = k; most = omega (arith, c.2) }

  pub had_none : Had b f n vs None → Old b f n vs (record { from = 0; count = 0 })
  unfolding times
  had_none x = record { were = (omega arith, b, ap (λ (us : List Bytes). done (us, b)) (sym x)); many = sym (ap length x); most = omega arith }

-- What stands on the stage, by one above its place.
pub stands_there : (stage : Bytes) (f : Format) (n : ℕ) (o : Option Bytes) (m : ℕ) → Stands stage f n o m → 0 < m → (v : Bytes) × (o ≡ some v) × Was stage f n v (Some (m - 1))
stands_there stage f n o zero t h = absurd (omega arith)
stands_there stage f n o (suc p) (v, e, w) h = let z : p ≡ suc p - 1 = omega arith in (v, e, subst (λ (q : ℕ). Was stage f n v (Some q)) z w)

pub stands_none : (stage : Bytes) (f : Format) (n : ℕ) (o : Option Bytes) (m : ℕ) → Stands stage f n o m → m ≤ 0 → o ≡ none
stands_none stage f n o zero t h = t
stands_none stage f n o (suc p) t h = absurd (omega arith)
