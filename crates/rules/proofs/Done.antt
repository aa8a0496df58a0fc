-- Whether an outcome was done: after a test, and after a step that cannot be refused.
use mathlib.Core.Path.{◌≡◌, refl}
use mathlib.Core.Bool.{Bool, true, false, ◌&&◌, false≢true}
use Prim.Native.Nat.{ℕ, zero, suc, ◌<◌}
use native.Mathlib.Nat.{not-suc-le-zero}
use Rattle.rules.specs.Outcome.{Outcome, done, refused, ◌>>=◌, need, is_done}
use Rattle.rules.specs.Lists.{Bytes}
use Rattle.rules.specs.Numbers.{refusal_number}
use Rattle.rules.specs.declared.Refusal.TheVariants.{OutOfRange}
use Rattle.rules.specs.Values.{with_length_byte}

pub done_some : {A : Type 0} (m : Outcome A) → is_done m ≡ true → (a : A) × (m ≡ done a)
done_some (done a) e = (a, refl)
done_some (refused n) e = absurd (false≢true e)

pub is_done_then : {A B : Type 0} (m : Outcome A) (f : A → B) → is_done (m >>= λ a. done (f a)) ≡ is_done m
is_done_then (done a) f = refl
is_done_then (refused n) f = refl

pub is_done_after : {A : Type 0} (t : Bool) (n : ℕ) (f : Unit {0} → Outcome A) → is_done (need t n >>= f) ≡ (t && is_done (f tt))
is_done_after true n f = refl
is_done_after false n f = refl

-- A number that fits, and one that does not.
pub is_done_need : {A : Type 0} (t : Bool) (a : A) → is_done (need t (refusal_number (OutOfRange 0)) >>= λ _. done a) ≡ t
is_done_need true a = refl
is_done_need false a = refl

pub done_need : {A : Type 0} (t : Bool) (a : A) → t ≡ true → (need t (refusal_number (OutOfRange 0)) >>= λ _. done a) ≡ done a
done_need true a e = refl
done_need false a e = absurd (false≢true e)

-- A length of its own has no length byte.
pub no_length_byte : (n : ℕ) (bs : Bytes) → 0 < n → with_length_byte n bs ≡ bs
unfolding with_length_byte
no_length_byte zero bs h = absurd (not-suc-le-zero h)
no_length_byte (suc n) bs h = refl
