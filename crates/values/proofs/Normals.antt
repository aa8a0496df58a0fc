-- Bytes that are in normal form whatever they are: those of A, which blanks fill up, and those of B and F, whose digits are any bytes.
use mathlib.Core.Path.{◌≡◌, refl, sym}
use mathlib.Core.Bool.{true, false, false≢true}
use Prim.Native.Nat.{ℕ}
use native.Mathlib.Omega.{arith}
use borrow.Author.Tests.{lt-ltb, ltb-true}
use lib.Dec.{ltb}
use Rattle.rules.specs.Values.{allowed}
use Rattle.value_formats.specs.declared.Format.{Format}
use Rattle.value_formats.specs.declared.Format.TheVariants.{Alpha, Binary, Fixed, Packed, Unpacked}
use Rattle.values.specs.Formats.{format_at}
use Rattle.values.specs.Normals.{AnyNormal, any_normal}
use Rattle.values.proofs.Strip.{text_normal}
use Rattle.values.proofs.Numbered.{either}
use Rattle.binaries.proofs.Binary.{binary_normal}
use Rattle.fixed.proofs.Fixed.{fixed_normal}

-- The test: the length is not 0, and the format is A, B or F.
pub none_variable : (f : Format) (n : ℕ) → n ≡ 0 → false ≡ any_normal (format_at f) n
unfolding format_at
none_variable Alpha n z = rw z refl
none_variable Binary n z = rw z refl
none_variable Fixed n z = rw z refl
none_variable Packed n z = refl
none_variable Unpacked n z = refl

some : (n : ℕ) → (n ≡ 0 → ⊥) → true ≡ ltb 0 n
some n z = sym (lt-ltb 0 n (omega (arith, z)))

pub any_alpha : (f : Format) (n : ℕ) → f ≡ Alpha → (n ≡ 0 → ⊥) → true ≡ any_normal (format_at f) n
unfolding format_at
any_alpha f n e z = rw e (some n z)

pub any_binary : (f : Format) (n : ℕ) → f ≡ Binary → (n ≡ 0 → ⊥) → true ≡ any_normal (format_at f) n
unfolding format_at
any_binary f n e z = rw e (some n z)

pub any_fixed : (f : Format) (n : ℕ) → f ≡ Fixed → (n ≡ 0 → ⊥) → true ≡ any_normal (format_at f) n
unfolding format_at
any_fixed f n e z = rw e (some n z)

pub none_decimal : (f : Format) (n : ℕ) → (f ≡ Alpha → ⊥) → (f ≡ Binary → ⊥) → (f ≡ Fixed → ⊥) → false ≡ any_normal (format_at f) n
unfolding format_at
none_decimal Alpha n a b c = absurd (a refl)
none_decimal Binary n a b c = absurd (b refl)
none_decimal Fixed n a b c = absurd (c refl)
none_decimal Packed n a b c = refl
none_decimal Unpacked n a b c = refl

pub ruleset by_low = (none_variable, any_alpha, any_binary, any_fixed, none_decimal)

-- What passes the test is in normal form.
pub any_allowed : (f : Format) (n : ℕ) → allowed (format_at f) n ≡ true → any_normal (format_at f) n ≡ true → AnyNormal (format_at f) n
unfolding allowed format_at
any_allowed Alpha n a e = let p = ltb-true 0 n e in (p, λ bs b l. text_normal bs n (λ z. omega arith) (sym l))
any_allowed Binary n a e = let p = ltb-true 0 n e in (p, λ bs b l. binary_normal n p bs l b)
any_allowed Fixed n a e = (ltb-true 0 n e, λ bs b l. fixed_normal n (either n a) bs l b)
any_allowed Packed n a e = absurd (false≢true e)
any_allowed Unpacked n a e = absurd (false≢true e)
