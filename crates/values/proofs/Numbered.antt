-- Formats one by one: which each is, the lengths that are allowed, and which convert.
use mathlib.Core.Path.{◌≡◌, refl, sym, ◌∙◌, ap}
use mathlib.Core.Bool.{Bool, true, false, ◌&&◌, ◌||◌, false≢true}
use mathlib.Core.Logic.{◌⊎◌}
use Prim.Native.Nat.{ℕ, ◌<◌, ◌≤◌}
use native.Mathlib.Omega.{arith}
use denote.Enum.Bare.{sameb, same_true, same_false}
use lib.Dec.{eqb, leb, leb→le}
use borrow.Author.Tests.{leb-true}
use Rattle.std.proofs.lemmas.Bool.Decides.{nat_tests}
use Rattle.rules.specs.Limits.{longest_alpha, longest_unpacked}
use Rattle.rules.specs.Values.{Format as Meant, alpha, binary, fixed, packed, unpacked, allowed, Kind, never, every, word, natural, conversion, converts}
use Rattle.rules.proofs.Steps.{and_left, true_T}
use Rattle.decimals.specs.Decimals.{decimal_format}
use Rattle.value_formats.specs.contracts.Format.{the_type}
use Rattle.value_formats.specs.declared.Format.{Format}
use Rattle.value_formats.specs.declared.Format.TheVariants.{Alpha, Binary, Fixed, Packed, Unpacked}
use Rattle.values.specs.Formats.{format_at, range_kind}

pub at_alpha : (f : Format) → f ≡ Alpha → format_at f ≡ alpha
unfolding format_at
at_alpha f e = rw e

pub at_binary : (f : Format) → f ≡ Binary → format_at f ≡ binary
unfolding format_at
at_binary f e = rw e

pub at_fixed : (f : Format) → f ≡ Fixed → format_at f ≡ fixed
unfolding format_at
at_fixed f e = rw e

pub at_packed : (f : Format) → f ≡ Packed → format_at f ≡ decimal_format true
unfolding format_at decimal_format
at_packed f e = rw e

pub at_unpacked : (f : Format) → f ≡ Unpacked → format_at f ≡ decimal_format false
unfolding format_at decimal_format
at_unpacked f e = rw e

-- P and U are what decimals call by whether it is P.
pub at_decimal : (f : Format) → (f ≡ Alpha → ⊥) → (f ≡ Binary → ⊥) → (f ≡ Fixed → ⊥) → format_at f ≡ decimal_format (sameb the_type f Packed)
unfolding format_at decimal_format
at_decimal Alpha a b c = absurd (a refl)
at_decimal Binary a b c = absurd (b refl)
at_decimal Fixed a b c = absurd (c refl)
at_decimal Packed a b c = refl
at_decimal Unpacked a b c = refl

-- What a test against a format tells.
pub is_alpha : (f : Format) → sameb the_type f Alpha ≡ true → f ≡ Alpha
is_alpha f e = same_true the_type tt f Alpha e

pub not_alpha : (f : Format) → sameb the_type f Alpha ≡ false → f ≡ Alpha → ⊥
not_alpha f e = same_false the_type f Alpha e

pub is_packed : (f : Format) → sameb the_type f Packed ≡ true → f ≡ Packed
is_packed f e = same_true the_type tt f Packed e

pub not_packed : (f : Format) → sameb the_type f Packed ≡ false → f ≡ Packed → ⊥
not_packed f e = same_false the_type f Packed e

-- A length from 1 on.
pub from_one : (n m : ℕ) → (leb 1 n && leb n m) ≡ true → 0 < n
from_one n m e = leb→le 1 n (and_left (leb 1 n) (leb n m) (true_T e))

up_to : (n m : ℕ) → (leb 1 n && leb n m) ≡ true → n ≤ m
up_to n m e = grind (arith, nat_tests)

pub either : (n : ℕ) → (eqb n 2 || eqb n 4) ≡ true → (n ≡ 2) ⊎ (n ≡ 4)
either n e = grind (arith, nat_tests)

some_fixed : (n : ℕ) → (eqb n 2 || eqb n 4) ≡ true → (0 < n) × (n ≤ 4)
some_fixed n e = grind (arith, nat_tests)

-- Lengths that are allowed.
pub some_size : (f : Format) (n : ℕ) → allowed (format_at f) n ≡ true → (f ≡ Alpha → ⊥) → 0 < n
unfolding allowed format_at
some_size Alpha n a p = absurd (p refl)
some_size Binary n a p = from_one n _ a
some_size Fixed n a p = (some_fixed n a).0
some_size Packed n a p = from_one n _ a
some_size Unpacked n a p = from_one n _ a

pub longest_size : (f : Format) (n : ℕ) → allowed (format_at f) n ≡ true → n ≤ longest_alpha
unfolding allowed format_at
longest_size Alpha n a = leb-true n longest_alpha a
longest_size Binary n a = omega (arith, up_to n _ a)
longest_size Fixed n a = omega (arith, (some_fixed n a).1)
longest_size Packed n a = omega (arith, up_to n _ a)
longest_size Unpacked n a = omega (arith, up_to n _ a)

-- P is the shorter of the two.
pub longest_either : (b : Bool) (n : ℕ) → allowed (decimal_format b) n ≡ true → n ≤ longest_unpacked
unfolding allowed decimal_format
longest_either true n a = omega (arith, up_to n _ a)
longest_either false n a = omega (arith, up_to n _ a)

pub longest_decimal : (f : Format) (n : ℕ) → allowed (format_at f) n ≡ true → (f ≡ Alpha → ⊥) → (f ≡ Binary → ⊥) → (f ≡ Fixed → ⊥) → n ≤ longest_unpacked
longest_decimal f n a x y z = longest_either (sameb the_type f Packed) n (rw (at_decimal f x y z) at a)

pub two_four : (f : Format) (n : ℕ) → f ≡ Fixed → allowed (format_at f) n ≡ true → (n ≡ 2) ⊎ (n ≡ 4)
unfolding allowed format_at
two_four f n e a = either n (rw e at a)

-- Every value converts of a format to itself, and between P and U.
is_every : Kind → Bool
is_every never = false
is_every every = true
is_every word = false
is_every natural = false

not_every : (k : Kind) → is_every k ≡ false → k ≡ every → ⊥
unfolding is_every
not_every k h e = false≢true (sym h ∙ ap is_every e)

pub every_alpha : (g : Format) → conversion alpha (format_at g) ≡ every → g ≡ Alpha
unfolding is_every conversion format_at
every_alpha Alpha e = refl
every_alpha Binary e = absurd (not_every _ refl e)
every_alpha Fixed e = absurd (not_every _ refl e)
every_alpha Packed e = absurd (not_every _ refl e)
every_alpha Unpacked e = absurd (not_every _ refl e)

pub every_from_alpha : (f : Format) → conversion (format_at f) alpha ≡ every → f ≡ Alpha
unfolding is_every conversion format_at
every_from_alpha Alpha e = refl
every_from_alpha Binary e = absurd (not_every _ refl e)
every_from_alpha Fixed e = absurd (not_every _ refl e)
every_from_alpha Packed e = absurd (not_every _ refl e)
every_from_alpha Unpacked e = absurd (not_every _ refl e)

pub every_binary : (g : Format) → conversion binary (format_at g) ≡ every → g ≡ Binary
unfolding is_every conversion format_at
every_binary Alpha e = absurd (not_every _ refl e)
every_binary Binary e = refl
every_binary Fixed e = absurd (not_every _ refl e)
every_binary Packed e = absurd (not_every _ refl e)
every_binary Unpacked e = absurd (not_every _ refl e)

pub every_fixed : (g : Format) → conversion fixed (format_at g) ≡ every → g ≡ Fixed
unfolding is_every conversion format_at
every_fixed Alpha e = absurd (not_every _ refl e)
every_fixed Binary e = absurd (not_every _ refl e)
every_fixed Fixed e = refl
every_fixed Packed e = absurd (not_every _ refl e)
every_fixed Unpacked e = absurd (not_every _ refl e)

pub every_decimal : (b : Bool) (g : Format) → conversion (decimal_format b) (format_at g) ≡ every → format_at g ≡ decimal_format (sameb the_type g Packed)
unfolding is_every conversion format_at decimal_format
every_decimal true Alpha e = absurd (not_every _ refl e)
every_decimal true Binary e = absurd (not_every _ refl e)
every_decimal true Fixed e = absurd (not_every _ refl e)
every_decimal true Packed e = refl
every_decimal true Unpacked e = refl
every_decimal false Alpha e = absurd (not_every _ refl e)
every_decimal false Binary e = absurd (not_every _ refl e)
every_decimal false Fixed e = absurd (not_every _ refl e)
every_decimal false Packed e = refl
every_decimal false Unpacked e = refl

through_word : Kind → Bool
through_word never = false
through_word every = false
through_word word = true
through_word natural = true

from_alpha : (g : Meant) → through_word (conversion alpha g) ≡ false
unfolding through_word conversion
from_alpha alpha = refl
from_alpha binary = refl
from_alpha fixed = refl
from_alpha packed = refl
from_alpha unpacked = refl

to_alpha : (f : Meant) → through_word (conversion f alpha) ≡ false
unfolding through_word conversion
to_alpha alpha = refl
to_alpha binary = refl
to_alpha fixed = refl
to_alpha packed = refl
to_alpha unpacked = refl

not_ranged : (k : Kind) (b : Bool) → through_word k ≡ false → k ≡ range_kind b → ⊥
unfolding through_word
not_ranged k true h e = false≢true (sym h ∙ ap through_word e)
not_ranged k false h e = false≢true (sym h ∙ ap through_word e)

module _ (from to : Format) (b : Bool) (e : conversion (format_at from) (format_at to) ≡ range_kind b) where
  pub ranged_from : from ≡ Alpha → ⊥
  ranged_from z = not_ranged _ b (from_alpha (format_at to)) (rw (at_alpha from z) at e)

  pub ranged_to : to ≡ Alpha → ⊥
  ranged_to z = not_ranged _ b (to_alpha (format_at from)) (rw (at_alpha to z) at e)

-- A converts with A alone.
pub alpha_alone : (g : Meant) → converts alpha g ≡ true → g ≡ alpha
unfolding converts conversion
alpha_alone alpha e = refl
alpha_alone binary e = absurd (false≢true e)
alpha_alone fixed e = absurd (false≢true e)
alpha_alone packed e = absurd (false≢true e)
alpha_alone unpacked e = absurd (false≢true e)
