-- From a format to the functions of that format: what these ask, and what they answer.
use Rattle.std.specs.Prelude.{None, Some}
use mathlib.Core.Path.{◌≡◌, refl, sym, ◌∙◌, ap}
use mathlib.Core.Bool.{Bool, true, false, ◌&&◌}
use mathlib.Core.Logic.{◌⊎◌, ⊎_elim}
use Prim.Native.Nat.{ℕ, ◌+◌, ◌-◌, ◌*◌, ◌^◌, ◌≤◌, ◌<◌}
use native.Mathlib.Omega.{arith}
use denote.Enum.Bare.{sameb, same_false}
use lib.ListN.{length}
use borrow.Author.Tests.{le-leb}
use Rattle.std.proofs.lemmas.Bool.Decides.{nat_tests}
use Rattle.rules.specs.Outcome.{Outcome, done, refused, by, is_done}
use Rattle.rules.specs.Limits.{longest_alpha, longest_unpacked, lowest_word}
use Rattle.rules.specs.Lists.{Bytes, bytes_of, spelled}
use Rattle.rules.specs.Values.{alpha, binary, fixed, number, allowed, Kind, every, word, natural, conversion, meaning, normal, converted_bytes, in_normal_form, twos_complement, in_range}
use Rattle.buffer.proofs.Cases.{by_order}
use Rattle.fixed.specs.Words.{signed_value, word_of, value_of}
use Rattle.fixed.specs.declared.Signed.{Signed}
use Rattle.rules.proofs.Digits.{Below}
use Rattle.fixed.proofs.Fixed.{twos_plus, twos_minus, fixed_normal}
use Rattle.binaries.proofs.Binary.{binary_normal}
use Rattle.decimals.specs.Decimals.{decimal_format}
use Rattle.values.specs.Formats.{format_at, range_kind}
use Rattle.values.specs.Fits.{Convertible, Converting, converted_length}
use Rattle.value_formats.specs.contracts.Format.{the_type}
use Rattle.value_formats.specs.declared.Format.{Format}
use Rattle.value_formats.specs.declared.Format.TheVariants.{Alpha, Binary, Fixed, Packed, Unpacked}
use Rattle.values.proofs.Numbered.{at_alpha, at_binary, at_fixed, at_packed, at_unpacked, at_decimal, some_size, longest_size, longest_either, longest_decimal, two_four, every_alpha, every_from_alpha, every_binary, every_fixed, every_decimal, ranged_from, ranged_to}
use Rattle.values.proofs.Converted.{no_fit, done_bytes, every_converted, converted_size, carried_size_is, ranged_done, out_of_range, converted_range, converted_normal, word_number, word_outside, minus_range, plus_range, size_0, size_n}

-- A, B and F mean something whatever the bytes.
pub low_value : (f : Format) (s : Bytes) → (f ≡ Packed → ⊥) → (f ≡ Unpacked → ⊥) → is_done (meaning (format_at f) s) ≡ true
unfolding meaning format_at
low_value Alpha s p u = refl
low_value Binary s p u = refl
low_value Fixed s p u = refl
low_value Packed s p u = absurd (p refl)
low_value Unpacked s p u = absurd (u refl)

-- Every value of F is a word.
number_inj : {b c : Bool} {m n : ℕ} → number b m ≡ number c n → m ≡ n
number_inj e = cc

half_room : (n : ℕ) → (n ≡ 2) ⊎ (n ≡ 4) → (2 ^ (8 * n - 1) ≤ lowest_word) × (2 ^ (8 * n) ≡ 2 ^ (8 * n - 1) + 2 ^ (8 * n - 1))
half_room n o = ⊎_elim (λ e. rw e (omega arith, refl)) (λ e. rw e (omega arith, refl)) o

fixed_small : (n x : ℕ) (v : Signed) → (n ≡ 2) ⊎ (n ≡ 4) → signed_value v ≡ twos_complement n x → v.magnitude ≤ lowest_word
fixed_small n x v o e =
    let r = half_room n o in
    by_order x (2 ^ (8 * n - 1))
    (λ h. let m = number_inj (e ∙ twos_plus n x h) in omega (arith, r.0))
    (λ h. let m = number_inj (e ∙ twos_minus n x h) in omega (arith, r.0, r.1))

pub fixed_word_is : (s : Bytes) (v : Signed) → (length s ≡ 2) ⊎ (length s ≡ 4) → done (signed_value v) ≡ meaning fixed s
    → Some v ≡ word_of (value_of (meaning fixed s))
unfolding meaning value_of word_of
fixed_word_is s v o e =
    let q : signed_value v ≡ twos_complement (length s) (spelled 256 s 0) = ap value_of e in
    rw (← q, le-leb v.magnitude lowest_word (fixed_small (length s) (spelled 256 s 0) v o q))

-- Every value converts: the formats are the same, or both decimal.
module _ {from to : Format} {n : ℕ} {s : Bytes} (a : Convertible from to n s) (c : conversion (format_at from) (format_at to) ≡ every) where
  pub number_there : (from ≡ Alpha → ⊥) → to ≡ Alpha → ⊥
  number_there p e = p (every_from_alpha from (rw (at_alpha to e) at c))

  alpha_there : from ≡ Alpha → to ≡ Alpha
  alpha_there e = every_alpha to (rw (at_alpha from e) at c)

  binary_there : from ≡ Binary → to ≡ Binary
  binary_there e = every_binary to (rw (at_binary from e) at c)

  is_fixed : from ≡ Fixed → to ≡ Fixed
  is_fixed e = every_fixed to (rw (at_fixed from e) at c)

  pub as_alpha : from ≡ Alpha → converted_bytes alpha alpha n s ≡ converted_bytes (format_at from) (format_at to) n s
  as_alpha e = rw (at_alpha from e, at_alpha to (alpha_there e))

  pub as_binary : from ≡ Binary → converted_bytes binary binary n s ≡ converted_bytes (format_at from) (format_at to) n s
  as_binary e = rw (at_binary from e, at_binary to (binary_there e))

  pub fixed_there : from ≡ Fixed → (n ≡ 2) ⊎ (n ≡ 4)
  fixed_there e = two_four to n (is_fixed e) a.length_there

  pub as_fixed : (v : Signed) → from ≡ Fixed → done (signed_value v) ≡ meaning fixed s → normal fixed n (signed_value v) ≡ converted_bytes (format_at from) (format_at to) n s
  unfolding conversion
  as_fixed v e m = rw (at_fixed from e, at_fixed to (is_fixed e)) (sym (every_converted fixed fixed n s refl (sym m)))

  module _ (x : from ≡ Alpha → ⊥) (y : from ≡ Binary → ⊥) (z : from ≡ Fixed → ⊥) where
    decimal_from : format_at from ≡ decimal_format (sameb the_type from Packed)
    decimal_from = at_decimal from x y z

    decimal_to : format_at to ≡ decimal_format (sameb the_type to Packed)
    decimal_to = every_decimal (sameb the_type from Packed) to (rw decimal_from at c)

    pub as_decimal : converted_bytes (decimal_format (sameb the_type from Packed)) (decimal_format (sameb the_type to Packed)) n s ≡ converted_bytes (format_at from) (format_at to) n s
    as_decimal = rw (decimal_from, decimal_to)

    pub decimal_value : is_done (meaning (decimal_format (sameb the_type from Packed)) s) ≡ true
    decimal_value = rw decimal_from at a.value

    pub decimal_sizes : (length s ≤ longest_alpha) × (0 < n) × (n ≤ longest_unpacked)
    decimal_sizes = (
      longest_size from (length s) a.size,
      some_size to n a.length_there (number_there x),
      longest_either (sameb the_type to Packed) n (rw decimal_to at a.length_there),
    )

-- A value that is a word, converted through it.
module _ {from to : Format} {n : ℕ} {s : Bytes} (a : Convertible from to n s) (b : Bool) (c : conversion (format_at from) (format_at to) ≡ range_kind b) where
  pub word_source : (from ≡ Alpha → ⊥) × (allowed (format_at from) (length s) ≡ true) × (is_done (meaning (format_at from) s) ≡ true)
  word_source = (ranged_from from to b c, a.size, a.value)

  pub word_beyond : word_of (value_of (meaning (format_at from) s)) ≡ None → is_done (converted_bytes (format_at from) (format_at to) n s) ≡ false
  word_beyond w =
      out_of_range (format_at from) (format_at to) n s a.value (range_kind b) c (word_outside (value_of (meaning (format_at from) s)) b w)

  module _ {v : Signed} (w : word_of (value_of (meaning (format_at from) s)) ≡ Some v) where
    is_word : value_of (meaning (format_at from) s) ≡ signed_value v
    is_word = (word_number (value_of (meaning (format_at from) s)) v w).0

    pub word_asked : (v.magnitude ≤ lowest_word) × (to ≡ Alpha → ⊥) × (allowed (format_at to) n ≡ true)
    word_asked = ((word_number (value_of (meaning (format_at from) s)) v w).1, ranged_to from to b c, a.length_there)

    pub word_done : (in_range (range_kind b) (signed_value v) && is_done (normal (format_at to) n (signed_value v))) ≡ is_done (converted_bytes (format_at from) (format_at to) n s)
    word_done = sym (rw is_word at (ranged_done (format_at from) (format_at to) n s a.value (range_kind b) c))

    pub word_written : is_done (converted_bytes (format_at from) (format_at to) n s) ≡ true → converted_bytes (format_at from) (format_at to) n s ≡ normal (format_at to) n (signed_value v)
    word_written d =
        rw is_word at
        (converted_normal (format_at from) (format_at to) n s a.value (range_kind b) c
        (converted_range (format_at from) (format_at to) n s a.value (range_kind b) c d))

-- A value that is asked for is refused with 9, or as long as its length says.
module _ {from to : Format} {n : ℕ} {s : Bytes} (a : Convertible from to n s) where
  abbrev there : Outcome Bytes
  there = converted_bytes (format_at from) (format_at to) n s

  pub asked_refused : is_done there ≡ false → there ≡ refused (by 9)
  asked_refused d = no_fit (format_at from) (format_at to) n s a.value d

  pub asked_bytes : is_done there ≡ true → (there ≡ done (bytes_of there)) × (converted_length n s ≡ length (bytes_of there))
  asked_bytes d = (done_bytes there d, carried_size_is (format_at from) (format_at to) n s a.length_there d)

  pub asked_number : (to ≡ Alpha → ⊥) → is_done there ≡ true → (there ≡ done (bytes_of there)) × (n ≡ length (bytes_of there))
  asked_number p d = (done_bytes there d, sym (converted_size (format_at from) (format_at to) n s d (some_size to n a.length_there p)))

-- The room for a number.
pub converting_room : {from to : Format} {n : ℕ} {s : Bytes} {at room : ℕ} → Converting from to n s at room → (to ≡ Alpha → ⊥) → at + n ≤ room
converting_room {from} {to} {n} {s} {at} {room} c p =
    let q = converted_size (format_at from) (format_at to) n s c.fits (some_size to n c.asked.length_there p) in
    rw q at c.enough

pub which : {k : Kind} → (k ≡ word) ⊎ (k ≡ natural) → (b : Bool) × (k ≡ range_kind b)
which o = ⊎_elim (λ e. (false, e)) (λ e. (true, e)) o

-- The length of a value that has one.
pub own_length : (n m : ℕ) → ((n ≡ 0) × (m ≤ longest_alpha)) ⊎ (n ≡ m) → 0 < n → n ≡ m
own_length n m o h = ⊎_elim (λ z. absurd (omega (arith, z.0))) (λ e. e) o

not_alpha_binary : Alpha ≡ Binary → ⊥
not_alpha_binary = same_false the_type Alpha Binary refl

pub low_normal : (f : Format) (n : ℕ) (s : Bytes) → (f ≡ Binary) ⊎ (f ≡ Fixed) → allowed (format_at f) n ≡ true → n ≡ length s → Below 256 s
    → in_normal_form (format_at f) n s ≡ true
low_normal f n s o a e b =
    ⊎_elim
    (λ q. rw (at_binary f q) (binary_normal n (some_size f n a (λ z. not_alpha_binary (sym z ∙ q))) s (sym e) b))
    (λ q. rw (at_fixed f q) (fixed_normal n (two_four f n q a) s (sym e) b))
    o

-- What formats say where one format's function is called.
pub ruleset by_format = (nat_tests, at_alpha, at_binary, at_fixed, at_packed, at_unpacked, at_decimal, two_four, some_size, longest_size, longest_decimal, low_value, fixed_word_is)

-- The same of a value that converts whatever it is.
pub ruleset by_every = (by_format, as_alpha, as_binary, as_fixed, as_decimal, fixed_there, decimal_value, decimal_sizes, converting_room, number_there, minus_range, plus_range, size_0, size_n)
