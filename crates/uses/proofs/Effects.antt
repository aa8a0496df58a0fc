-- The format and the length in effect, by the code's tests.
use Rattle.std.specs.Prelude.{None, Some, Option as Optional}
use mathlib.Core.Path.{◌≡◌, refl, ap}
use mathlib.Core.Bool.{true, false, ◌&&◌}
use mathlib.Core.Option.{Option, none, some}
use Prim.Native.Nat.{ℕ}
use Rattle.rules.specs.Outcome.{done, refused, by}
use Rattle.rules.specs.Values as Rules
use Rattle.rules.specs.Values.{alpha, binary, fixed, packed, unpacked, allowed, conversion, converts}
use Rattle.rules.specs.Table.{Field, format_of}
use Rattle.rules.specs.Use.{format_in_effect, length_in_effect, Asked, asked}
use Rattle.value_formats.specs.Formats.{format_at, format_given}
use Rattle.value_formats.specs.declared.Format.{Format}
use Rattle.rules.proofs.Steps.{by_option, from_need, done_inj, not_done, T_true}
use Rattle.rules.proofs.Bools.{and_both}

pub converts_itself : (f : Rules.Format) → converts f f ≡ true
unfolding converts conversion
converts_itself alpha = refl
converts_itself binary = refl
converts_itself fixed = refl
converts_itself packed = refl
converts_itself unpacked = refl

module _ (f : Field) where
  pub letters : (b : ℕ) → format_in_effect f (some b) ≡ format_of b
  unfolding format_in_effect
  letters b = refl

  pub own_format : (g : Format) → f.format ≡ format_at g → format_in_effect f none ≡ some (format_at g)
  unfolding format_in_effect
  own_format g e = ap some e

  pub given_length : (n : ℕ) → length_in_effect f (some n) ≡ n
  unfolding length_in_effect
  given_length n = refl

  pub own_length : length_in_effect f none ≡ f.size
  unfolding length_in_effect
  own_length = refl

module _ (f : Field) (l g : Option ℕ) where
  pub asked_none : (r : Optional Format) → format_in_effect f g ≡ format_given r → r ≡ None → refused (by 5) ≡ asked f l g
  unfolding asked
  asked_none r e q = rw (rw q at e, asked)

  module _ (k : Format) (n : ℕ) (r : Optional Format) (e : format_in_effect f g ≡ format_given r) (q : r ≡ Some k) (s : length_in_effect f l ≡ n) where
    pub asked_fits : allowed (format_at k) n ≡ true → converts f.format (format_at k) ≡ true
        → done (record { field = f; format = format_at k; size = n }) ≡ asked f l g
    unfolding asked
    asked_fits a b = rw (rw q at e, asked, s, a, b)

    pub asked_long : allowed (format_at k) n ≡ false → refused (by 5) ≡ asked f l g
    unfolding asked
    asked_long a = rw (rw q at e, asked, s, a)

    pub asked_apart : allowed (format_at k) n ≡ true → converts f.format (format_at k) ≡ false → refused (by 5) ≡ asked f l g
    unfolding asked
    asked_apart a b = rw (rw q at e, asked, s, a, b)

-- What was asked is right for the field.
pub asked_right : (f : Field) (l g : Option ℕ) (a : Asked) → asked f l g ≡ done a
    → (allowed a.format a.size ≡ true) × (converts f.format a.format ≡ true)
unfolding asked
asked_right f l g a p =
    by_option (format_in_effect f g)
    (λ h e.
    from_need (allowed h (length_in_effect f l) && converts f.format h) 5 _ (rw (e, asked) at p) λ t k.
    rw (← done_inj k) (and_both (allowed h (length_in_effect f l)) (converts f.format h) (T_true _ t)))
    (λ e. absurd (not_done (rw (e, asked) at p)))

-- What settles what an element asks, and what one does that gives neither length nor format.
pub ruleset override_laws = (asked_none, asked_fits, asked_long, asked_apart)

pub ruleset standard_laws = (asked_fits, own_format, own_length, converts_itself)
