-- A field that a span asks for, by the format and the length that the code has of its entry. Whether formats convert does not go by the direction, so what
-- a use rule tests for a read serves an update.
use mathlib.Core.Path.{◌≡◌, refl, sym, ◌∙◌, subst}
use mathlib.Core.Bool.{Bool, true, false}
use Prim.Native.Nat.{ℕ, ◌≤◌, ◌<◌}
use native.Mathlib.Omega.{arith}
use lib.ListN.{length, get_or}
use Rattle.rules.specs.Lists.{Bytes}
use Rattle.rules.specs.Values.{Format, alpha, binary, fixed, packed, unpacked, conversion, allowed, converts}
use Rattle.rules.specs.Use.{as_stored}
use Rattle.value_formats.specs.Formats.{format_at}
use Rattle.value_formats.specs.declared.Format.{Format as Coded}
use Rattle.tables.specs.Entries.{Valid, entries_of, blank, is_group, field_format, size_of}
use Rattle.tables.specs.Groups.{field_at}
use Rattle.tables.proofs.Known.{field_known}
use Rattle.uses.specs.Meant.{OneField}
use Rattle.uses.specs.declared.Span.{Span}
use Rattle.uses.proofs.Fields.{format_of_field, size_at}
use Rattle.taking.specs.Taking.{Gives, asked_given, asked_as}

conversion_turned : (f g : Format) → conversion f g ≡ conversion g f
unfolding conversion
conversion_turned alpha alpha = refl
conversion_turned alpha binary = refl
conversion_turned alpha fixed = refl
conversion_turned alpha packed = refl
conversion_turned alpha unpacked = refl
conversion_turned binary alpha = refl
conversion_turned binary binary = refl
conversion_turned binary fixed = refl
conversion_turned binary packed = refl
conversion_turned binary unpacked = refl
conversion_turned fixed alpha = refl
conversion_turned fixed binary = refl
conversion_turned fixed fixed = refl
conversion_turned fixed packed = refl
conversion_turned fixed unpacked = refl
conversion_turned packed alpha = refl
conversion_turned packed binary = refl
conversion_turned packed fixed = refl
conversion_turned packed packed = refl
conversion_turned packed unpacked = refl
conversion_turned unpacked alpha = refl
conversion_turned unpacked binary = refl
conversion_turned unpacked fixed = refl
conversion_turned unpacked packed = refl
conversion_turned unpacked unpacked = refl

converts_turned : (f g : Format) → converts f g ≡ converts g f
unfolding converts
converts_turned f g = rw (conversion_turned f g, converts)

converts_itself : (f : Format) → converts f f ≡ true
unfolding converts conversion
converts_itself alpha = refl
converts_itself binary = refl
converts_itself fixed = refl
converts_itself packed = refl
converts_itself unpacked = refl

module _ (t : Bytes) (v : Valid t) (i : ℕ) (known : i < length (entries_of t)) (single : is_group (get_or (entries_of t) i blank).what ≡ false)
    (own : Coded) (standard : ℕ) (own_is : format_at own ≡ field_format (get_or (entries_of t) i blank).what) (standard_is : standard ≡ size_of (get_or (entries_of t) i blank).what) where
  own_format : (field_at (entries_of t) i).format ≡ format_at own
  own_format = format_of_field (entries_of t) i ∙ sym own_is

  own_size : (field_at (entries_of t) i).size ≡ standard
  own_size = size_at (entries_of t) i ∙ sym standard_is

  own_good : allowed (format_at own) standard ≡ true
  own_good = rw (own_is, standard_is) (field_known t v i known single)

  -- At a format and a length that are right for it.
  pub gives_at : (format : Coded) (size : ℕ) (bare : Bool) → allowed (format_at format) size ≡ true → converts (format_at own) (format_at format) ≡ true
      → Gives (entries_of t) (record { entry = i; format = format; size = size; own = own; standard = standard; bare = bare })
  gives_at format size bare good turned = record {
    entry = known;
    field = single;
    own = own_format;
    standard = own_size;
    own_allowed = own_good;
    size = good;
    converts = converts_turned (format_at format) (format_at own) ∙ turned;
  }

  pub gives_stored : (bare : Bool) → Gives (entries_of t) (record { entry = i; format = own; size = standard; own = own; standard = standard; bare = bare })
  gives_stored bare = gives_at own standard bare own_good (converts_itself (format_at own))

  pub asks_stored : (s : Span) (bare : Bool) → s.standard ≡ true
      → asked_given (entries_of t) (record { entry = i; format = own; size = standard; own = own; standard = standard; bare = bare })
      ≡ asked_as s.standard s (field_at (entries_of t) i)
  unfolding as_stored
  asks_stored s bare whole = rw (whole, own_format, own_size)

  -- The one field of a span, at the format and the length in effect.
  pub gives_one : (s : Span) → OneField (entries_of t) s → s.first ≤ i → i < s.end → (bare : Bool)
      → Gives (entries_of t) (record { entry = i; format = s.format; size = s.size; own = own; standard = standard; bare = bare })
  gives_one s one low high bare =
      let here : s.first ≡ i = omega (arith, one.next) in
      gives_at s.format s.size bare one.allowed
      (subst (λ (f : Format). converts f (format_at s.format) ≡ true) own_format (subst (λ (j : ℕ). converts (field_at (entries_of t) j).format (format_at s.format) ≡ true) here one.converts))
