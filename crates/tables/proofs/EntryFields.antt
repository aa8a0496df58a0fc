-- An entry as a field, its format as the code has it, and the fields among entries, the first before the others.
use Rattle.std.specs.Prelude.{None, Some, Option as Optional, is_none, is_some}
use Rattle.std.specs.Option.{unwrap_or}
use mathlib.Core.Path.{◌≡◌, refl, sym, ap, ◌∙◌}
use mathlib.Core.Bool.{true, false, true≢false}
use mathlib.Core.List.{List, [], ◌∷◌}
use mathlib.Core.Option.{Option}
use Prim.Native.Nat.{ℕ, ◌+◌, ◌<◌}
use native.Mathlib.Numerals.{add-one}
use lib.ListN.{length, get_or, drop}
use lib.Seq.{drop-cons}
use Rattle.rules.specs.Values.{alpha, binary, fixed, packed, unpacked}
use Rattle.rules.specs.Values as Rules
use Rattle.rules.specs.Table.{What, field, group, Entry}
use Rattle.value_formats.specs.declared.Format.{Format}
use Rattle.value_formats.specs.declared.Format.TheVariants.{Alpha, Binary, Fixed, Packed, Unpacked}
use Rattle.tables.specs.Entries.{blank, is_group, is_multiple, is_periodic, size_of, format_at, format_given, field_format, coded, format_coded, letter_coded}
use Rattle.tables.specs.Groups.{field_by, field_at, with_field, fields_in}

name_by : (n : ℕ) (w : What) → (field_by n w).name ≡ n
unfolding field_by
name_by n (field f s m) = refl
name_by n (group p) = refl

pub name_at : (es : List Entry) (i : ℕ) → (field_at es i).name ≡ (get_or es i blank).name
unfolding field_at
name_at es i = name_by (get_or es i blank).name (get_or es i blank).what

pub field_periodic : (w : What) → is_group w ≡ false → is_periodic w ≡ false
field_periodic (field f s m) e = refl
field_periodic (group p) e = absurd (true≢false e)

-- A format as the code has it, and back.
pub at_coded : (f : Rules.Format) → format_at (coded f) ≡ f
unfolding format_at
at_coded alpha = refl
at_coded binary = refl
at_coded fixed = refl
at_coded packed = refl
at_coded unpacked = refl

pub coded_at : (f : Format) → coded (format_at f) ≡ f
unfolding format_at
coded_at Alpha = refl
coded_at Binary = refl
coded_at Fixed = refl
coded_at Packed = refl
coded_at Unpacked = refl

-- Those of a letter.
pub given_coded : (r : Optional Format) (o : Option Rules.Format) → format_given r ≡ o → r ≡ letter_coded o
given_coded None o e = ap letter_coded e
given_coded (Some f) o e = ap Some (sym (coded_at f)) ∙ ap letter_coded e

pub given_field : (r : Optional Format) (o : Option Rules.Format) (w : What) → format_given r ≡ o → letter_coded o ≡ format_coded w → is_group w ≡ false
    → format_at (unwrap_or r Alpha) ≡ field_format w
given_field r o (field f s m) e q g = rw (given_coded r o e ∙ q) (at_coded f)
given_field r o (group p) e q g = absurd (true≢false g)

-- A field has a format, and a group has none.
pub field_coded : (w : What) (f : Format) → format_coded w ≡ Some f → w ≡ field (format_at f) (size_of w) (is_multiple w)
field_coded (field g s m) f e = ap (λ h. field h s m) (sym (at_coded g) ∙ ap (λ o. format_at (unwrap_or o Alpha)) e)
field_coded (group p) f e = absurd (true≢false (ap is_none e))

pub coded_field : (w : What) (f : Format) → is_group w ≡ false → format_at f ≡ field_format w → format_coded w ≡ Some f
coded_field (field g s m) f e q = ap Some (ap coded (sym q) ∙ coded_at f)
coded_field (group p) f e q = absurd (true≢false e)

pub group_coded : (w : What) → format_coded w ≡ None → is_group w ≡ true
group_coded (field g s m) e = absurd (true≢false (ap is_some e))
group_coded (group p) e = refl

-- The entries from entry i on.
pub rest_at : (es : List Entry) (i : ℕ) → i < length es → drop i es ≡ get_or es i blank ∷ drop (i + 1) es
rest_at es i h = rw add-one (drop-cons es i blank h)

pub no_fields : fields_in [] ≡ []
unfolding fields_in
no_fields = refl

pub first_field : (e : Entry) (es : List Entry) → fields_in (e ∷ es) ≡ with_field e.name e.what (fields_in es)
unfolding fields_in
first_field e es = refl
