-- What a valid table says of its entries, as callers have it: a table's bytes, and entry numbers.
use Rattle.std.specs.Prelude.{Some}
use mathlib.Core.Path.{◌≡◌, refl, ap, subst, ◌∙◌}
use mathlib.Core.Bool.{Bool, true, false, true≢false}
use mathlib.Core.List.{◌∷◌}
use Prim.Native.Nat.{ℕ, suc, ◌+◌, ◌≤◌, ◌<◌}
use lib.ListN.{length, get_or, drop}
use Rattle.rules.specs.Outcome.{done}
use Rattle.rules.specs.Limits.{deepest_level}
use Rattle.rules.specs.Lists.{Bytes}
use Rattle.rules.specs.Values.{allowed}
use Rattle.rules.specs.Table.{What, field, group, Entry, fields_below, parts_from}
use Rattle.rules.specs.Use.{find}
use Rattle.tables.specs.Entries.{Valid, entries_of, blank, is_group, is_multiple, is_periodic, format_at, field_format, size_of, decoded}
use Rattle.tables.specs.declared.Entry.{Entry as Decoded}
use Rattle.tables.specs.Places.{found_at}
use Rattle.tables.specs.Groups.{group_end}
use Rattle.tables.proofs.Names.{one_name, find_name}
use Rattle.tables.proofs.LevelSteps.{level_range, group_next}
use Rattle.tables.proofs.Partings.{parts_periodic, parts_members}
use Rattle.value_formats.specs.declared.Format.{Format}
use Rattle.tables.proofs.EntryFields.{coded_field}
use Rattle.tables.proofs.EntryBytes.{Sound}
use Rattle.tables.proofs.Tables.{valid_levels, valid_names, valid_sound}

field_allowed : (l : ℕ) (w : What) → is_group w ≡ false → Sound l w → allowed (field_format w) (size_of w) ≡ true
field_allowed l (field f s m) e k = k
field_allowed l (group p) e k = absurd (true≢false e)

-- an entry as the code has it, where its format and its length were read by themselves
abbrev pub read_apart : Entry → Format → ℕ → Decoded
read_apart e f n = record {
  name = e.name;
  level = e.level;
  format = Some f;
  size = n;
  multiple = is_multiple e.what;
  periodic = is_periodic e.what;
}

pub apart_decoded : (e : Entry) (f : Format) (n : ℕ) → is_group e.what ≡ false → format_at f ≡ field_format e.what → n ≡ size_of e.what
    → read_apart e f n ≡ decoded e
apart_decoded e f n g a b = rw (b, coded_field e.what f g a)

module _ (t : Bytes) (v : Valid t) where
  -- entries of one name are one entry
  pub one_entry : (i j : ℕ) → i < length (entries_of t) → j < length (entries_of t)
      → (get_or (entries_of t) i blank).name ≡ (get_or (entries_of t) j blank).name → i ≡ j
  one_entry = one_name (entries_of t) (valid_names t v)

  module _ (i : ℕ) (h : i < length (entries_of t)) where
    -- the name of entry i finds entry i
    pub name_finds : find (get_or (entries_of t) i blank).name (entries_of t) ≡ done (found_at (entries_of t) i)
    name_finds = find_name (entries_of t) (valid_names t v) i h

    pub level_known : (1 ≤ (get_or (entries_of t) i blank).level) × ((get_or (entries_of t) i blank).level ≤ deepest_level)
    level_known = level_range (entries_of t) (valid_levels t v) i h

    -- a field's length is one that its format allows
    pub field_known : is_group (get_or (entries_of t) i blank).what ≡ false
        → allowed (field_format (get_or (entries_of t) i blank).what) (size_of (get_or (entries_of t) i blank).what) ≡ true
    field_known e = field_allowed (get_or (entries_of t) i blank).level (get_or (entries_of t) i blank).what e (valid_sound t v i h)

    -- a periodic group has level 1
    pub periodic_level : (get_or (entries_of t) i blank).what ≡ group true → (get_or (entries_of t) i blank).level ≡ 1
    periodic_level e = subst (Sound (get_or (entries_of t) i blank).level) e (valid_sound t v i h) refl

    -- a group is followed by its first member
    pub member_next : is_group (get_or (entries_of t) i blank).what ≡ true
        → (suc i < length (entries_of t)) × ((get_or (entries_of t) (suc i) blank).level ≡ suc (get_or (entries_of t) i blank).level)
    member_next = group_next (entries_of t) (valid_levels t v) i h

    -- the part of a periodic group, and then those after its members
    pub periodic_part : (b : Bool) → (get_or (entries_of t) i blank).what ≡ group true
        → parts_from b (drop i (entries_of t))
        ≡ record { name = (get_or (entries_of t) i blank).name; periodic = true; members = fields_below 1 (drop (i + 1) (entries_of t)) }
        ∷ parts_from false (drop (group_end (entries_of t) i) (entries_of t))
    periodic_part b e =
        parts_periodic (entries_of t) i h b e
        ∙ ap (λ ps. record { name = (get_or (entries_of t) i blank).name; periodic = true; members = fields_below 1 (drop (i + 1) (entries_of t)) } ∷ ps)
        (parts_members (entries_of t) i h (valid_sound t v) (periodic_level e))
