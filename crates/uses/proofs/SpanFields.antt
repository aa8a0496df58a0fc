-- The items of a span, for code that walks them: its fields an entry at a time. The laws of ranges in `rules` do the rest.
use mathlib.Core.Path.{◌≡◌, refl, ◌∙◌}
use mathlib.Core.Bool.{Bool, true, false, true≢false, false≢true}
use mathlib.Core.List.{List, [], ◌∷◌, map}
use Prim.Native.Nat.{ℕ, suc, ◌+◌, ◌-◌, ◌<◌, ◌≤◌}
use native.Mathlib.Numerals.{add-one}
use native.Mathlib.Omega.{arith}
use lib.ListN.{length, get_or, take, drop}
use lib.Seq.{drop-cons}
use Rattle.rules.specs.Lists.{Bytes}
use Rattle.rules.specs.Table.{What, field, group, Field, Entry}
use Rattle.rules.specs.Use.{as_stored, value_items, items_of}
use Rattle.tables.specs.Entries.{blank, is_group}
use Rattle.tables.specs.Groups.{field_by, field_at, with_field}
use Rattle.format_buffer.specs.Elements.{range}
use Rattle.uses.specs.Meant.{asked_by, asked_of, fields_from, use_meant}
use Rattle.uses.specs.declared.Span.{Span}
use Rattle.uses.specs.declared.Use.TheVariants.{Values}
use Rattle.tables.proofs.EntryFields.{no_fields, first_field}

pub span_items : (es : List Entry) (f : Bytes) (s : Span)
    → items_of (use_meant es f (Values s)) ≡ value_items (asked_of es s) (range s.from s.upto) (range s.value_from s.value_upto) s.bare
unfolding items_of
span_items es f s = refl

-- One field, or each as it is stored.
pub asked_one : (es : List Entry) (s : Span) (b : Bool) → b ≡ false → asked_by es b s ≡ asked_by es false s
asked_one es s b e = rw e

pub asked_stored : (es : List Entry) (s : Span) (b : Bool) → b ≡ true → asked_by es b s ≡ map as_stored (fields_from es s.first s.end)
asked_stored es s b e = rw e

with_its_field : (n : ℕ) (w : What) (fs : List Field) → is_group w ≡ false → with_field n w fs ≡ field_by n w ∷ fs
unfolding field_by
with_its_field n (field f s m) fs e = refl
with_its_field n (group p) fs e = absurd (true≢false e)

with_no_field : (n : ℕ) (w : What) (fs : List Field) → is_group w ≡ true → with_field n w fs ≡ fs
with_no_field n (field f s m) fs e = absurd (false≢true e)
with_no_field n (group p) fs e = refl

module _ (es : List Entry) (k end : ℕ) where
  pub no_entry : end ≤ k → fields_from es k end ≡ []
  unfolding fields_from
  no_entry h = let e : end - k ≡ 0 = omega arith in rw e no_fields

  module _ (h : k < end) (l : end ≤ length es) where
    opened : fields_from es k end ≡ with_field (get_or es k blank).name (get_or es k blank).what (fields_from es (k + 1) end)
    unfolding fields_from
    opened =
        let e : end - k ≡ suc (end - (k + 1)) = omega arith in
        rw (e, drop-cons es k blank (omega arith), add-one) (first_field (get_or es k blank) (take (end - suc k) (drop (suc k) es)))

    -- Entry k is a field, or it is a group and adds nothing.
    pub field_entry : is_group (get_or es k blank).what ≡ false → fields_from es k end ≡ field_at es k ∷ fields_from es (k + 1) end
    unfolding field_at
    field_entry g = opened ∙ with_its_field _ (get_or es k blank).what _ g

    pub group_entry : is_group (get_or es k blank).what ≡ true → fields_from es k end ≡ fields_from es (k + 1) end
    group_entry g = opened ∙ with_no_field (get_or es k blank).name (get_or es k blank).what _ g
