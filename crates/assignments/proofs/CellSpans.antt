-- The span of a use that names a cell: its bounds, and what stands where its block begins.
use Rattle.std.specs.Prelude.{None, Some}
use mathlib.Core.Path.{◌≡◌, refl, sym, ap, subst, ◌∙◌}
use mathlib.Core.Bool.{true, false, true≢false}
use mathlib.Core.Logic.{inl}
use mathlib.Core.List.{List}
use Prim.Native.Nat.{ℕ, ◌+◌, ◌-◌, ◌*◌, ◌≤◌, ◌<◌}
use native.Mathlib.Nat.{mul-le-mul}
use native.Mathlib.Omega.{arith}
use native.Mathlib.Numerals.{add-one}
use lib.Dec.{ltb}
use lib.ListN.{length, get_or, drop}
use Rattle.rules.specs.Limits.{most_entries, highest_index}
use Rattle.rules.specs.Lists.{Bytes}
use Rattle.rules.specs.Table.{What, field, group, Entry}
use Rattle.rules.specs.Record.{times, stored_value}
use Rattle.rules.specs.Update.{Assignment}
use Rattle.rules.proofs.Steps.{by_test}
use Rattle.tables.specs.Entries.{blank, is_group, is_multiple, size_of}
use Rattle.tables.specs.Groups.{field_by, field_at}
use Rattle.records.specs.Walk.{rest_of, Ends, EndsAt}
use Rattle.uses.specs.Kept.{numbers_kept, span_at}
use Rattle.uses.specs.declared.Span.{Span}
use Rattle.uses.proofs.Spreading.{ordered_within}
use borrow.Author.Tests.{ltb-true, ltb-false}
use Rattle.assignments.specs.Notes.{note_bound, first_noted, width_noted, start_noted, place_at, TakesAt, Indexed, width_before}
use Rattle.assignments.specs.Answers.{FoundIn, Block, NamedBy}
use Rattle.assignments.proofs.Giving.{places_once, takes_there}
use Rattle.assignments.proofs.CellParts.{values_before}
use Rattle.assignments.proofs.Blocks.{block_span, block_inside, single_ends, single_block, group_headed, several_widths, several_block}
use Rattle.assignments.proofs.Cells.{none_assigned}
use Rattle.assignments.proofs.Filling.{ValueNext, value_next, block_left, next_within}

-- The span of a use that names a cell has the cell, and lies within its bounds.
pub record CellSpan (s : Span) (i o : ℕ) : Type 0 where
  pub occurrences : (s.from ≤ o) × (o ≤ s.upto) × (s.upto ≤ highest_index)
  pub entries : (s.first ≤ i) × (i < s.end) × (s.end ≤ most_entries)
  pub values : (1 ≤ s.value_from) × (s.value_from ≤ s.value_upto) × (s.value_upto ≤ highest_index)

module _ {es : List Entry} {f : Bytes} {kept : List ℕ} {count : ℕ} {list : List ℕ} {stage : Bytes} {ws : List Assignment} {n i o size : ℕ}
    (b : NamedBy es f kept count list stage ws n i o size) {s : Span} (e : s ≡ span_at kept (numbers_kept * n)) where
  pub cell_span : CellSpan s i o
  cell_span =
      let g = block_span b in
      let p = block_inside b in
      let os = ordered_within _ g.occurrences in
      let vs = ordered_within _ g.values in
      let few = b.indexed.listed.entries in
      let end : (span_at kept (numbers_kept * n)).end ≤ most_entries = omega (arith, g.upto) in
      subst (λ (x : Span). CellSpan x i o) (sym e) (record { occurrences = (p.0, p.1, os.2); entries = (p.2, p.3, end); values = vs })

  -- A use of one field: where its values before the cell end, those of the cell begin.
  module _ (h : s.first + 1 ≡ s.end) where
    pub starts_end : Ends (rest_of (times (values_before s o) (stored_value (field_at es i).format size) (drop (start_noted list n) stage)))
    starts_end = subst (λ (x : Span). Ends (rest_of (times (values_before x o) (stored_value (field_at es i).format size) (drop (start_noted list n) stage)))) (sym e)
        (single_ends b (subst (λ (x : Span). x.first + 1 ≡ x.end) e h))

    pub starts_single : (r : ℕ) → EndsAt stage (rest_of (times (values_before s o) (stored_value (field_at es i).format size) (drop (start_noted list n) stage))) r
        → Block es ws i o (span_at kept (numbers_kept * n)) r
    starts_single r k = single_block b (subst (λ (x : Span). x.first + 1 ≡ x.end) e h) r
        (subst (λ (x : Span). EndsAt stage (rest_of (times (values_before x o) (stored_value (field_at es i).format size) (drop (start_noted list n) stage))) r) e k)

  -- A use of several: the widths are noted.
  module _ (h : s.first + 1 ≡ s.end → ⊥) where
    several : (span_at kept (numbers_kept * n)).first + 1 < (span_at kept (numbers_kept * n)).end
    several = subst (λ (x : Span). x.first + 1 < x.end) e (above s cell_span.entries.0 cell_span.entries.1 h)
      where
        above : (x : Span) → x.first ≤ i → i < x.end → (x.first + 1 ≡ x.end → ⊥) → x.first + 1 < x.end
        above x k l d = by_test (ltb (x.first + 1) x.end) (λ t. ltb-true (x.first + 1) x.end t) (λ t. let m = ltb-false (x.first + 1) x.end t in absurd (d (omega arith)))

    noted : (j : ℕ) → j ≤ length es → width_noted list j ≡ width_before es j
    noted j k = b.indexed.widths (group_headed b several) j k

    ends_within : s.end ≤ length es
    ends_within = subst (λ (x : Span). x.end ≤ length es) (sym e) (block_span b).upto

    pub several_noted : (width_noted list s.first ≤ width_noted list i) × (width_noted list i ≤ width_noted list s.end)
    several_noted =
        let c = cell_span in
        let w : (width_before es s.first ≤ width_before es i) × (width_before es i ≤ width_before es s.end) =
        subst (λ (x : Span). (width_before es x.first ≤ width_before es i) × (width_before es i ≤ width_before es x.end)) (sym e) (several_widths b several) in
        let k = ends_within in
        let n₁ = noted s.first (omega (arith, c.entries.0, c.entries.1)) in
        let n₂ = noted i (omega (arith, c.entries.1)) in
        let n₃ = noted s.end k in
        (omega (arith, w.0), omega (arith, w.1))

    pub starts_several : Block es ws i o (span_at kept (numbers_kept * n))
        (start_noted list n + values_before s o * (width_noted list s.end - width_noted list s.first) + (width_noted list i - width_noted list s.first))
    starts_several =
        let c = cell_span in
        let k = ends_within in
        let n₁ = noted s.first (omega (arith, c.entries.0, c.entries.1)) in
        let n₂ = noted i (omega (arith, c.entries.1)) in
        let n₃ = noted s.end k in
        let q : start_noted list n + values_before s o * (width_noted list s.end - width_noted list s.first) + (width_noted list i - width_noted list s.first)
        ≡ start_noted list n + values_before s o * (width_before es s.end - width_before es s.first) + (width_before es i - width_before es s.first) =
        ap (λ (x : ℕ). start_noted list n + values_before s o * (x - width_noted list s.first) + (width_noted list i - width_noted list s.first)) n₃
        ∙ ap (λ (x : ℕ). start_noted list n + values_before s o * (width_before es s.end - x) + (width_noted list i - x)) n₁
        ∙ ap (λ (x : ℕ). start_noted list n + values_before s o * (width_before es s.end - width_before es s.first) + (x - width_before es s.first)) n₂ in
        subst (λ (x : ℕ). Block es ws i o (span_at kept (numbers_kept * n)) x) (sym q)
        (subst (λ (x : Span). Block es ws i o (span_at kept (numbers_kept * n)) (start_noted list n + values_before x o * (width_before es x.end - width_before es x.first) + (width_before es i - width_before es x.first))) (sym e)
        (several_block b several))

-- No more values stand before a cell, nor bytes, than can be counted.
pub values_few : {s : Span} {i o : ℕ} → CellSpan s i o → values_before s o ≤ highest_index * highest_index
values_few {s} {i} {o} c = mul-le-mul {n₁ = o - s.from} {m₁ = s.value_upto + 1 - s.value_from} {n₂ = highest_index} {m₂ = highest_index}
    (omega (arith, c.occurrences.1, c.occurrences.2)) (omega (arith, c.values.0, c.values.2))

pub widths_few : {s : Span} {i o : ℕ} → CellSpan s i o → (w : ℕ) → w < note_bound → values_before s o * w ≤ highest_index * highest_index * note_bound
widths_few {s} {i} {o} c w h = mul-le-mul {n₁ = values_before s o} {m₁ = w} {n₂ = highest_index * highest_index} {m₂ = note_bound} (values_few c) (omega arith)

-- Value 1 of a field in one occurrence takes what stands where a block from value 1 on begins.
module _ {es : List Entry} {f : Bytes} {kept : List ℕ} {count : ℕ} {list : List ℕ} {stage : Bytes} {ws : List Assignment} {n i o size r : ℕ}
    (b : NamedBy es f kept count list stage ws n i o size) (g : Block es ws i o (span_at kept (numbers_kept * n)) r) where
  first_next : ValueNext es ws i o (span_at kept (numbers_kept * n)).value_upto (span_at kept (numbers_kept * n)).value_from r
  first_next = value_next (cell_span b refl).values.1 (block_left g)

  pub block_within : r ≤ length stage
  block_within = next_within b.indexed.listed.stands first_next b.size_is

  pub block_takes : (span_at kept (numbers_kept * n)).value_from ≡ 1 → TakesAt ws (place_at es i o 1) (r + 1)
  block_takes e = subst (λ (m : ℕ). TakesAt ws (place_at es i o 1) m) (sym (add-one r))
      (takes_there (places_once b.indexed) first_next.stands (first_next.place ∙ ap (place_at es i o) e))

size_by : (n : ℕ) (w : What) → is_group w ≡ false → size_of w ≡ (field_by n w).size
unfolding field_by
size_by n (field f s m) e = refl
size_by n (group p) e = absurd (true≢false e)

pub standard_length : (es : List Entry) (i : ℕ) → is_group (get_or es i blank).what ≡ false → size_of (get_or es i blank).what ≡ (field_at es i).size
unfolding field_at
standard_length es i g = size_by (get_or es i blank).name (get_or es i blank).what g

-- Entry i, a field that is not MU, in an occurrence above the first.
module _ {es : List Entry} {f : Bytes} {kept : List ℕ} {count : ℕ} {list : List ℕ} {stage : Bytes} {ws : List Assignment} (ix : Indexed es f kept count list stage ws)
    (i o : ℕ) (h : i < length es) (g : is_group (get_or es i blank).what ≡ false) where
  pub found_named : (n size : ℕ) → FoundIn kept count (λ m. true) i o (Some n) → 1 ≤ o → (o ≡ 1 → ⊥) → size ≡ size_of (get_or es i blank).what
      → NamedBy es f kept count list stage ws n i o size
  found_named n size d l k e = record {
    indexed = ix;
    known = d.0;
    names = d.1;
    entry = h;
    field = g;
    size_is = e ∙ standard_length es i g;
    inside = inl (omega arith);
  }

  pub first_takes : o ≡ 1 → TakesAt ws (place_at es i o 1) (first_noted list i)
  first_takes e = subst (λ (q : ℕ). TakesAt ws (place_at es i q 1) (first_noted list i)) (sym e) (ix.listed.firsts i h g)

  pub none_takes : FoundIn kept count (λ m. true) i o None → TakesAt ws (place_at es i o 1) 0
  none_takes d = none_assigned ix i o 1 h g (λ m l. d m l refl)

-- A field that is not MU has value 1 alone.
multiple_by : (n : ℕ) (w : What) → is_group w ≡ false → is_multiple w ≡ false → (field_by n w).multiple ≡ false
unfolding field_by
multiple_by n (field f s m) e d = d
multiple_by n (group p) e d = absurd (true≢false e)

pub one_value : {es : List Entry} {f : Bytes} {kept : List ℕ} {count : ℕ} {list : List ℕ} {stage : Bytes} {ws : List Assignment} {n i o size : ℕ}
    → NamedBy es f kept count list stage ws n i o size → is_multiple (get_or es i blank).what ≡ false → (span_at kept (numbers_kept * n)).value_from ≡ 1
unfolding field_at
one_value {es} {kept = kept} {n = n} {i = i} b d =
    let s : Span = span_at kept (numbers_kept * n) in
    let g = block_span b in
    let p = block_inside b in
    by_test s.standard
    (λ e. (g.once e).0)
    (λ e.
    let one = g.alone e in
    let same : i ≡ s.first = omega (arith, one.next, p.2, p.3) in
    (one.value (ap (λ (j : ℕ). (field_by (get_or es j blank).name (get_or es j blank).what).multiple) (sym same) ∙ multiple_by (get_or es i blank).name (get_or es i blank).what b.field d)).0)
