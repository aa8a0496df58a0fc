-- Where the pieces of a body end, in the code's words: what a count leaves, what an entry adds, and the fields of a group by their entries.
use Rattle.std.specs.Prelude.{Some}
use mathlib.Core.Path.{◌≡◌, refl, sym, subst, ◌∙◌, ap}
use mathlib.Core.Bool.{Bool, true, false}
use mathlib.Core.List.{List, [], ◌∷◌, ◌++◌}
use Prim.Native.Nat.{ℕ, zero, suc, ◌+◌, ◌≤◌, ◌<◌}
use native.Mathlib.Nat.{suc-add, zero-add, not-suc-le-zero}
use native.Mathlib.Numerals.{add-one}
use native.Mathlib.Omega.{arith}
use borrow.Author.Tests.{lt-ltb, le-leb}
use lib.Dec.{leb, ltb, leb→le, ltb→lt}
use lib.ListN.{length, take, drop, get_or, get_or-eq_default, length-drop}
use lib.Seq.{slice, take-nil, drop-drop}
use Rattle.std.proofs.lemmas.Bool.Decides.{nat_tests}
use Rattle.rules.specs.Outcome.{done, refused, by}
use Rattle.rules.specs.Limits.{greatest_count}
use Rattle.rules.specs.Lists.{Bytes}
use Rattle.rules.specs.Values.{allowed}
use Rattle.rules.specs.Table.{What, field, group, Entry, Field, fields_below, alone, part_of}
use Rattle.rules.specs.Record.{Reader, times, counted, each, stored_value, stored_cell, stored_part}
use Rattle.rules.proofs.Steps.{by_test, by_outcome, and_left, and_right, true_T}
use Rattle.buffer.proofs.Cases.{by_order}
use Rattle.value_formats.specs.declared.Format.{Format}
use Rattle.values.proofs.Cuts.{cut_enough, cut_short}
use Rattle.tables.specs.Entries.{blank, format_at, format_coded, field_format, is_group, size_of, is_multiple, is_periodic}
use Rattle.tables.specs.Groups.{run_below, group_end, fields_in}
use Rattle.tables.proofs.EntryBytes.{Sound}
use Rattle.tables.proofs.EntryFields.{field_coded}
use Rattle.tables.proofs.Nesting.{run_short}
use Rattle.tables.proofs.Tables.{valid_most}
use Rattle.records.specs.Counts.{has_count}
use Rattle.records.specs.Walk.{rest_of, after_entry, occurrence, occurrences_counted, Kept}
use Rattle.records.specs.Where.{field_of}
use Rattle.records.proofs.Walks.{each_turn, each_stop, count_missing, count_over, count_good, not_counted}
use Rattle.records.proofs.Entries.{never}
use Rattle.records.proofs.Passing.{below_on, below_end}
use Rattle.records.proofs.Groups.{fields_more}

-- A count that stands there and is not over its limit: that many follow; else nothing is read.
has_count_is : (b : Bytes) (at : ℕ) → at < length b → get_or b at 0 ≤ greatest_count → has_count b at ≡ true
unfolding has_count
has_count_is b at h k = rw (lt-ltb at (length b) h, le-leb (get_or b at 0) greatest_count k) refl

pub count_some : (b : Bytes) (at : ℕ) → has_count b at ≡ true → (at < length b) × (get_or b at 0 ≤ greatest_count)
unfolding has_count
count_some b at h = (
  ltb→lt at (length b) (and_left (ltb at (length b)) (leb (get_or b at 0) greatest_count) (true_T h)),
  leb→le (get_or b at 0) greatest_count (and_right (ltb at (length b)) (leb (get_or b at 0) greatest_count) (true_T h)),
)

module _ {X : Type 0} (one : Reader X) (b : Bytes) (at : ℕ) where
  pub count_there : has_count b at ≡ true → rest_of (counted true one (drop at b)) ≡ rest_of (times (get_or b at 0) one (drop (at + 1) b))
  count_there h = let k = count_some b at h in rw (add-one at) (count_good one b at k.0 k.1)

  pub count_none : has_count b at ≡ false → rest_of (counted true one (drop at b)) ≡ refused (by 2)
  count_none h = by_order at (length b)
      (λ l. by_order greatest_count (get_or b at 0) (count_over one b at l) (λ k. absurd (never h (has_count_is b at l k))))
      (count_missing one b at)

-- One reader alone.
pub each_single : {X Y : Type 0} (one : Y → Reader X) (y : Y) (bs : Bytes) → rest_of (each one (y ∷ []) bs) ≡ rest_of (one y bs)
unfolding each
each_single one y bs = by_outcome (rest_of (one y bs)) (λ cs h. each_turn one y [] bs h ∙ sym h) (λ k h. each_stop one y [] bs h ∙ sym h)

-- The cell of an entry by what the code has of it.
module _ (n : ℕ) (bs : Bytes) where
  pub cell_of_field : (w : What) → is_group w ≡ false
      → rest_of (each stored_cell (field_of n w) bs) ≡ rest_of (counted (is_multiple w) (stored_value (field_format w) (size_of w)) bs)
  unfolding field_of stored_cell
  cell_of_field (field f s m) h = each_single stored_cell (record { name = n; format = f; size = s; multiple = m }) bs
  cell_of_field (group p) h = absurd (never h refl)

  pub cell_of_group : (w : What) → is_group w ≡ true → rest_of (each stored_cell (field_of n w) bs) ≡ done bs
  unfolding field_of each
  cell_of_group (field f s m) h = absurd (never refl h)
  cell_of_group (group p) h = refl

  pub cell_coded : (w : What) (f : Format) → format_coded w ≡ Some f
      → rest_of (each stored_cell (field_of n w) bs) ≡ rest_of (counted (is_multiple w) (stored_value (format_at f) (size_of w)) bs)
  cell_coded w f e =
      let is = field_coded w f e in
      cell_of_field w (ap is_group is) ∙ ap (λ g. rest_of (counted (is_multiple w) (stored_value g (size_of w)) bs)) (ap field_format is)

-- A field's length is one that its format allows.
pub coded_allowed : (l : ℕ) (w : What) (f : Format) → Sound l w → format_coded w ≡ Some f → allowed (format_at f) (size_of w) ≡ true
coded_allowed l w f s e = subst (Sound l) (field_coded w f e) s

-- What stands after an entry's part: a periodic group's occurrences, nothing of another entry inside one, and a field's cell.
module _ (inside : Bool) (n : ℕ) (es : List Entry) (bs : Bytes) where
  periodic_part : (w : What) → is_periodic w ≡ true
      → rest_of (each stored_part (part_of inside n w es []) bs) ≡ rest_of (counted true (each stored_cell (fields_below 1 es)) bs)
  unfolding part_of stored_part
  periodic_part (field f s m) h = absurd (never refl h)
  periodic_part (group p) h = rw h (each_single stored_part (record { name = n; periodic = true; members = fields_below 1 es }) bs)

  inside_part : (w : What) → is_periodic w ≡ false → inside ≡ true → rest_of (each stored_part (part_of inside n w es []) bs) ≡ done bs
  unfolding part_of each
  inside_part (field f s m) h i = rw i refl
  inside_part (group p) h i = rw h refl

  outside_part : (w : What) → is_periodic w ≡ false → inside ≡ false
      → rest_of (each stored_part (part_of inside n w es []) bs) ≡ rest_of (each stored_cell (field_of n w) bs)
  unfolding part_of each field_of alone stored_part
  outside_part (field f s m) h i = rw i
      (each_single stored_part (alone (record { name = n; format = f; size = s; multiple = m })) bs
      ∙ not_counted (each stored_cell (record { name = n; format = f; size = s; multiple = m } ∷ [])) bs 0)
  outside_part (group p) h i = rw h refl

module _ (inside : Bool) (e : Entry) (es : List Entry) (bs : Bytes) where
  pub after_periodic : is_periodic e.what ≡ true → after_entry inside e es bs ≡ rest_of (counted true (each stored_cell (fields_below 1 es)) bs)
  unfolding after_entry
  after_periodic h = periodic_part inside e.name es bs e.what h

  pub after_inside : is_periodic e.what ≡ false → inside ≡ true → after_entry inside e es bs ≡ done bs
  unfolding after_entry
  after_inside h i = inside_part inside e.name es bs e.what h i

  pub after_outside : is_periodic e.what ≡ false → inside ≡ false → after_entry inside e es bs ≡ rest_of (each stored_cell (field_of e.name e.what) bs)
  unfolding after_entry
  after_outside h i = outside_part inside e.name es bs e.what h i

-- The fields of a group of level 1 are those among the entries from after it to its end.
below_run : (es : List Entry) → fields_below 1 es ≡ fields_in (take (run_below 1 es) es)
unfolding fields_below fields_in run_below
below_run [] = refl
below_run (e ∷ es) = by_test (ltb 1 e.level)
    (λ t. below_on e es t ∙ rw t (ap (λ (fs : List Field). field_of e.name e.what ++ fs) (below_run es) ∙ sym (fields_more e (take (run_below 1 es) es))))
    (λ t. below_end e es t ∙ rw t refl)

pub slice_run : (n m : ℕ) (es : List Entry) → slice n (n + m) es ≡ take m (drop n es)
slice_run zero m es = rw (zero-add m) refl
slice_run (suc n) m [] = rw (suc-add n m) (sym (take-nil m))
slice_run (suc n) m (e ∷ es) = rw (suc-add n m) (slice_run n m es)

module _ (es : List Entry) (g : ℕ) where
  pub group_fields : (get_or es g blank).level ≡ 1 → fields_below 1 (drop (suc g) es) ≡ fields_in (slice (g + 1) (group_end es g) es)
  unfolding group_end
  group_fields h = below_run (drop (suc g) es) ∙ rw (h, add-one) (ap fields_in (sym (slice_run (suc g) (run_below 1 (drop (suc g) es)) es)))

  pub group_within : g < length es → (g + 1 ≤ group_end es g) × (group_end es g ≤ length es)
  unfolding group_end
  group_within l = (omega arith, omega (arith, run_short (get_or es g blank).level (drop (suc g) es), length-drop (suc g) es))

-- How many occurrences an entry has.
module _ (w : What) where
  pub rows_some : (n : ℕ) → is_periodic w ≡ true → occurrences_counted w n ≡ n
  unfolding occurrences_counted
  rows_some n h = rw h refl

  pub rows_none : (n : ℕ) → is_periodic w ≡ false → occurrences_counted w n ≡ 0
  unfolding occurrences_counted
  rows_none n h = rw h refl

  pub rows_zero : occurrences_counted w 0 ≡ 0
  unfolding occurrences_counted
  rows_zero = by_test (is_periodic w) (λ t. rw t refl) (λ t. rw t refl)

-- What stands after a periodic group, by its count and its end.
module _ (inside : Bool) (es : List Entry) (g : ℕ) (b : Bytes) (at : ℕ) (p : is_periodic (get_or es g blank).what ≡ true) where
  pub after_countless : has_count b at ≡ false → after_entry inside (get_or es g blank) (drop (suc g) es) (drop at b) ≡ refused (by 2)
  after_countless h = after_periodic inside (get_or es g blank) (drop (suc g) es) (drop at b) p ∙ count_none (each stored_cell (fields_below 1 (drop (suc g) es))) b at h

  pub after_counted : has_count b at ≡ true → (get_or es g blank).level ≡ 1 → (end : ℕ) → end ≡ group_end es g
      → after_entry inside (get_or es g blank) (drop (suc g) es) (drop at b) ≡ rest_of (times (get_or b at 0) (each stored_cell (fields_in (slice (g + 1) end es))) (drop (at + 1) b))
  after_counted h l end q =
      after_periodic inside (get_or es g blank) (drop (suc g) es) (drop at b) p
      ∙ count_there (each stored_cell (fields_below 1 (drop (suc g) es))) b at h
      ∙ rw (group_fields es g l, q) refl

-- What entry i keeps: a periodic group the beginnings of its occurrences, another entry nothing.
module _ (es : List Entry) (i : ℕ) where
  pub kept_rows : is_periodic (get_or es i blank).what ≡ true → {end : ℕ} → end ≡ group_end es i → {b : Bytes} {at n kept : ℕ} {before after : List ℕ}
      → Kept (each stored_cell (fields_in (slice (i + 1) end es))) b at n kept before after → Kept (occurrence es i) b at (occurrences_counted (get_or es i blank).what n) kept before after
  unfolding occurrence
  kept_rows p {end} q {b} {at} {n} k = rw (rows_some (get_or es i blank).what n p, ← q) k

  pub kept_none : is_periodic (get_or es i blank).what ≡ false → (n : ℕ) {b : Bytes} {at : ℕ} (kept : ℕ) (places : List ℕ) → Kept (occurrence es i) b at (occurrences_counted (get_or es i blank).what n) kept places places
  kept_none p n {b} {at} kept places = rw (rows_none (get_or es i blank).what n p) (record { long = refl; others = λ j l. refl; occurrences = λ k l. absurd (not-suc-le-zero l) })

-- what a step over bytes cites
pub ruleset cut_steps = (cut_enough, cut_short, length-drop, drop-drop)

-- what the number after an entry's occurrences cites
pub ruleset kept_steps = (rows_some, rows_none, rows_zero, get_or-eq_default)

-- what bounds the numbers of a walk over an entry
pub ruleset entry_bounds = (nat_tests, valid_most)
