-- The place of a group's count, of a cell and of a value in bytes that hold a record: what a look-up reads there is what stands from that place on.
use Rattle.std.specs.Prelude.{None, Option, Some}
use mathlib.Core.Path.{◌≡◌, refl, sym, ◌∙◌, ap}
use mathlib.Core.Bool.{Bool, true, false}
use mathlib.Core.List.{List, []}
use Prim.Native.Nat.{ℕ, suc, ◌+◌, ◌-◌, ◌≤◌, ◌<◌}
use native.Mathlib.Numerals.{add-one}
use native.Mathlib.Omega.{arith}
use lib.Dec.{leb}
use lib.ListN.{length, take, drop, get_or}
use lib.Seq.{slice, get_or-drop}
use Rattle.rules.specs.Outcome.{done, is_done}
use Rattle.rules.specs.Limits.{longest_record, record_head_size, greatest_count}
use Rattle.rules.specs.Lists.{Bytes, same, nothing}
use Rattle.rules.specs.Values.{Format}
use Rattle.rules.specs.Table.{What, field, group, Entry, Part, fields_below, names, differ, parts}
use Rattle.rules.specs.Record.{Record, Occurrence, record_head, times, counted, each, stored_value, stored_cell, stored_part, stored, group_count_at, values_at, value_count_at}
use Rattle.rules.proofs.Steps.{from_bind, from_need, nothing_eq, done_inj, not_done, true_T, by_outcome}
use Rattle.buffer.proofs.Cases.{by_order}
use Rattle.tables.specs.Entries.{blank, is_group, is_multiple, is_periodic, size_of, field_format}
use Rattle.tables.specs.Places.{inside_at, Home}
use Rattle.tables.specs.Groups.{group_end, field_by, field_at, fields_in}
use Rattle.tables.proofs.EntryFields.{field_periodic}
use Rattle.tables.proofs.Nesting.{run_levels}
use Rattle.records.specs.Walk.{rest_of, Walked, Ends, firsts, directory, occurrence, Checked}
use Rattle.records.specs.Where.{First, Deeper}
use Rattle.records.specs.Places.{IsRecord, HasRecord, Entered, CellOf}
use Rattle.records.proofs.Cells.{cell_many, byte_there, times_at}
use Rattle.records.proofs.Entries.{never, differ_first}
use Rattle.records.proofs.Ends.{group_fields, group_within, rows_some}
use Rattle.records.proofs.Checking.{each_off}
use Rattle.records.proofs.Groups.{fields_split}
use Rattle.records.proofs.Lookups.{Grouped, outside, grouped}
use Rattle.records.proofs.Occurrences.{occurrences, values_missing, values_there}

-- A check that finds a record finds its places.
pub holds : (es : List Entry) (b : Bytes) (places : List ℕ) (ok : Bool) → Checked es b places ok → ok ≡ true → HasRecord es b places
holds es b places ok c t = by_outcome (stored (parts es) b)
    (λ r h. (r, record { stands = h; starts = c.starts t; occurrences = c.occurrences t }))
    (λ n h. absurd (never (c.answer ∙ ap is_done h) t))

-- The body of a record is what its parts read.
pub whole_body : {C : Type 0} (ps : List Part) (b : Bytes) (r : Record) → stored ps b ≡ done r → ((rest : Bytes) → each stored_part ps (drop record_head_size b) ≡ done (r, rest) → rest ≡ [] → C) → C
unfolding stored
whole_body ps b r p k =
    from_need (leb (length b) longest_record) 2 _ p λ t k₁.
    from_need (same (take record_head_size b) record_head) 2 _ k₁ λ t₂ k₂.
    from_bind (each stored_part ps (drop record_head_size b)) _ k₂ λ x h k₃.
    from_need (nothing x.1) 2 _ k₃ λ t₃ k₄.
    k x.1 (h ∙ rw (done_inj k₄) refl) (nothing_eq x.1 t₃)

body : {C : Type 0} (ps : List Part) (b : Bytes) (r : Record) → stored ps b ≡ done r → ((rest : Bytes) → each stored_part ps (drop record_head_size b) ≡ done (r, rest) → C) → C
body ps b r p k = whole_body ps b r p λ rest h z. k rest h

-- An entry that is no group is a field.
pub by_field : {C : Type 0} (w : What) → is_group w ≡ false → ((f : Format) (s : ℕ) (mu : Bool) → w ≡ field f s mu → C) → C
by_field (field f s mu) h k = k f s mu refl
by_field (group p) h k = absurd (never h refl)

pub field_is : (es : List Entry) (i : ℕ) (f : Format) (s : ℕ) (mu : Bool) → (get_or es i blank).what ≡ field f s mu
    → field_at es i ≡ record { name = (get_or es i blank).name; format = f; size = s; multiple = mu }
unfolding field_at field_by
field_is es i f s mu w = ap (field_by (get_or es i blank).name) w

-- The cell of an entry, by what the code has of it.
pub cell_numbers : (es : List Entry) (i : ℕ) (bs : Bytes) → is_group (get_or es i blank).what ≡ false
    → stored_cell (field_at es i) bs
    ≡ counted (is_multiple (get_or es i blank).what) (stored_value (field_format (get_or es i blank).what) (size_of (get_or es i blank).what)) bs
unfolding stored_cell
cell_numbers es i bs h = by_field (get_or es i blank).what h λ f s mu w. rw (field_is es i f s mu w, w) refl

pub home_deeper : (es : List Entry) (i g : ℕ) → Home es i g → Deeper es blank g i
home_deeper es i g home k p q =
    let z : suc g + (k - suc g) ≡ k = omega arith in
    let l = run_levels 1 (drop (suc g) es) (k - suc g) (omega (arith, home.within)) in
    rw (get_or-drop (suc g) es (k - suc g) blank, z) at l

-- What lies in a periodic group stands after it.
pub home_before : (es : List Entry) (i g : ℕ) → is_periodic (get_or es i blank).what ≡ false → Home es i g → g < i
home_before es i g what home = by_order g i (λ l. l) (λ l. let z : g ≡ i = omega (arith, home.upto) in absurd (never (rw (← z) at what) (ap is_periodic home.periodic)))

-- It lies in one alone.
home_later : (es : List Entry) (i g h : ℕ) → Home es i g → Home es i h → h ≤ g
home_later es i g h a b = by_order g h (λ l. absurd (omega (arith, home_deeper es i g a h l b.upto, b.level))) (λ l. l)

pub one_home : (es : List Entry) (i g h : ℕ) → Home es i g → Home es i h → g ≡ h
one_home es i g h a b = omega (arith, home_later es i g h a b, home_later es i h g b a)

pub home_end : (es : List Entry) (i g : ℕ) → Home es i g → i ≤ group_end es g
unfolding group_end
home_end es i g home = rw home.level (omega (arith, home.within))

-- Bytes that hold a record by a table's entries, of which each is the first with its name.
module _ {es : List Entry} {b : Bytes} {places : List ℕ} {r : Record} (held : IsRecord es b places r) (named : differ (names es) ≡ true) where
  own_name : (i : ℕ) → i < length es → First (get_or es i blank).name es i
  own_name i h = differ_first es blank i h (true_T named)

  -- A field outside periodic groups has its one cell at its place.
  pub cell_outside : (i o : ℕ) → i < length es → is_group (get_or es i blank).what ≡ false → inside_at es i ≡ false → o ≡ 1 → CellOf es b i o r (Some (get_or places i 0))
  unfolding parts
  cell_outside i o less what out one =
      body (parts es) b r held.stands λ rest h.
      by_field (get_or es i blank).what what λ f s mu w.
      outside false es (drop record_head_size b) r rest h blank (get_or es i blank).name i f s mu (own_name i less) out w λ mid q.
      let p = held.starts i less in
      (p.0, mid, rw (field_is es i f s mu w, p.1, one) q)

  -- A periodic group's count is the byte at its place.
  module _ (g : ℕ) (less : g < length es) (what : (get_or es g blank).what ≡ group true) where
    group_there : {C : Type 0} → ((os : List Occurrence) (mid : Bytes) → Grouped false es (drop record_head_size b) r blank g os mid → C) → C
    unfolding parts
    group_there k = body (parts es) b r held.stands λ rest h. grouped false es (drop record_head_size b) r rest h blank g less what k

    pub count_there : (get_or places g 0 < length b) × (get_or b (get_or places g 0) 0 ≡ group_count_at (parts es) r (get_or es g blank).name)
    unfolding parts
    count_there = group_there λ os mid q.
        occurrences q λ tail h most s.
        let c = byte_there b (get_or places g 0) ((held.starts g less).1 ∙ h) in
        (c.0, c.1 ∙ sym (q.count (get_or es g blank).name (own_name g less)))

    -- It is not over the limit of counts.
    pub count_most : group_count_at (parts es) r (get_or es g blank).name ≤ greatest_count
    unfolding parts
    count_most = group_there λ os mid q. occurrences q λ tail h most s. rw (q.count (get_or es g blank).name (own_name g less)) most

    -- Its occurrences stand after that, and those that are kept stand where they are kept.
    pub row_ends : (get_or es g blank).level ≡ 1 → (k : ℕ) → k < get_or b (get_or places g 0) 0 → Ends (rest_of (times k (occurrence es g) (drop (get_or places g 0 + 1) b)))
    unfolding occurrence
    row_ends level k some = group_there λ os mid q.
        occurrences q λ tail h most s.
        let c = byte_there b (get_or places g 0) ((held.starts g less).1 ∙ h) in
        times_at (each stored_cell (fields_below 1 (drop (suc g) es))) [] (length os) k tail (omega (arith, c.1)) s λ one after h₁ h₂.
        (one, rw (← group_fields es g level, add-one (get_or places g 0), ← c.2) (ap rest_of h₁))

    -- The occurrence that stands at p, and its fields up to an entry, come to an end.
    module _ (level : (get_or es g blank).level ≡ 1) (o : ℕ) (some : 1 ≤ o) (many : o ≤ group_count_at (parts es) r (get_or es g blank).name) (p : ℕ)
        (row : Walked b (rest_of (times (o - 1) (occurrence es g) (drop (get_or places g 0 + 1) b))) (Some p)) where
      row_whole : Ends (rest_of (each stored_cell (fields_in (slice (g + 1) (group_end es g) es)) (drop p b)))
      unfolding occurrence parts
      row_whole = group_there λ os mid q.
          occurrences q λ tail h most s.
          let c = byte_there b (get_or places g 0) ((held.starts g less).1 ∙ h) in
          times_at (each stored_cell (fields_below 1 (drop (suc g) es))) [] (length os) (o - 1) tail (omega (arith, q.count (get_or es g blank).name (own_name g less))) s λ one after h₁ h₂.
          let e : one ≡ drop p b = done_inj (sym (ap rest_of h₁) ∙ rw (group_fields es g level, c.2, ← add-one (get_or places g 0)) (sym row.answer)) in
          (after, rw (e, group_fields es g level) at (ap rest_of h₂))

      pub members_end : (i : ℕ) → g < i → i ≤ group_end es g → Ends (rest_of (each stored_cell (fields_in (slice (g + 1) i es)) (drop p b)))
      members_end i l m = by_outcome (rest_of (each stored_cell (fields_in (slice (g + 1) i es)) (drop p b)))
          (λ cs h. (cs, h))
          (λ k h. absurd (not_done (sym (each_off stored_cell (fields_in (slice i (group_end es g) es)) (fields_in (slice (g + 1) i es)) (drop p b) k h)
          ∙ rw (fields_split es blank (i - (g + 1)) (g + 1) i (group_end es g) (omega arith) m (group_within es g less).1) at row_whole.1)))

    pub row_kept : (k : ℕ) → k < get_or b (get_or places g 0) 0 → get_or places (firsts + g) 0 + k < directory
        → Walked b (rest_of (times k (occurrence es g) (drop (get_or places g 0 + 1) b))) (Some (get_or places (get_or places (firsts + g) 0 + k) 0))
    row_kept k some room = held.occurrences g less k (rw (rows_some (get_or es g blank).what (get_or b (get_or places g 0) 0) (ap is_periodic what)) some) room

  -- Entry i, a field in the periodic group that entry g is, in occurrence o.
  module _ (i g o : ℕ) (less : i < length es) (what : is_group (get_or es i blank).what ≡ false) (some : 1 ≤ o) (home : Home es i g) where
    group_before : g < i
    group_before = home_before es i g (field_periodic (get_or es i blank).what what) home

    pub cell_missing : group_count_at (parts es) r (get_or es g blank).name < o → values_at (parts es) r (get_or es i blank).name o ≡ []
    unfolding parts
    cell_missing few = group_there g (omega (arith, group_before)) home.periodic λ os mid q.
        by_field (get_or es i blank).what what λ f s mu w.
        values_missing q (omega (arith, home.level)) (get_or es i blank).name i group_before (home_deeper es i g home) (own_name i less) f s mu w o
        (omega (arith, q.count (get_or es g blank).name (own_name g (omega (arith, group_before)))))

    pub cell_there : {C : Type 0} → o ≤ group_count_at (parts es) r (get_or es g blank).name
        → ((one cell next : Bytes) → rest_of (times (o - 1) (each stored_cell (fields_in (slice (g + 1) (group_end es g) es))) (drop (get_or places g 0 + 1) b)) ≡ done one
        → rest_of (each stored_cell (fields_in (slice (g + 1) i es)) one) ≡ done cell
        → stored_cell (field_at es i) cell ≡ done (values_at (parts es) r (get_or es i blank).name o, next) → C) → C
    unfolding parts
    cell_there many k = group_there g (omega (arith, group_before)) home.periodic λ os mid q.
        occurrences q λ tail h most s.
        by_field (get_or es i blank).what what λ f n mu w.
        let c = byte_there b (get_or places g 0) ((held.starts g (omega (arith, group_before))).1 ∙ h) in
        values_there q (omega (arith, home.level)) (get_or es i blank).name i group_before (home_deeper es i g home) (own_name i less) f n mu w tail s (o - 1)
        (omega (arith, q.count (get_or es g blank).name (own_name g (omega (arith, group_before))))) λ one cell next h₁ h₂ h₃.
        let z : suc (o - 1) ≡ o = omega arith in
        k one cell next (rw (← group_fields es g home.level, add-one (get_or places g 0), ← c.2) h₁) (rw (add-one g) h₂) (rw (field_is es i f n mu w, ← z) h₃)

    -- What a walk over the fields before it finds, from the place of the occurrence on.
    module _ (many : o ≤ group_count_at (parts es) r (get_or es g blank).name) (p : ℕ)
        (row : Walked b (rest_of (times (o - 1) (occurrence es g) (drop (get_or places g 0 + 1) b))) (Some p)) where
      row_there : {C : Type 0} → ((cell next : Bytes) → rest_of (each stored_cell (fields_in (slice (g + 1) i es)) (drop p b)) ≡ done cell
          → stored_cell (field_at es i) cell ≡ done (values_at (parts es) r (get_or es i blank).name o, next) → C) → C
      unfolding occurrence
      row_there k = cell_there many λ one cell next h₁ h₂ h₃.
          let e : one ≡ drop p b = done_inj (sym h₁ ∙ sym row.answer) in
          k cell next (rw e at h₂) h₃

      pub cell_stands : (q : ℕ) → Walked b (rest_of (each stored_cell (fields_in (slice (g + 1) i es)) (drop p b))) (Some q) → CellOf es b i o r (Some q)
      cell_stands q w = row_there λ cell next h₁ h₂.
          let d : drop q b ≡ cell = done_inj (w.answer ∙ h₁) in
          (w.place, next, ap (stored_cell (field_at es i)) d ∙ h₂)

  -- What is found of a field in a periodic group is its cell.
  pub cell_entered : (i g o : ℕ) → i < length es → is_group (get_or es i blank).what ≡ false → 1 ≤ o → Home es i g → (c : Option ℕ) → Entered es b places g i o r c → CellOf es b i o r c
  cell_entered i g o less what some home (Some q) e = cell_stands i g o less what some home e.1.many e.0 e.1.row q e.1.before
  cell_entered i g o less what some home None e = cell_missing i g o less what some home e

-- An MU field is a field, and its count is the byte at its cell's place; 0 where it has no cell.
by_multiple : {C : Type 0} (w : What) → is_multiple w ≡ true → ((f : Format) (s : ℕ) → w ≡ field f s true → C) → C
by_multiple (field f s mu) h k = k f s (ap (field f s) h)
by_multiple (group p) h k = absurd (never refl h)

pub multiple_field : (w : What) → is_multiple w ≡ true → is_group w ≡ false
multiple_field w h = by_multiple w h λ f s e. ap is_group e

module _ (es : List Entry) (b : Bytes) (i o : ℕ) (r : Record) where
  pub values_counted : is_multiple (get_or es i blank).what ≡ true → (q : ℕ) → CellOf es b i o r (Some q)
      → (q < length b) × (get_or b q 0 ≡ value_count_at (parts es) r (get_or es i blank).name o)
  unfolding value_count_at
  values_counted h q x = by_multiple (get_or es i blank).what h λ f s w.
      cell_many (get_or es i blank).name f s (drop q b) (rw (field_is es i f s true w) at x.2) λ tail e most t.
      let c = byte_there b q e in (c.0, c.1)

  pub values_none : CellOf es b i o r None → 0 ≡ value_count_at (parts es) r (get_or es i blank).name o
  unfolding value_count_at
  values_none x = sym (ap length x)
