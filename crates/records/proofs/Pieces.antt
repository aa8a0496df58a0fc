-- Entries outside periodic groups stand one after the other: what stands from one on is its field's bytes, and then what stands from the next on.
use Rattle.std.specs.Prelude.{Some}
use mathlib.Core.Path.{◌≡◌, refl, sym, ◌∙◌, ap}
use mathlib.Core.Bool.{Bool, true, false}
use mathlib.Core.List.{List, [], ◌∷◌, ◌++◌, append_assoc, append-nil}
use Prim.Native.Nat.{ℕ, zero, suc, ◌+◌, ◌-◌, ◌≤◌, ◌<◌}
use native.Mathlib.Nat.{not-suc-le-zero, le_of_suc-le-suc}
use native.Mathlib.Omega.{arith}
use lib.ListN.{length, take, drop, get_or, length-append, length-drop, drop_of_length-le}
use lib.Seq.{slice, slice_empty, take_at}
use Rattle.rules.specs.Limits.{record_head_size}
use Rattle.rules.specs.Outcome.{Outcome, done}
use Rattle.rules.specs.Lists.{Bytes, join}
use Rattle.rules.specs.Values.{Format}
use Rattle.rules.specs.Table.{What, field, group, Entry, Field, parts_from, inside_of, names, differ, parts, is_inside}
use Rattle.rules.specs.Record.{Record, Cell, each, counted, stored_value, stored_cell, values_at}
use Rattle.rules.proofs.Steps.{done_inj}
use Rattle.rules.proofs.Readers.{value_sound}
use Rattle.buffer.proofs.Cases.{by_order}
use Rattle.tables.specs.Entries.{blank, is_group, is_multiple, is_periodic}
use Rattle.tables.specs.Groups.{field_at, fields_in}
use Rattle.tables.specs.Places.{inside_from, inside_at}
use Rattle.tables.proofs.Periodic.{inside_by}
use Rattle.records.specs.Walk.{rest_of, bytes_left, after_entry, start_of}
use Rattle.records.specs.Where.{field_of}
use Rattle.records.specs.Places.{IsRecord, values_of, Outside, Celled, PieceOf}
use Rattle.records.proofs.Entries.{never}
use Rattle.records.proofs.Cells.{counted_once}
use Rattle.records.proofs.Ends.{each_single, after_outside}
use Rattle.records.proofs.Groups.{fields_first}
use Rattle.records.proofs.Passing.{reach}
use Rattle.records.proofs.Placed.{whole_body, field_is, cell_outside}

-- What stands from the next entry on, and after the last.
start_next : (before : Bool) (es : List Entry) (d : Entry) (bs : Bytes) (j : ℕ) → suc j < length es
    → start_of before es bs (suc j) ≡ bytes_left (after_entry (inside_from before es j) (get_or es j d) (drop (suc j) es) (start_of before es bs j))
unfolding start_of inside_from
start_next before [] d bs j l = absurd (not-suc-le-zero l)
start_next before (e ∷ []) d bs zero l = absurd (not-suc-le-zero (le_of_suc-le-suc l))
start_next before (e ∷ e₂ ∷ es) d bs zero l = refl
start_next before (e ∷ es) d bs (suc j) l = start_next (is_inside before e) es d _ j (le_of_suc-le-suc l)

pub start_none : (before : Bool) (es : List Entry) (bs : Bytes) (j : ℕ) → length es ≤ j → start_of before es bs j ≡ []
unfolding start_of
start_none before [] bs j h = refl
start_none before (e ∷ es) bs zero h = absurd (not-suc-le-zero h)
start_none before (e ∷ es) bs (suc j) h = start_none (is_inside before e) es _ j (le_of_suc-le-suc h)

-- The bytes of a cell that has one value.
pub once_bytes : (mu : Bool) (f : Format) (s : ℕ) (bs : Bytes) {vs : Cell} {rest : Bytes} → mu ≡ false → counted mu (stored_value f s) bs ≡ done (vs, rest) → bs ≡ join vs ++ rest
unfolding join
once_bytes true f s bs m p = absurd (never m refl)
once_bytes false f s bs {vs} {rest} m p = counted_once (stored_value f s) bs p λ v e h. rw (e, append-nil v) (value_sound f s bs v rest h)

pub values_append : (es : List Entry) (r : Record) (o : ℕ) (xs ys : List Field) → values_of es r o (xs ++ ys) ≡ values_of es r o xs ++ values_of es r o ys
unfolding values_of
values_append es r o [] ys = refl
values_append es r o (x ∷ xs) ys = ap (λ (bs : Bytes). join (values_at (parts es) r x.name o) ++ bs) (values_append es r o xs ys)
    ∙ sym (append_assoc (join (values_at (parts es) r x.name o)) (values_of es r o xs) (values_of es r o ys))

pub inside_group : (es : List Entry) (j : ℕ) → (get_or es j blank).what ≡ group true → inside_at es j ≡ true
unfolding inside_of
inside_group es j q = inside_by false es j λ b e. e ∙ ap (inside_of b (get_or es j blank).level) q

module _ {es : List Entry} {b : Bytes} {places : List ℕ} {r : Record} (held : IsRecord es b places r) (named : differ (names es) ≡ true) where
  abbrev from : ℕ → Bytes
  from j = start_of false es (drop record_head_size b) j

  module _ (j : ℕ) (less : j < length es) where
    abbrev left : Outcome Bytes
    left = after_entry (inside_at es j) (get_or es j blank) (drop (suc j) es) (from j)

    last_left : length es ≤ suc j → {mid : Bytes} → left ≡ done mid → mid ≡ []
    unfolding parts parts_from after_entry
    last_left l e = whole_body (parts es) b r held.stands λ rest h z.
        reach false es (drop record_head_size b) r rest blank j less h λ r' q.
        done_inj (sym (rw (drop_of_length-le es l) at e) ∙ ap rest_of (rw (drop_of_length-le es l) at q.stands)) ∙ z

    pub next_left : {mid : Bytes} → left ≡ done mid → from (suc j) ≡ mid
    next_left e = by_order (suc j) (length es)
        (λ l. start_next false es blank (drop record_head_size b) j l ∙ ap bytes_left e)
        (λ l. start_none false es (drop record_head_size b) (suc j) l ∙ sym (last_left l e))

    step_by : inside_at es j ≡ false → (w : What) → (get_or es j blank).what ≡ w → is_multiple w ≡ false
        → from j ≡ values_of es r 1 (field_of (get_or es j blank).name w) ++ from (suc j)
    unfolding field_of values_of stored_cell each
    step_by out (field f s mu) q m =
        let (h, mid, c) = cell_outside held named j 1 less (ap is_group q) out refl in
        let own : Field = record { name = (get_or es j blank).name; format = f; size = s; multiple = mu } in
        let vs = values_at (parts es) r (get_or es j blank).name 1 in
        let d : stored_cell own (from j) ≡ done (vs, mid) = rw (field_is es j f s mu q) at (ap (stored_cell (field_at es j)) (sym (held.starts j less).1) ∙ c) in
        let e = after_outside (inside_at es j) (get_or es j blank) (drop (suc j) es) (from j) (ap is_periodic q) out
        ∙ ap (λ (w : What). rest_of (each stored_cell (field_of (get_or es j blank).name w) (from j))) q ∙ each_single stored_cell own (from j) ∙ ap rest_of d in
        once_bytes mu f s (from j) m d ∙ rw (append-nil (join vs), next_left e) refl
    step_by out (group true) q m = absurd (never out (inside_group es j q))
    step_by out (group false) q m = sym (next_left
        (after_outside (inside_at es j) (get_or es j blank) (drop (suc j) es) (from j) (ap is_periodic q) out
        ∙ ap (λ (w : What). rest_of (each stored_cell (field_of (get_or es j blank).name w) (from j))) q))

  chain : (n first end : ℕ) → first + n ≡ end → end ≤ length es → Outside es first end → from first ≡ values_of es r 1 (fields_in (slice first end es)) ++ from end
  unfolding fields_in values_of
  chain zero first end e h out = let z : first ≡ end = omega arith in rw (z, slice_empty end es) refl
  chain (suc n) first end e h out =
      let less : first < end = omega arith in
      let o = out first (omega arith) less in
      let own = field_of (get_or es first blank).name (get_or es first blank).what in
      step_by first (omega arith) o.0 (get_or es first blank).what refl o.1
      ∙ ap (λ (bs : Bytes). values_of es r 1 own ++ bs) (chain n (suc first) end (omega arith) h (λ j k l. out j (omega arith) l))
      ∙ sym (append_assoc (values_of es r 1 own) (values_of es r 1 (fields_in (slice (suc first) end es))) (from end))
      ∙ rw (fields_first es blank first end less h, values_append es r 1 own (fields_in (slice (suc first) end es))) refl

  pub piece_stands : (first end : ℕ) → first ≤ end → end ≤ length es → Outside es first end → (p q : ℕ) → p ≤ length b → drop p b ≡ from first → q ≤ length b → drop q b ≡ from end
      → PieceOf es b first end 1 r (Some (p, q))
  piece_stands first end o h out p q hp dp hq dq =
      let vs = values_of es r 1 (fields_in (slice first end es)) in
      let d : drop p b ≡ vs ++ drop q b = dp ∙ chain (end - first) first end (omega arith) h out ∙ ap (λ (bs : Bytes). vs ++ bs) (sym dq) in
      let l = ap length d ∙ length-append vs (drop q b) in
      let n : length vs ≡ q - p = omega (arith, l, length-drop p b, length-drop q b) in
      let cells : Celled es first end 1 r = λ j low high g. let c = cell_outside held named j 1 (omega arith) g (out j low high).0 refl in (drop (get_or places j 0) b, c.1, c.2) in
      (omega (arith, l, length-drop p b, length-drop q b), hq, ap (take (q - p)) d ∙ take_at vs (drop q b) (q - p) n, cells)
