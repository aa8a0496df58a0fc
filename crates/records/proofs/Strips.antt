-- Plain fields in an occurrence of a periodic group stand one after the other: from each on stand its bytes, and then, its length further, the next.
use Rattle.std.specs.Prelude.{Some}
use mathlib.Core.Path.{◌≡◌, refl, sym, ◌∙◌, ap}
use mathlib.Core.Bool.{true}
use mathlib.Core.List.{List, [], ◌∷◌, ◌++◌, append_assoc, append-nil}
use Prim.Native.Nat.{ℕ, zero, suc, ◌+◌, ◌-◌, ◌≤◌, ◌<◌}
use native.Mathlib.Nat.{add-zero}
use native.Mathlib.Omega.{arith}
use lib.ListN.{length, take, drop, get_or, length-append, length-drop}
use lib.Seq.{slice, slice_empty, take_at}
use Rattle.rules.specs.Outcome.{done}
use Rattle.rules.specs.Lists.{Bytes, all, join}
use Rattle.rules.specs.Table.{What, field, group, Entry, Field, parts}
use Rattle.rules.specs.Use.{plain}
use Rattle.rules.specs.Record.{Record, times, each, stored_cell, group_count_at, values_at}
use Rattle.rules.proofs.Steps.{done_inj, and_left, and_right, true_T, T_true}
use Rattle.tables.specs.Entries.{Valid, entries_of, blank, is_group}
use Rattle.tables.specs.Groups.{group_end, fields_in}
use Rattle.tables.specs.Places.{Home}
use Rattle.tables.proofs.Tables.{valid_names, valid_sound}
use Rattle.tables.proofs.Nesting.{members_inside}
use Rattle.records.specs.Walk.{rest_of, Walked, occurrence}
use Rattle.records.specs.Where.{field_of}
use Rattle.records.specs.Paths.{lengths}
use Rattle.records.specs.Places.{IsRecord, values_of, Celled, Valueless, PieceOf}
use Rattle.records.proofs.Walks.{walked_as}
use Rattle.records.proofs.Checking.{each_on}
use Rattle.records.proofs.Ends.{each_single, group_within}
use Rattle.records.proofs.Groups.{fields_first, fields_split}
use Rattle.records.proofs.Skips.{plain_both, fields_skipped}
use Rattle.records.proofs.Widths.{plains_append, lengths_append}
use Rattle.records.proofs.Placed.{field_is, cell_missing, cell_there, cell_stands}
use Rattle.records.proofs.Pieces.{once_bytes, values_append, inside_group}

-- The field that an entry is, if it is one.
abbrev own : List Entry → ℕ → List Field
own es i = field_of (get_or es i blank).name (get_or es i blank).what

-- A walk that stands after the fields before an entry stands next after its own.
walked_next : (es : List Entry) (i g : ℕ) (b bs : Bytes) (q w : ℕ) → g < i → i < length es → Walked b (rest_of (each stored_cell (fields_in (slice (g + 1) i es)) bs)) (Some q)
    → Walked b (rest_of (each stored_cell (own es i) (drop q b))) (Some w) → Walked b (rest_of (each stored_cell (fields_in (slice (g + 1) (suc i) es)) bs)) (Some w)
unfolding fields_in
walked_next es i g b bs q w k less p n =
    let single : fields_in (slice i (suc i) es) ≡ own es i = fields_first es blank i (suc i) (omega arith) less ∙ rw (slice_empty (suc i) es) (append-nil (own es i)) in
    let e = fields_split es blank (i - (g + 1)) (g + 1) i (suc i) (omega arith) (omega arith) less ∙ ap (λ (fs : List Field). fields_in (slice (g + 1) i es) ++ fs) single in
    walked_as (rw e (each_on stored_cell (own es i) (fields_in (slice (g + 1) i es)) bs (drop q b) (sym p.answer))) n

module _ (t : Bytes) (valid : Valid t) {b : Bytes} {places : List ℕ} {r : Record} (held : IsRecord (entries_of t) b places r) (g o : ℕ) (some : 1 ≤ o)
    (level : (get_or (entries_of t) g blank).level ≡ 1) (periodic : (get_or (entries_of t) g blank).what ≡ group true) (there : g < length (entries_of t)) where
  abbrev es : List Entry
  es = entries_of t

  -- What lies among its members has it for its home.
  pub home_in : (k : ℕ) → g < k → k < group_end es g → Home es k g
  unfolding group_end
  home_in k l m = record {
    upto = omega arith;
    level = level;
    periodic = periodic;
    within = let z = rw level at m in omega arith;
    inside = members_inside es (valid_sound t valid) g (omega arith) k (omega arith) m ∙ inside_group es g periodic;
  }

  -- No such occurrence.
  pub none_in : group_count_at (parts es) r (get_or es g blank).name < o → (first end : ℕ) → g < first → end ≤ group_end es g → Valueless es first end o r
  none_in few first end k h j low high single =
      cell_missing held (valid_names t valid) j g o (omega (arith, (group_within es g there).1)) single some (home_in j (omega arith) (omega arith)) few

  module _ (many : o ≤ group_count_at (parts es) r (get_or es g blank).name) (p : ℕ)
      (row : Walked b (rest_of (times (o - 1) (occurrence es g) (drop (get_or places g 0 + 1) b))) (Some p)) where
    -- An entry's own bytes, and what stands after them.
    record Next (q : ℕ) (fs : List Field) : Type 0 where
      place : Walked b (rest_of (each stored_cell fs (drop q b))) (Some (q + lengths fs))
      bytes : drop q b ≡ values_of es r o fs ++ drop (q + lengths fs) b

    step_in : (j q : ℕ) → g < j → j < group_end es g → (w : What) → (get_or es j blank).what ≡ w → all plain (field_of (get_or es j blank).name w) ≡ true
        → Walked b (rest_of (each stored_cell (fields_in (slice (g + 1) j es)) (drop p b))) (Some q) → Next q (field_of (get_or es j blank).name w)
    unfolding values_of field_of lengths each all plain stored_cell
    step_in j q l m (group x) e h before =
        let z : q + 0 ≡ q = add-zero q in
        record { place = record { answer = ap (λ k. done (drop k b)) z; place = omega (arith, before.place) }; bytes = ap (λ k. drop k b) (sym z) }
    step_in j q l m (field f s mu) e h before =
        let (c, rest, d₁) = cell_stands held (valid_names t valid) j g o (omega (arith, (group_within es g there).1)) (ap is_group e) some (home_in j l m) many p row q before in
        let x : Field = record { name = (get_or es j blank).name; format = f; size = s; multiple = mu } in
        let vs = values_at (parts es) r (get_or es j blank).name o in
        let d : stored_cell x (drop q b) ≡ done (vs, rest) = rw (field_is es j f s mu e) at d₁ in
        let k = each_single stored_cell x (drop q b) ∙ ap rest_of d in
        let w = fields_skipped (x ∷ []) h b q c (rest, k) in
        let z : drop (q + lengths (x ∷ [])) b ≡ rest = done_inj (w.answer ∙ k) in
        record {
          place = w;
          bytes = plain_both mu s (all plain []) h λ n size more. once_bytes mu f s (drop q b) n d ∙ rw (append-nil (join vs), z) refl;
        }

    chain_in : (n first end q : ℕ) → first + n ≡ end → g < first → end ≤ group_end es g → all plain (fields_in (slice first end es)) ≡ true
        → Walked b (rest_of (each stored_cell (fields_in (slice (g + 1) first es)) (drop p b))) (Some q)
        → (q + lengths (fields_in (slice first end es)) ≤ length b)
        × (drop q b ≡ values_of es r o (fields_in (slice first end es)) ++ drop (q + lengths (fields_in (slice first end es))) b)
    unfolding fields_in values_of lengths
    chain_in zero first end q e k h c before = let z : first ≡ end = omega arith in rw (z, slice_empty end es, add-zero q) (before.place, refl)
    chain_in (suc n) first end q e k h c before =
        let most = (group_within es g there).1 in
        let fs = own es first in
        let gs = fields_in (slice (suc first) end es) in
        let f = fields_first es blank first end (omega arith) (omega (arith, most)) in
        let both = true_T (sym (plains_append fs gs) ∙ sym (ap (all plain) f) ∙ c) in
        let here = T_true (all plain fs) (and_left (all plain fs) (all plain gs) both) in
        let there-on = T_true (all plain gs) (and_right (all plain fs) (all plain gs) both) in
        let x = step_in first q k (omega arith) (get_or es first blank).what refl here before in
        let y = chain_in n (suc first) end (q + lengths fs) (omega arith) (omega arith) h there-on (walked_next es first g b (drop p b) q (q + lengths fs) k (omega (arith, most)) before x.place) in
        let z : q + lengths (fields_in (slice first end es)) ≡ q + lengths fs + lengths gs = omega (arith, ap lengths f, lengths_append fs gs) in
        rw (z, f, values_append es r o fs gs)
        (y.0, x.bytes ∙ ap (λ (bs : Bytes). values_of es r o fs ++ bs) y.1 ∙ sym (append_assoc (values_of es r o fs) (values_of es r o gs) (drop (q + lengths fs + lengths gs) b)))

    pub piece_in : (first end q : ℕ) → first ≤ end → g < first → end ≤ group_end es g → all plain (fields_in (slice first end es)) ≡ true
        → Walked b (rest_of (each stored_cell (fields_in (slice (g + 1) first es)) (drop p b))) (Some q) → PieceOf es b first end o r (Some (q, (q + lengths (fields_in (slice first end es)))))
    piece_in first end q l k h c before =
        let w = lengths (fields_in (slice first end es)) in
        let vs = values_of es r o (fields_in (slice first end es)) in
        let x = chain_in (end - first) first end q (omega arith) k h c before in
        let n : length vs ≡ q + w - q = omega (arith, ap length x.1, length-append vs (drop (q + w) b), length-drop q b, length-drop (q + w) b, x.0) in
        let cells : Celled es first end o r = λ j low high e.
        cell_there held (valid_names t valid) j g o (omega (arith, (group_within es g there).1)) e some (home_in j (omega arith) (omega arith)) many λ one cell next h₁ h₂ h₃. (cell, next, h₃) in
        (omega arith, x.0, ap (take (q + w - q)) x.1 ∙ take_at vs (drop (q + w) b) (q + w - q) n, cells)
