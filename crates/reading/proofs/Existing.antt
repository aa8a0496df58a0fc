-- Those of the values meant that exist, where a cell stands: after the values before them, as many as the cell has or as are meant.
use Rattle.std.specs.Prelude.{None, Option, Some}
use mathlib.Core.Path.{◌≡◌, refl, sym, ◌∙◌, ap, subst}
use mathlib.Core.Bool.{Bool, true, false}
use mathlib.Core.List.{List, []}
use Prim.Native.Nat.{ℕ, zero, suc, ◌+◌, ◌-◌, ◌≤◌, ◌<◌, min}
use native.Mathlib.Nat.{sub-zero, suc-sub-suc, not-suc-le-zero, le_of_suc-le-suc}
use native.Mathlib.Numerals.{add-one}
use native.Mathlib.Omega.{arith}
use lib.ListN.{length, take, drop, get_or, drop_of_length-le, length-drop}
use lib.Seq.{take-nil, take_all}
use Rattle.rules.specs.Outcome.{done}
use Rattle.rules.specs.Limits.{greatest_count, highest_index}
use Rattle.rules.specs.Lists.{Bytes}
use Rattle.rules.specs.Values.{Format}
use Rattle.rules.specs.Record.{Reader, times, counted, stored_value}
use Rattle.rules.specs.Format.{Range}
use Rattle.rules.specs.Last.{resolved}
use Rattle.rules.proofs.Steps.{done_inj}
use Rattle.value_formats.specs.Formats.{format_at}
use Rattle.format_buffer.specs.Elements.{range}
use Rattle.format_buffer.specs.declared.Scope.{Scope}
use Rattle.format_buffer.specs.declared.Scope.TheVariants.{AsWritten, LastAlone, UpToLast}
use Rattle.uses.specs.Scopes.{scope_at}
use Rattle.records.specs.Walk.{rest_of, Walked, Ends}
use Rattle.buffer.proofs.Cases.{by_order}
use Rattle.records.proofs.Entries.{never}
use Rattle.records.proofs.Cells.{times_first, times_length, counted_many, byte_there}
use Rattle.reading.specs.Cells.{Wants, CellHolds, values_meant, Stand, Exist}
use Rattle.reading.specs.declared.cells.Wanted.{Wanted}

-- The first k of n, and those after them.
times_parts : {X C : Type 0} (one : Reader X) (n k : ℕ) (bs : Bytes) {rest : Bytes} {xs : List X} → k ≤ n → times n one bs ≡ done (xs, rest)
    → ((mid : Bytes) → times k one bs ≡ done (take k xs, mid) → times (n - k) one mid ≡ done (drop k xs, rest) → C) → C
unfolding times
times_parts one n zero bs l p c = c bs refl (rw (sub-zero n) p)
times_parts one zero (suc k) bs l p c = absurd (not-suc-le-zero l)
times_parts one (suc n) (suc k) bs l p c = times_first one n bs p λ x ys mid e h t.
    times_parts one n k mid (le_of_suc-le-suc l) t λ m h₁ h₂. c m (rw (e, h, h₁) refl) (rw (e, suc-sub-suc n k) h₂)

-- Indexes that begin at 1 or above and end within the bounds; there may be none.
pub record Lies (r : Range) : Type 0 where
  pub first : 1 ≤ r.from
  pub ordered : r.from ≤ r.upto + 1
  pub last : r.upto ≤ highest_index

lies : (s : Scope) (first last n : ℕ) → 1 ≤ first → first ≤ last → last ≤ highest_index → n ≤ greatest_count → Lies (resolved (scope_at s) (range first last) n)
lies AsWritten first last n h o l few = record { first = h; ordered = omega arith; last = l }
lies LastAlone first last n h o l few = record { first = omega arith; ordered = omega arith; last = omega arith }
lies UpToLast first last n h o l few = record { first = omega arith; ordered = omega arith; last = omega arith }

pub meant_lies : (w : Wanted) (n : ℕ) → Wants w → n ≤ greatest_count → Lies (values_meant w n)
meant_lies w n h few = lies w.scope w.first w.last n h.first h.ordered h.last few

as_written : (s : Scope) → ((s ≡ AsWritten → ⊥) → ⊥) → (x : Range) (n : ℕ) → x ≡ resolved (scope_at s) x n
as_written AsWritten h x n = refl
as_written LastAlone h x n = absurd (h λ e. cc)
as_written UpToLast h x n = absurd (h λ e. cc)

-- The numbers of the values meant, as the code has them; of a field that is not MU they are as written.
pub meant_by : (w : Wanted) {k n first last : ℕ} → k ≡ n → first ≡ (values_meant w k).from → last ≡ (values_meant w k).upto → range first last ≡ values_meant w n
meant_by w e f l = rw (f, l) (ap (values_meant w) e)

pub meant_written : (w : Wanted) (n : ℕ) → Wants w → w.multiple ≡ false → range w.first w.last ≡ values_meant w n
meant_written w n h single = as_written w.scope (λ d. never single (h.scope d)) (range w.first w.last) n

-- A cell has no more values than a count says.
pub held_few : (b : Bytes) (f : Format) (n : ℕ) (mu : Bool) (vs : List Bytes) (cell : Option ℕ) → CellHolds b f n mu vs cell → length vs ≤ greatest_count
unfolding counted
held_few b f n true vs (Some q) x = counted_many (stored_value f n) (drop q b) x.2 λ tail h most t. most
held_few b f n false vs (Some q) x = let e = times_length (stored_value f n) 1 (drop q b) x.2 in omega arith
held_few b f n mu vs None x = let e = ap length x in omega arith

module _ (w : Wanted) (b : Bytes) (vs : List Bytes) where
  -- The values meant, by their numbers.
  module _ {first last : ℕ} (m : range first last ≡ values_meant w (length vs)) where
    exist : (at n k : ℕ) → at ≤ length b → Stand w b at n (take (last + 1 - first) (drop (first - 1) vs)) → k ≡ last + 1 - first - n
        → Exist w b vs (record { at = at; count = n; missing = k })
    exist at n k p s e = record {
      place = p;
      stand = subst (λ (r : Range). Stand w b at n (take (r.upto + 1 - r.from) (drop (r.from - 1) vs))) m s;
      missing = e ∙ ap (λ (r : Range). r.upto + 1 - r.from - n) m;
    }

    pub within : Wants w → length vs ≤ greatest_count → Lies (range first last)
    within h few = subst Lies (sym m) (meant_lies w (length vs) h few)

    pub exist_none : length vs < first → Exist w b vs (record { at = 0; count = 0; missing = last + 1 - first })
    unfolding times
    exist_none l =
        let z : take (last + 1 - first) (drop (first - 1) vs) ≡ [] = ap (take (last + 1 - first)) (drop_of_length-le vs {i = first - 1} (omega arith)) ∙ take-nil (last + 1 - first) in
        exist 0 0 (last + 1 - first) (omega arith) (b, ap (λ (us : List Bytes). done (us, b)) (sym z)) (omega arith)

  -- The cell of an MU field.
  module _ (cell : ℕ) (x : CellHolds b (format_at w.own) w.standard true vs (Some cell)) where
    pub cell_many : (cell < length b) × (get_or b cell 0 ≡ length vs) × (length vs ≤ greatest_count)
        × (times (length vs) (stored_value (format_at w.own) w.standard) (drop (cell + 1) b) ≡ done (vs, x.1))
    cell_many = counted_many (stored_value (format_at w.own) w.standard) (drop cell b) x.2 λ tail h most t.
        let y = byte_there b cell h in (y.0, y.1, most, rw (add-one cell, ← y.2) t)

    module _ {first last : ℕ} (m : range first last ≡ values_meant w (length vs)) (low : 1 ≤ first) (there : first ≤ length vs) where
      pub before_first : Ends (rest_of (times (first - 1) (stored_value (format_at w.own) w.standard) (drop (cell + 1) b)))
      before_first = times_parts (stored_value (format_at w.own) w.standard) (length vs) (first - 1) (drop (cell + 1) b) (omega arith) cell_many.3
          λ mid h₁ h₂. (mid, ap rest_of h₁)

      module _ (at : ℕ) (s : Walked b (rest_of (times (first - 1) (stored_value (format_at w.own) w.standard) (drop (cell + 1) b))) (Some at)) where
        exist_some : (n k : ℕ) → n ≤ length vs - (first - 1) → take n (drop (first - 1) vs) ≡ take (last + 1 - first) (drop (first - 1) vs) → k ≡ last + 1 - first - n
            → Exist w b vs (record { at = at; count = n; missing = k })
        exist_some n k l e q = times_parts (stored_value (format_at w.own) w.standard) (length vs) (first - 1) (drop (cell + 1) b) (omega arith) cell_many.3
            λ mid h₁ h₂. times_parts (stored_value (format_at w.own) w.standard) (length vs - (first - 1)) n mid l h₂
            λ end h₃ h₄.
            let m₁ : mid ≡ drop at b = done_inj (sym (ap rest_of h₁) ∙ sym s.answer) in
            exist m at n k s.place (end, rw (← m₁, ← e) h₃) q

        -- The cell ends before the last value meant, or it does not.
        pub exist_there : (n k : ℕ) → n ≡ min last (length vs) + 1 - first → k ≡ last - min last (length vs) → Exist w b vs (record { at = at; count = n; missing = k })
        exist_there n k e q =
            let l = length-drop (first - 1) vs in
            by_order (length vs) last
            (λ short. exist_some n k (omega arith) (take_all n (drop (first - 1) vs) (omega arith) ∙ sym (take_all (last + 1 - first) (drop (first - 1) vs) (omega arith))) (omega arith))
            (λ long. let z : n ≡ last + 1 - first = omega arith in exist_some n k (omega arith) (ap (λ (m : ℕ). take m (drop (first - 1) vs)) z) (omega arith))

  -- The cell of another field.
  module _ (cell : ℕ) (x : CellHolds b (format_at w.own) w.standard false vs (Some cell)) where
    pub one_long : length vs ≡ 1
    unfolding counted
    one_long = times_length (stored_value (format_at w.own) w.standard) 1 (drop cell b) x.2

    pub exist_one : {first last : ℕ} → range first last ≡ values_meant w (length vs) → first ≡ 1 → 1 ≤ last → Exist w b vs (record { at = cell; count = 1; missing = last - 1 })
    unfolding counted
    exist_one {first} {last} m e l =
        let z : first - 1 ≡ 0 = omega arith in
        let q : take (last + 1 - first) (drop (first - 1) vs) ≡ vs = ap (λ (k : ℕ). take (last + 1 - first) (drop k vs)) z ∙ take_all (last + 1 - first) vs (omega (arith, one_long)) in
        exist m cell 1 (last - 1) x.0 (x.1, x.2 ∙ ap (λ (us : List Bytes). done (us, x.1)) (sym q)) (omega arith)
