-- What is wanted of a cell, run by run: those of its values that exist, and null for the others; values at their own format and length
-- are the bytes that are stored.
use Rattle.std.specs.Prelude.{Err, Ok, Result, Some}
use mathlib.Core.Path.{◌≡◌, refl, sym, ◌∙◌, ap, subst}
use mathlib.Core.Bool.{Bool}
use mathlib.Core.List.{List, [], ◌∷◌, ◌++◌, map, map-id}
use Prim.Native.Nat.{ℕ, zero, suc, pred, ◌+◌, ◌-◌, ◌≤◌}
use native.Mathlib.Nat.{sub-zero, suc-sub-suc}
use native.Mathlib.Omega.{arith}
use lib.ListN.{length, take, drop, get_or, replicate, length-append, length-drop, drop_of_length-le, get_or-eq_default}
use lib.Seq.{drop-cons, take-nil, take_at}
use Rattle.rules.specs.Outcome.{Outcome, done}
use Rattle.rules.specs.Limits.{greatest_count, highest_index}
use Rattle.rules.specs.Lists.{Bytes, run, join}
use Rattle.rules.specs.Values.{content, converted_bytes, read_value, null}
use Rattle.rules.specs.Values as Rules
use Rattle.rules.proofs.Lengths.{read_done}
use Rattle.rules.specs.Record.{times, stored_value}
use Rattle.rules.specs.Format.{Range}
use Rattle.rules.specs.Use.{over}
use Rattle.rules.specs.declared.Refusal.{Refusal}
use Rattle.rules.proofs.Readers.{times_sound, value_sound}
use Rattle.values.proofs.Meant.{null_converted, converted_itself}
use Rattle.value_formats.specs.Formats.{format_at}
use Rattle.value_formats.specs.declared.Format.{Format}
use Rattle.buffer.proofs.Cases.{by_order}
use Rattle.records.specs.Walk.{rest_of, Ends, Walked}
use Rattle.rules.proofs.Steps.{done_inj}
use Rattle.records.proofs.Cells.{times_first, times_none, times_length, value_first}
use Rattle.filling.specs.Filling.{in_room, Filling, Continues, together}
use Rattle.reading.specs.Cells.{Wants, values_meant, converted_to, wanted, existing, Stand, Exist}
use Rattle.reading.specs.declared.cells.ValueRun.{ValueRun}
use Rattle.reading.specs.declared.cells.Wanted.{Wanted}
use Rattle.filling.proofs.Continues.{continues_start, continues_last, turn, turn_within, stop}
use Rattle.filling.proofs.Together.{together_done, together_copies}
use Rattle.reading.proofs.Existing.{meant_lies}

-- Values by their numbers from one on: those that the list has, and then one value for the others.
module _ (f : Bytes → Outcome Bytes) (d : Bytes) (vs : List Bytes) where
  by_number : (n i : ℕ) → run (λ k. f (get_or vs (pred k) d)) (suc i) n ≡ map f (take n (drop i vs)) ++ replicate (n - length (take n (drop i vs))) (f d)
  unfolding run
  by_number zero i = refl
  by_number (suc n) i = by_order i (length vs)
      (λ h. rw (drop-cons vs i d h, suc-sub-suc) (ap (λ (os : List (Outcome Bytes)). f (get_or vs i d) ∷ os) (by_number n (suc i))))
      (λ h.
      let e : drop (suc i) vs ≡ [] = drop_of_length-le vs {i = suc i} (omega arith) in
      let t : take n (drop (suc i) vs) ≡ [] = ap (take n) e ∙ take-nil n in
      rw (drop_of_length-le vs h, get_or-eq_default vs d h, sub-zero) (ap (λ (os : List (Outcome Bytes)). f d ∷ os) (by_number n (suc i) ∙ rw (t, sub-zero) refl)))

  by_range : (r : Range) → 1 ≤ r.from → over r (λ k. f (get_or vs (pred k) d))
      ≡ map f (take (r.upto + 1 - r.from) (drop (r.from - 1) vs)) ++ replicate (r.upto + 1 - r.from - length (take (r.upto + 1 - r.from) (drop (r.from - 1) vs))) (f d)
  by_range r low =
      let e : r.from ≡ suc (r.from - 1) = omega arith in
      let m : suc r.upto - r.from ≡ r.upto + 1 - r.from = omega arith in
      ap (run (λ k. f (get_or vs (pred k) d)) r.from) m
      ∙ ap (λ (i : ℕ). run (λ k. f (get_or vs (pred k) d)) i (r.upto + 1 - r.from)) e
      ∙ by_number (r.upto + 1 - r.from) (r.from - 1)

-- Values that stand in the bytes, converted to their own format and length.
own_converted : (f : Rules.Format) (m n : ℕ) (bs rest : Bytes) (us : List Bytes) → times n (stored_value f m) bs ≡ done (us, rest)
    → map (λ v. read_value f f m (content m v)) us ≡ map done us
own_converted f m zero bs rest us p = let e = (times_none (stored_value f m) bs p).0 in rw e refl
own_converted f m (suc n) bs rest us p = times_first (stored_value f m) n bs p λ v ys mid e h t.
    value_first f m bs h λ c g k l i s.
    let o : read_value f f m (content m v) ≡ done v = read_done f f m (content m v) (ap (converted_bytes f f m) i ∙ converted_itself f m c k ∙ ap done (sym l)) in
    rw (e, o) (ap (λ (os : List (Outcome Bytes)). done v ∷ os) (own_converted f m n mid rest ys t))

module _ (w : Wanted) (b : Bytes) (at n : ℕ) (us : List Bytes) (s : Stand w b at n us) where
  pub as_stored : w.own ≡ w.format → w.standard ≡ w.size → map (converted_to w) us ≡ map done us
  as_stored e e₂ =
      ap (λ (f : Format). map (λ (v : Bytes). read_value (format_at w.own) (format_at f) w.size (content w.standard v)) us) (sym e)
      ∙ ap (λ (k : ℕ). map (λ (v : Bytes). read_value (format_at w.own) (format_at w.own) k (content w.standard v)) us) (sym e₂)
      ∙ own_converted (format_at w.own) w.standard n (drop at b) s.0 us s.1

  -- They end somewhere, and are the bytes up to there.
  pub they_end : Ends (rest_of (times n (stored_value (format_at w.own) w.standard) (drop at b)))
  they_end = (s.0, ap rest_of s.1)

  module _ (h : at ≤ length b) {upto : ℕ} (y : Walked b (rest_of (times n (stored_value (format_at w.own) w.standard) (drop at b))) (Some upto)) where
    pub stored_bytes : (at ≤ upto) × (take (upto - at) (drop at b) ≡ join us)
    stored_bytes =
        let place = y.place in
        let q : drop at b ≡ join us ++ drop upto b =
        (times_sound (stored_value (format_at w.own) w.standard) (λ v. v) (value_sound (format_at w.own) w.standard) n (drop at b) us s.0 s.1).1
        ∙ ap (λ (vs : List Bytes). join vs ++ s.0) (map-id us) ∙ ap (λ (r : Bytes). join us ++ r) (done_inj (sym (ap rest_of s.1) ∙ sym y.answer)) in
        let l : length b - at ≡ length (join us) + (length b - upto) = sym (length-drop at b) ∙ ap length q ∙ length-append (join us) (drop upto b) ∙ ap (λ (k : ℕ). length (join us) + k) (length-drop upto b) in
        let m : length (join us) ≡ upto - at = omega arith in
        (omega arith, ap (take (upto - at)) q ∙ take_at (join us) (drop upto b) (upto - at) m)

    -- Copied in one piece they are put as each by itself.
    pub copied : w.own ≡ w.format → w.standard ≡ w.size → (room : ℕ) {start : ℕ} {write : Bool} {out out' : Bytes} {m : (Result ℕ Refusal)} → Filling (in_room room (done (take (upto - at) (drop at b)))) start write out out' m
        → Filling (together room (map (converted_to w) us)) start write out out' m
    copied own size room {start} {write} {out} {out'} {m} = subst (λ (o : Outcome Bytes). Filling o start write out out' m)
        (ap (λ (bs : Bytes). in_room room (done bs)) stored_bytes.1 ∙ sym (ap (together room) (as_stored own size) ∙ together_done us room))

-- What is wanted of a cell is put: the run of those that exist, and then nulls.
module _ {w : Wanted} (h : Wants w) {b : Bytes} {vs : List Bytes} (few : length vs ≤ greatest_count) {r : ValueRun} (x : Exist w b vs r) where
  pub missing_few : r.missing ≤ highest_index
  missing_few = omega (arith, x.missing, meant_lies w (length vs) h few)

  abbrev nulls : List (Outcome Bytes)
  nulls = replicate r.missing (done (null (format_at w.format) w.size))

  missing_is : (values_meant w (length vs)).upto + 1 - (values_meant w (length vs)).from - length (existing w vs) ≡ r.missing
  missing_is =
      ap (λ (n : ℕ). (values_meant w (length vs)).upto + 1 - (values_meant w (length vs)).from - n)
      (times_length (stored_value (format_at w.own) w.standard) r.count (drop r.at b) x.stand.1) ∙ sym x.missing

  in_runs : wanted w vs ≡ map (converted_to w) (existing w vs) ++ nulls
  in_runs =
      by_range (converted_to w) (null (format_at w.own) w.standard) vs (values_meant w (length vs)) (meant_lies w (length vs) h few).first
      ∙ ap (λ (n : ℕ). map (converted_to w) (existing w vs) ++ replicate n (converted_to w (null (format_at w.own) w.standard))) missing_is
      ∙ ap (λ (o : Outcome Bytes). map (converted_to w) (existing w vs) ++ replicate r.missing o)
      (read_done (format_at w.own) (format_at w.format) w.size _ (null_converted (format_at w.own) (format_at w.format) w.standard w.size h.converts h.standard h.size))

  module _ {at end : ℕ} {write : Bool} {out out' : Bytes} {m : (Result ℕ Refusal)} (fits : at ≤ end) (room : end ≤ length out) (f : Filling (together (end - at) (map (converted_to w) (existing w vs))) at write out out' m) where
    begun : Continues (together (end - at) (wanted w vs)) (together (end - at) (map (converted_to w) (existing w vs) ++ nulls)) at at write out out
    begun = subst (λ (os : List (Outcome Bytes)). Continues (together (end - at) (wanted w vs)) (together (end - at) os) at at write out out) in_runs (continues_start (together (end - at) (wanted w vs)) at write out)

    pub cell_off : (k : Refusal) → m ≡ Err k → Filling (together (end - at) (wanted w vs)) at write out out' (Err k)
    cell_off k e = stop end (map (converted_to w) (existing w vs)) nulls begun f fits room k e

    pub cell_within : (p : ℕ) → m ≡ Ok p → p ≤ end
    cell_within p e = (turn_within end (map (converted_to w) (existing w vs)) nulls begun f fits room p e).1

    pub cell_on : (p : ℕ) → m ≡ Ok p → {out'' : Bytes} {m₂ : (Result ℕ Refusal)}
        → Filling (in_room (end - p) (done (join (replicate r.missing (null (format_at w.format) w.size))))) p write out' out'' m₂
        → Filling (together (end - at) (wanted w vs)) at write out out'' m₂
    cell_on p e {out''} {m₂} f₂ = continues_last (turn end (map (converted_to w) (existing w vs)) nulls begun f fits room p e)
        (subst (λ (o : Outcome Bytes). Filling o p write out' out'' m₂) (sym (together_copies r.missing (null (format_at w.format) w.size) (end - p))) f₂)
