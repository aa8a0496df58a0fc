-- Occurrences of a periodic group whose fields are plain stand one after the other: each is as wide, and where it ends the next begins.
use Rattle.std.specs.Prelude.{Some}
use mathlib.Core.Path.{◌≡◌, refl, sym, ap}
use mathlib.Core.Bool.{true}
use mathlib.Core.List.{List, ◌++◌}
use Prim.Native.Nat.{ℕ, zero, suc, ◌+◌, ◌*◌, ◌-◌, ◌≤◌, ◌<◌}
use native.Mathlib.Nat.{zero-mul}
use native.Mathlib.Omega.{arith}
use lib.ListN.{length, drop, get_or}
use lib.Seq.{slice, take-add, drop-drop}
use Rattle.rules.specs.Lists.{Bytes, all, join, run}
use Rattle.rules.specs.Table.{group, Entry, Field, parts}
use Rattle.rules.specs.Use.{plain}
use Rattle.rules.specs.Record.{Record, times, group_count_at}
use Rattle.buffer.proofs.Cases.{by_order}
use Rattle.tables.specs.Entries.{Valid, entries_of, blank}
use Rattle.tables.specs.Groups.{group_end, fields_in}
use Rattle.tables.proofs.Tables.{valid_names}
use Rattle.records.specs.Walk.{rest_of, Walked, occurrence}
use Rattle.records.specs.Paths.{lengths}
use Rattle.records.specs.Places.{IsRecord, values_of, OccurrencesOf}
use Rattle.records.proofs.Walks.{times_more, walked_as}
use Rattle.records.proofs.Ends.{group_within}
use Rattle.records.proofs.Occurrences.{between_over}
use Rattle.records.proofs.Skips.{fields_skipped}
use Rattle.records.proofs.Placed.{members_end}
use Rattle.records.proofs.Strips.{piece_in}

module _ (t : Bytes) (valid : Valid t) {b : Bytes} {places : List ℕ} {r : Record} (held : IsRecord (entries_of t) b places r) (g : ℕ)
    (level : (get_or (entries_of t) g blank).level ≡ 1) (periodic : (get_or (entries_of t) g blank).what ≡ group true) (there : g < length (entries_of t))
    (plains : all plain (fields_in (slice (g + 1) (group_end (entries_of t) g) (entries_of t))) ≡ true) where
  abbrev es : List Entry
  es = entries_of t

  abbrev fs : List Field
  fs = fields_in (slice (g + 1) (group_end es g) es)

  -- Occurrence o stands at p.
  abbrev RowAt : ℕ → ℕ → Type 0
  RowAt o p = Walked b (rest_of (times (o - 1) (occurrence es g) (drop (get_or places g 0 + 1) b))) (Some p)

  next_row : (o p : ℕ) → 1 ≤ o → o ≤ group_count_at (parts es) r (get_or es g blank).name → RowAt o p → RowAt (suc o) (p + lengths fs)
  unfolding occurrence
  next_row o p some many row =
      let z : suc o - 1 ≡ suc (o - 1) = omega arith in
      let e = members_end held (valid_names t valid) g there periodic level o some many p row (group_end es g) (omega (arith, (group_within es g there).0)) (omega arith) in
      let w = fields_skipped fs plains b p row.place e in
      rw z (walked_as (times_more (occurrence es g) (o - 1) (drop (get_or places g 0 + 1) b) (sym row.answer) refl) w)

  pub rows_in : (n o p : ℕ) → 1 ≤ o → o + n ≤ group_count_at (parts es) r (get_or es g blank).name + 1 → RowAt o p → OccurrencesOf es b g o n (lengths fs) r p
  unfolding run join
  rows_in zero o p some many row = record { inside = omega (arith, row.place); bytes = rw (zero-mul (lengths fs)) refl; cells = λ k low high. absurd (omega arith) }
  rows_in (suc n) o p some many row =
      let w = lengths fs in
      let exists : o ≤ group_count_at (parts es) r (get_or es g blank).name = omega arith in
      let first = piece_in t valid held g o some level periodic there exists p row (g + 1) (group_end es g) p (group_within es g there).0 (omega arith) (omega arith) plains
      (walked_as (between_over es (g + 1) (drop p b)) (record { answer = refl; place = row.place })) in
      let rest = rows_in n (suc o) (p + w) (omega arith) (omega arith) (next_row o p some exists row) in
      let q : p + w - p ≡ w = omega arith in
      let m : suc n * w ≡ w + n * w = omega arith in
      record {
        inside = omega (arith, rest.inside, m);
        bytes = rw (m, take-add w (n * w) (drop p b), drop-drop w p b, rest.bytes) (ap (λ (bs : Bytes). bs ++ join (run (λ k. values_of es r k fs) (suc o) n)) (rw q at first.2));
        cells = λ k low high. by_order o k (λ l. rest.cells k (omega arith) (omega arith)) (λ l. let z : k ≡ o = omega arith in rw z first.3);
      }
