-- Where the part that an entry begins stands, with what is known of it beside its occurrences: the parts before it are passed, and after it stands the next one.
use mathlib.Core.Path.{◌≡◌, refl, sym, ◌∙◌, ap, subst}
use mathlib.Core.Bool.{Bool, true, false}
use mathlib.Core.List.{List, [], ◌∷◌}
use Prim.Native.Nat.{ℕ, zero, suc, ◌+◌, ◌-◌, ◌≤◌, ◌<◌}
use native.Mathlib.Nat.{not-suc-le-zero, le_of_suc-le-suc}
use native.Mathlib.Omega.{arith}
use lib.ListN.{length, drop, get_or}
use lib.Seq.{get_or-drop}
use Rattle.rules.specs.Outcome.{done}
use Rattle.rules.specs.Limits.{record_head_size}
use Rattle.rules.specs.Lists.{Bytes}
use Rattle.rules.specs.Values.{Format}
use Rattle.rules.specs.Table.{What, field, group, Entry, Part, is_inside, fields_below, alone, part_of, parts_from, parts}
use Rattle.rules.specs.Record.{Occurrence, Record, each, stored_part}
use Rattle.rules.proofs.Steps.{by_test}
use Rattle.rules.proofs.Back.{Beside}
use Rattle.tables.specs.Entries.{Valid, entries_of, blank, is_periodic}
use Rattle.tables.specs.Groups.{group_end}
use Rattle.tables.specs.Places.{inside_from, inside_at}
use Rattle.tables.proofs.LevelSteps.{periodic_what}
use Rattle.tables.proofs.Nesting.{run_levels, members_inside}
use Rattle.tables.proofs.Known.{level_known, periodic_level}
use Rattle.tables.proofs.Tables.{valid_names, valid_sound}
use Rattle.records.specs.Walk.{rest_of, after_entry, start_of}
use Rattle.records.specs.Places.{IsRecord}
use Rattle.records.proofs.Cells.{each_first}
use Rattle.records.proofs.Ends.{each_single, after_inside, group_within}
use Rattle.records.proofs.Passing.{parts_at}
use Rattle.records.proofs.Pieces.{inside_group, next_left}
use Rattle.records.proofs.Placed.{whole_body}

module _ (P : Part → List Occurrence → Type 0) where
  pass : {C : Type 0} (inside : Bool) (m : ℕ) (w : What) (es : List Entry) (ps : List Part) (bs : Bytes) (r : Record) (rest : Bytes)
      → each stored_part (part_of inside m w es ps) bs ≡ done (r, rest) → Beside P (part_of inside m w es ps) r
      → ((cs : Bytes) (r' : Record) → rest_of (each stored_part (part_of inside m w es []) bs) ≡ done cs → each stored_part ps cs ≡ done (r', rest) → Beside P ps r' → C) → C
  unfolding part_of alone each
  pass inside m (group true) es ps bs r rest p a k =
      let g : Part = record { name = m; periodic = true; members = fields_below 1 es } in
      each_first stored_part g ps bs p λ os r' mid e h t. k mid r' (rw h refl) t (subst (λ (z : Record). Beside P (g ∷ ps) z) e a).1
  pass inside m (group false) es ps bs r rest p a k = k bs r refl p a
  pass true m (field f s mu) es ps bs r rest p a k = k bs r refl p a
  pass false m (field f s mu) es ps bs r rest p a k =
      let g : Part = alone (record { name = m; format = f; size = s; multiple = mu }) in
      each_first stored_part g ps bs p λ os r' mid e h t. k mid r' (rw h refl) t (subst (λ (z : Record). Beside P (g ∷ ps) z) e a).1

  reach : {C : Type 0} (before : Bool) (es : List Entry) (bs : Bytes) (r : Record) (rest : Bytes) (j : ℕ) → j < length es
      → each stored_part (parts_from before es) bs ≡ done (r, rest) → Beside P (parts_from before es) r
      → ((r' : Record) → each stored_part (parts_at before es blank j) (start_of before es bs j) ≡ done (r', rest) → Beside P (parts_at before es blank j) r' → C) → C
  unfolding parts_from inside_from start_of after_entry
  reach before [] bs r rest j l p a k = absurd (not-suc-le-zero l)
  reach before (e ∷ es) bs r rest zero l p a k = k r p a
  reach before (e ∷ es) bs r rest (suc j) l p a k =
      pass (is_inside before e) e.name e.what es (parts_from (is_inside before e) es) bs r rest p a λ cs r₁ q s b.
      reach (is_inside before e) es cs r₁ rest j (le_of_suc-le-suc l) s b λ r' s' b'. k r' (rw q s') b'

  first : {C : Type 0} (p : Part) (ps : List Part) (bs : Bytes) (r : Record) (rest : Bytes) → each stored_part (p ∷ ps) bs ≡ done (r, rest) → Beside P (p ∷ ps) r
      → ((os : List Occurrence) (mid : Bytes) → stored_part p bs ≡ done (os, mid) → P p os → C) → C
  first p ps bs r rest h a k = each_first stored_part p ps bs h λ os r' mid e q t. k os mid q (subst (λ (z : Record). Beside P (p ∷ ps) z) e a).0

  module _ (t : Bytes) (valid : Valid t) {b : Bytes} {places : List ℕ} {r : Record} (held : IsRecord (entries_of t) b places r) (beside : Beside P (parts (entries_of t)) r) where
    abbrev from : ℕ → Bytes
    from j = start_of false (entries_of t) (drop record_head_size b) j

    member_plain : (g : ℕ) → g < length (entries_of t) → (j : ℕ) → g < j → j < group_end (entries_of t) g → j < length (entries_of t) → is_periodic (get_or (entries_of t) j blank).what ≡ false
    unfolding group_end
    member_plain g l j o h m = by_test (is_periodic (get_or (entries_of t) j blank).what)
        (λ q.
        let z : suc g + (j - suc g) ≡ j = omega arith in
        let d = run_levels (get_or (entries_of t) g blank).level (drop (suc g) (entries_of t)) (j - suc g) (omega arith) in
        let d' = rw (get_or-drop (suc g) (entries_of t) (j - suc g) blank, z) at d in
        absurd (omega (arith, d', (level_known t valid g l).0, periodic_level t valid j m (periodic_what (get_or (entries_of t) j blank).what q))))
        (λ q. q)

    -- The members of a periodic group begin no part of their own.
    members_passed : (g : ℕ) → g < length (entries_of t) → (get_or (entries_of t) g blank).what ≡ group true → (n j : ℕ) → g < j → j + n ≡ group_end (entries_of t) g → group_end (entries_of t) g ≤ length (entries_of t)
        → from j ≡ from (group_end (entries_of t) g)
    members_passed g l what zero j o e h = ap from (omega arith)
    members_passed g l what (suc n) j o e h =
        let m : j < length (entries_of t) = omega arith in
        let i = members_inside (entries_of t) (λ k l. valid_sound t valid k l) g (level_known t valid g l).0 j (omega arith) (omega arith) ∙ inside_group (entries_of t) g what in
        sym (next_left held (valid_names t valid) j m (after_inside (inside_at (entries_of t) j) (get_or (entries_of t) j blank) (drop (suc j) (entries_of t)) (from j) (member_plain g l j o (omega arith) m) i))
        ∙ members_passed g l what n (suc j) (omega arith) (omega arith) h

    -- What stands from a periodic group on.
    pub group_stands : {C : Type 0} (g : ℕ) → g < length (entries_of t) → (get_or (entries_of t) g blank).what ≡ group true
        → ((os : List Occurrence) → stored_part (record { name = (get_or (entries_of t) g blank).name; periodic = true; members = fields_below 1 (drop (suc g) (entries_of t)) }) (from g) ≡ done (os, from (group_end (entries_of t) g))
        → P (record { name = (get_or (entries_of t) g blank).name; periodic = true; members = fields_below 1 (drop (suc g) (entries_of t)) }) os → C) → C
    unfolding parts part_of after_entry
    group_stands g l what k = whole_body (parts (entries_of t)) b r held.stands λ rest h z.
        reach false (entries_of t) (drop record_head_size b) r rest g l h beside λ r' s a.
        first (record { name = (get_or (entries_of t) g blank).name; periodic = true; members = fields_below 1 (drop (suc g) (entries_of t)) }) _ (from g) r' rest (rw what at s) (rw what at a) λ os mid q x.
        let w = group_within (entries_of t) g l in
        let e : from (suc g) ≡ mid = next_left held (valid_names t valid) g l (rw what (each_single stored_part _ (from g) ∙ ap rest_of q)) in
        let f : from (group_end (entries_of t) g) ≡ mid = sym (members_passed g l what (group_end (entries_of t) g - suc g) (suc g) (omega arith) (omega (arith, w.0)) w.1) ∙ e in
        k os (rw f q) x

    -- And from a field outside periodic groups on.
    pub field_stands : {C : Type 0} (i : ℕ) → i < length (entries_of t) → inside_at (entries_of t) i ≡ false → (f : Format) (s : ℕ) (mu : Bool) → (get_or (entries_of t) i blank).what ≡ field f s mu
        → ((os : List Occurrence) → stored_part (alone (record { name = (get_or (entries_of t) i blank).name; format = f; size = s; multiple = mu })) (from i) ≡ done (os, from (suc i))
        → P (alone (record { name = (get_or (entries_of t) i blank).name; format = f; size = s; multiple = mu })) os → C) → C
    unfolding parts part_of after_entry
    field_stands i l out f s mu what k = whole_body (parts (entries_of t)) b r held.stands λ rest h z.
        reach false (entries_of t) (drop record_head_size b) r rest i l h beside λ r' c a.
        first (alone (record { name = (get_or (entries_of t) i blank).name; format = f; size = s; multiple = mu })) _ (from i) r' rest (rw (what, out) at c) (rw (what, out) at a) λ os mid q x.
        let e : from (suc i) ≡ mid = next_left held (valid_names t valid) i l (rw (what, out) (each_single stored_part _ (from i) ∙ ap rest_of q)) in
        k os (rw e q) x
