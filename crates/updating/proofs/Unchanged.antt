-- A periodic group or a field outside periodic groups that an update does not name adds the bytes that it had, which stand between its part and the next.
use mathlib.Core.Path.{◌≡◌, refl, sym, ◌∙◌, ap}
use mathlib.Core.Bool.{true, false, true≢false}
use mathlib.Core.List.{List, [], ◌∷◌, ◌++◌}
use mathlib.Core.Option.{none, some}
use Prim.Native.Nat.{ℕ, suc, ◌+◌, ◌-◌, ◌≤◌, ◌<◌}
use native.Mathlib.Numerals.{add-one}
use native.Mathlib.Omega.{arith}
use lib.Dec.{T}
use lib.ListN.{length, take, drop, get_or, length-append, length-drop}
use lib.Seq.{slice, slice_empty, take_at}
use Rattle.rules.specs.Outcome.{done, is_done}
use Rattle.rules.specs.Limits.{record_head_size}
use Rattle.rules.specs.Lists.{Bytes}
use Rattle.rules.specs.Table.{Field, group, Entry, Part, differ, member, alone, parts, table}
use Rattle.rules.specs.Record.{Occurrence, Record, values_at, group_count_at, stored_part, stored_cell, part_bytes, cell_bytes}
use Rattle.rules.specs.Update.{Assignment, highest_occurrence, update_plan}
use Rattle.rules.proofs.Steps.{by_option, by_outcome, true_T}
use Rattle.rules.proofs.Back.{Beside, PartOk, RecordOk}
use Rattle.rules.proofs.Kept.{stored_ok}
use Rattle.rules.proofs.Readers.{Sound, counted_sound, each_sound, value_sound}
use Rattle.rules.proofs.Uses.{field_names, picked_differ, by_what}
use Rattle.rules.proofs.Home.{home}
use Rattle.rules.proofs.Entries.{table_sound}
use Rattle.rules.proofs.Names.{names_of, parts_picked, parts_parted, differ_left, differ_right, member_none, apart, home_there}
use Rattle.tables.specs.Entries.{Valid, entries_of, blank, is_group}
use Rattle.tables.specs.Groups.{group_end, field_by, field_at, fields_in}
use Rattle.tables.specs.Places.{inside_at}
use Rattle.tables.proofs.Tables.{valid_names}
use Rattle.records.specs.Walk.{start_of}
use Rattle.records.specs.Where.{field_of}
use Rattle.records.specs.Places.{IsRecord}
use Rattle.records.proofs.Groups.{fields_first}
use Rattle.records.proofs.Parts.{group_stands, field_stands}
use Rattle.updating.specs.Laid.{group_part, cell_laid, entry_laid}
use Rattle.updating.specs.New.{Assigns, Between}
use Rattle.updating.proofs.Body.{Counts, alone_as, group_as}
use Rattle.updating.proofs.Counted.{counts_of, update_once}
use Rattle.updating.proofs.Unnamed.{none_named}
use Rattle.updating.proofs.Kept.{Shown, part_bytes_kept}

-- Bytes between two places are what stands between the parts that stand there.
pub piece_between : (es : List Entry) (b : Bytes) (first next p q : ℕ) → p ≤ length b → drop p b ≡ start_of false es (drop record_head_size b) first
    → q ≤ length b → drop q b ≡ start_of false es (drop record_head_size b) next → (old : Bytes) → Between es b first next old → (p ≤ q) × (take (q - p) (drop p b) ≡ old)
piece_between es b first next p q hp dp hq dq old e =
    let d : drop p b ≡ old ++ drop q b = dp ∙ e ∙ ap (λ (bs : Bytes). old ++ bs) (sym dq) in
    let l = ap length d ∙ length-append old (drop q b) in
    let n : length old ≡ q - p = omega (arith, l, length-drop p b, length-drop q b) in
    (omega (arith, l, length-drop p b, length-drop q b), ap (take (q - p)) d ∙ take_at old (drop q b) (q - p) n)

-- Each part of a record is shown by its own occurrences, since names differ.
values_here : (p : Part) (ps : List Part) (os : List Occurrence) (r : Record) → Shown (p ∷ ps) (os ∷ r) p os
unfolding values_at
values_here p ps os r f m i = rw (m, values_at)

home_first : (n : ℕ) (p : Part) (ps : List Part) (f : Field) → member n p.members ≡ some f → home n (p ∷ ps) ≡ some (p, f)
unfolding home
home_first n p ps f m = rw (m, home)

home_later : (n : ℕ) (p : Part) (ps : List Part) → member n p.members ≡ none → home n (p ∷ ps) ≡ home n ps
unfolding home
home_later n p ps m = rw (m, home)

values_later : (p : Part) (ps : List Part) (os : List Occurrence) (r : Record) (n i : ℕ) → member n p.members ≡ none → values_at (p ∷ ps) (os ∷ r) n i ≡ values_at ps r n i
unfolding values_at
values_later p ps os r n i m = rw (m, values_at)

shown_later : (p : Part) (ps : List Part) (os : List Occurrence) (r : Record) (qs : List Part) (s : Record)
    → ((n : ℕ) (q : Part) (f : Field) → home n qs ≡ some (q, f) → member n p.members ≡ none)
    → Beside (Shown ps r) qs s → Beside (Shown (p ∷ ps) (os ∷ r)) qs s
shown_later p ps os r [] [] h a = tt
shown_later p ps os r [] (ss ∷ s) h a = absurd a
shown_later p ps os r (q ∷ qs) [] h a = absurd a
shown_later p ps os r (q ∷ qs) (ss ∷ s) h a = (
  (λ f m i. values_later p ps os r f.name i (h f.name q f (home_first f.name q qs f m)) ∙ a.0 f m i),
  shown_later p ps os r qs s (λ n x f e. by_option (member n q.members)
      (λ g t. h n q g (home_first n q qs g t))
      (λ t. h n x f (home_later n q qs t ∙ e))) a.1,
)

all_shown : (ps : List Part) (r : Record) → RecordOk ps r → T (differ (names_of ps)) → Beside (Shown ps r) ps r
unfolding names_of
all_shown [] [] a d = tt
all_shown [] (os ∷ r) a d = absurd a
all_shown (p ∷ ps) [] a d = absurd a
all_shown (p ∷ ps) (os ∷ r) a d = (
  values_here p ps os r,
  shown_later p ps os r ps r
      (λ n q f e. member_none n p.members (apart (field_names p.members) (names_of ps) d n (home_there n ps q f e)))
      (all_shown ps r a.1 (differ_right (field_names p.members) (names_of ps) d)),
)

-- What is known of a part of a record.
record Standing (ps : List Part) (r : Record) (p : Part) (os : List Occurrence) : Type 0 where
  ok : PartOk p os
  apart_names : T (differ (field_names p.members))
  shown : Shown ps r p os
  count : group_count_at ps r p.name ≡ length os

all_standing : (ps : List Part) (r : Record) (qs : List Part) (s : Record) → RecordOk qs s → T (differ (names_of qs)) → Beside (Shown ps r) qs s → Counts (group_count_at ps r) qs s
    → Beside (Standing ps r) qs s
unfolding names_of
all_standing ps r [] [] a d b c = tt
all_standing ps r [] (os ∷ s) a d b c = absurd a
all_standing ps r (q ∷ qs) [] a d b c = absurd a
all_standing ps r (q ∷ qs) (os ∷ s) a d b c = (
  record { ok = a.0; apart_names = differ_left (field_names q.members) (names_of qs) d; shown = b.0; count = c.0 },
  all_standing ps r qs s a.1 (differ_right (field_names q.members) (names_of qs) d) b.1 c.1,
)

part_sound : (p : Part) → Sound (stored_part p) (part_bytes p)
unfolding stored_part stored_cell part_bytes cell_bytes
part_sound p = counted_sound _ _ p.periodic (each_sound stored_cell cell_bytes (λ f. counted_sound _ _ f.multiple (value_sound f.format f.size)) p.members)

tabled : (t : Bytes) → Valid t → table t ≡ done (entries_of t)
unfolding entries_of
tabled t v = by_outcome (table t) (λ es e. rw e) (λ n e. absurd (true≢false (sym v ∙ ap is_done e)))

module _ (t : Bytes) (valid : Valid t) {b : Bytes} {places kept list : List ℕ} {stage : Bytes} {r : Record} {ws : List Assignment} (held : IsRecord (entries_of t) b places r) (assigns : Assigns (entries_of t) kept list stage ws) where
  standing : Beside (Standing (parts (entries_of t)) r) (parts (entries_of t)) r
  unfolding parts
  standing =
      let es = entries_of t in
      let named = true_T (valid_names t valid) in
      let ok = stored_ok (parts es) b r held.stands in
      let d = picked_differ (parts_picked es (table_sound t es (tabled t valid))).0 named in
      all_standing (parts es) r (parts es) r ok d (all_shown (parts es) r ok d) (counts_of (parts es) r (picked_differ (parts_parted false es) named))

  pub group_kept : (g : ℕ) → g < length (entries_of t) → (get_or (entries_of t) g blank).what ≡ group true
      → highest_occurrence ws (group_part (get_or (entries_of t) g blank).name (drop (g + 1) (entries_of t))) ≡ 0
      → Between (entries_of t) b g (group_end (entries_of t) g) (entry_laid (update_plan (parts (entries_of t)) r ws) (group_count_at (parts (entries_of t)) r) true (get_or (entries_of t) g blank).name (group true) (drop (g + 1) (entries_of t)))
  unfolding entry_laid
  group_kept g l what un₀ =
      let es = entries_of t in
      let name = (get_or es g blank).name in
      let below = drop (suc g) es in
      let p = group_part name below in
      let un = none_named assigns.indexed.listed p (rw (add-one g) at un₀) in
      group_stands (Standing (parts es) r) t valid held standing g l what λ os s x.
      let old : entry_laid (update_plan (parts es) r ws) (group_count_at (parts es) r) true name (group true) below ≡ part_bytes p os =
      rw x.count (sym (group_as (update_plan (parts es) r ws) (update_once (parts es) r ws) name below (length os)) ∙ part_bytes_kept (parts es) r ws p os x.ok x.apart_names x.shown un) in
      rw (add-one g) (part_sound p _ os _ s ∙ ap (λ (bs : Bytes). bs ++ start_of false es (drop record_head_size b) (group_end es g)) (sym old))

  pub field_kept : (i : ℕ) → i < length (entries_of t) → is_group (get_or (entries_of t) i blank).what ≡ false → inside_at (entries_of t) i ≡ false
      → highest_occurrence ws (alone (field_at (entries_of t) i)) ≡ 0
      → Between (entries_of t) b i (i + 1) (cell_laid (update_plan (parts (entries_of t)) r ws) 1 (field_at (entries_of t) i))
  unfolding field_at field_by
  field_kept i l plain out un₀ =
      let es = entries_of t in
      by_what (get_or es i blank).what
      (λ f s mu what.
      let own : Field = record { name = (get_or es i blank).name; format = f; size = s; multiple = mu } in
      let un = none_named assigns.indexed.listed (alone own) (rw what at un₀) in
      field_stands (Standing (parts es) r) t valid held standing i l out f s mu what λ os c x.
      rw (add-one i, what) (part_sound (alone own) _ os _ c ∙ ap (λ (bs : Bytes). bs ++ start_of false es (drop record_head_size b) (suc i))
      (sym (sym (alone_as (update_plan (parts es) r ws) (update_once (parts es) r ws) own (length os)) ∙ part_bytes_kept (parts es) r ws (alone own) os x.ok x.apart_names x.shown un))))
      (λ p what. absurd (true≢false (sym (ap is_group what) ∙ plain)))

-- The field of an entry alone has the fields among that entry.
pub alone_fields : (es : List Entry) (i : ℕ) → i < length es → is_group (get_or es i blank).what ≡ false → (alone (field_at es i)).members ≡ fields_in (slice i (i + 1) es)
unfolding alone field_at field_by field_of fields_in
alone_fields es i l plain = by_what (get_or es i blank).what
    (λ f s mu what. rw (add-one i, fields_first es blank i (suc i) (omega arith) l, slice_empty (suc i) es, what) refl)
    (λ p what. absurd (true≢false (sym (ap is_group what) ∙ plain)))
