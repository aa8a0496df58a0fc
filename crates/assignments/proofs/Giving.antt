-- What the record buffer gives is in normal form, so that it is read back from the stage; and an occurrence that is given to once takes that.
use mathlib.Core.Path.{◌≡◌, refl, sym, ◌∙◌, ap, subst}
use mathlib.Core.Bool.{Bool, true, false}
use mathlib.Core.Option.{some}
use mathlib.Core.List.{List, [], ◌∷◌, ◌++◌, map, map-map, append_assoc}
use Prim.Native.Nat.{ℕ, zero, suc, ◌-◌, ◌≤◌}
use native.Mathlib.Omega.{arith}
use lib.Dec.{T}
use lib.ListN.{length, take, drop}
use Rattle.rules.specs.Outcome.{done}
use Rattle.rules.specs.Lists.{Bytes, all, join}
use Rattle.rules.specs.Table.{What, field, group, Entry, Field, differ, names}
use Rattle.rules.specs.Record.{stored_value}
use Rattle.rules.specs.Use.{Place, as_stored, items}
use Rattle.rules.specs.Update.{Assignment, same_place, assigned}
use Rattle.rules.proofs.Steps.{true_T}
use Rattle.rules.proofs.Back.{All}
use Rattle.rules.proofs.Alls.{all_parts, all_run}
use Rattle.rules.proofs.Places.{repeats, places_of, names_asked}
use Rattle.rules.proofs.Uses.{Picked, nothing_left, taken, left_out, picked_differ, field_names, Once}
use Rattle.rules.proofs.Twice.{named_twice_repeats}
use Rattle.rules.proofs.Assigned.{own_bytes, same_self}
use Rattle.tables.specs.Groups.{with_field, fields_in}
use Rattle.uses.specs.Meant.{fields_from, asked_by, use_meant, GoodUse}
use Rattle.uses.specs.Kept.{use_at, uses_kept}
use Rattle.uses.specs.declared.Span.{Span}
use Rattle.uses.specs.declared.Use.{Use}
use Rattle.uses.specs.declared.Use.TheVariants as code
use Rattle.assignments.specs.Notes.{bytes_given, StandsIn, TakesAt, OnStage, Listed, Indexed}
use Rattle.assignments.specs.Answers.{ReadsBack}
use Rattle.assignments.proofs.Tabled.{listed_allowed}
use Rattle.assignments.proofs.Given.{taking_reads, taking_places, uses_allowed, stage_after, stage_length}

-- Each value that is given is read back.
pub all_read_back : {es : List Entry} {f : Bytes} {kept : List ℕ} {count : ℕ} {list : List ℕ} {stage : Bytes} {ws : List Assignment}
    → Listed es f kept count list stage ws → All ReadsBack ws
all_read_back {es} {f} {kept} {count} {ws = ws} l =
    taking_reads (items (uses_kept es f kept count)) l.buffer ws l.rest (uses_allowed es (listed_allowed l) f kept count l.uses) l.small l.given

-- An assignment that stands after p bytes is read back from place p of the stage, and ends within it.
pub read_there : {stage : Bytes} {ws : List Assignment} {p : ℕ} {a : Assignment} → OnStage stage ws → StandsIn ws p a → ReadsBack a
    → (p ≤ length stage) × (rest : Bytes) × (stored_value a.place.field.format a.place.field.size (drop p stage) ≡ done (a.bytes, rest))
unfolding join
read_there {stage} {p = p} {a = a} o s r =
    let after = stage_after o s.before (a ∷ s.after) s.is in
    let tail = bytes_given s.after ++ drop o.staged stage in
    let there : drop p stage ≡ a.bytes ++ tail = ap (λ n. drop n stage) s.bytes ∙ after ∙ append_assoc a.bytes (bytes_given s.after) (drop o.staged stage) in
    (omega (arith, s.bytes, stage_length o s.before (a ∷ s.after) s.is), tail, ap (stored_value a.place.field.format a.place.field.size) there ∙ r tail)

-- The names of the fields of some entries are names of entries, in their order.
picked_first : (n : ℕ) (es : List Entry) → Picked (field_names (fields_in (take n es))) (names es)
unfolding fields_in names
picked_first zero es = nothing_left
picked_first (suc n) [] = nothing_left
picked_first (suc n) (e ∷ es) = by_kind e.name e.what (fields_in (take n es)) (names es) (picked_first n es)
  where
    by_kind : (m : ℕ) (w : What) (fs : List Field) (ns : List ℕ) → Picked (field_names fs) ns → Picked (field_names (with_field m w fs)) (m ∷ ns)
    by_kind m (field f s mu) fs ns p = taken p
    by_kind m (group g) fs ns p = left_out p

picked_after : (k n : ℕ) (es : List Entry) → Picked (field_names (fields_in (take n (drop k es)))) (names es)
unfolding names
picked_after zero n es = picked_first n es
picked_after (suc k) n [] = picked_first n []
picked_after (suc k) n (e ∷ es) = left_out (picked_after k n es)

names_stored : (fs : List Field) → names_asked (map as_stored fs) ≡ field_names fs
unfolding as_stored
names_stored fs = map-map {A = Field} (λ a. a.field.name) as_stored fs

module _ (es : List Entry) (apart : T (differ (names es))) where
  asked_apart : (s : Span) (b : Bool) → T (differ (names_asked (asked_by es b s)))
  unfolding fields_from differ all
  asked_apart s true = rw (names_stored (fields_from es s.first s.end)) (picked_differ (picked_after s.first (s.end - s.first) es) apart)
  asked_apart s false = tt

  use_once : (f : Bytes) (u : Use) → GoodUse es f u → Once (use_meant es f u)
  unfolding places_of
  use_once f (code.Blanks n) g = refl
  use_once f (code.Text from upto) g = refl
  use_once f (code.GroupCount i) g = refl
  use_once f (code.ValueCount i k) g = refl
  use_once f (code.Values s) g = (asked_apart s s.standard, true_T g.occurrences, true_T g.values)

-- No place repeats among the assignments, so each takes what it is given.
pub places_once : {es : List Entry} {f : Bytes} {kept : List ℕ} {count : ℕ} {list : List ℕ} {stage : Bytes} {ws : List Assignment}
    → Indexed es f kept count list stage ws → repeats (map (λ a. a.place) ws) ≡ false
unfolding uses_kept
places_once {es} {f} {kept} {count} {ws = ws} x =
    let l = x.listed in
    ap repeats (taking_places (items (uses_kept es f kept count)) l.buffer ws l.rest l.given)
    ∙ sym (named_twice_repeats (uses_kept es f kept count) (all_run Once _ 0 count (λ i a b. use_once es x.apart f (use_at kept i) (l.uses i (omega arith)))))
    ∙ x.once

pub once_assigned : {ws : List Assignment} {p : ℕ} {a : Assignment} → repeats (map (λ a. a.place) ws) ≡ false → StandsIn ws p a → assigned ws a.place ≡ some a.bytes
once_assigned {ws} {a = a} h s =
    let own = subst (All (λ b. (q : Place) → same_place q b.place ≡ true → assigned ws q ≡ some b.bytes)) s.is (own_bytes ws h) in
    (all_parts _ s.before (a ∷ s.after) own).1.0 a.place (same_self a.place)

-- So what is noted of a place is what it takes.
pub takes_there : {ws : List Assignment} {p : ℕ} {a : Assignment} {q : Place} → repeats (map (λ a. a.place) ws) ≡ false → StandsIn ws p a → a.place ≡ q → TakesAt ws q (suc p)
takes_there {ws} {a = a} h s e = (a, s, e, subst (λ q. assigned ws q ≡ some a.bytes) e (once_assigned h s))
