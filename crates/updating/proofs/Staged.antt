-- What an update assigns lies in the new record, each piece at a place of its own: so the record is longer than all of it by its head at
-- least, and where that alone is too long the update is refused.
use mathlib.Core.Path.{◌≡◌}
use mathlib.Core.Bool.{true, false, not, ◌&&◌}
use mathlib.Core.List.{List, [], ◌∷◌, map}
use mathlib.Core.Option.{some}
use Prim.Native.Nat.{ℕ, ◌+◌, ◌≤◌, ◌<◌}
use native.Mathlib.Omega.{arith}
use lib.Dec.{eqb}
use lib.ListN.{length, length-append}
use Rattle.rules.specs.Outcome.{done, refused, by}
use Rattle.rules.specs.Limits.{longest_new_record, record_head_size}
use Rattle.rules.specs.Lists.{Bytes, absent, join}
use Rattle.rules.specs.Table.{Entry, Part, member, parts, table}
use Rattle.rules.specs.Record.{Record, body_bytes, record_head, record_bytes, value_count_at}
use Rattle.rules.specs.Format.{Element}
use Rattle.rules.specs.Use.{Place, Item, blanks_item, text_item, group_count, value_count, value_item, Use, items, uses}
use Rattle.rules.specs.Update.{Assignment, same_place, assigned, assignments, named_twice, to_field, to_part, highest_occurrence, highest_value, new_value, new_value_count, new_group_count, update_plan, after_update}
use Rattle.rules.specs.Services.{fitting}
use Rattle.rules.proofs.Steps.{eqb_same}
use Rattle.rules.proofs.Back.{All, all_map}
use Rattle.rules.proofs.Alls.{all_both}
use Rattle.rules.proofs.Bare.{named_counted}
use Rattle.rules.proofs.Places.{places_of, repeats}
use Rattle.rules.proofs.Uses.{table_differ}
use Rattle.rules.proofs.Home.{home, Occurs, home_member}
use Rattle.rules.proofs.Laid.{occurrences_at, within_count}
use Rattle.rules.proofs.Entries.{table_sound}
use Rattle.rules.proofs.Stands.{Stands, uses_stand}
use Rattle.rules.proofs.Assigned.{place_of, own_bytes, assigned_places, places_once, Reached, all_reached}
use Rattle.updating.proofs.Sums.{found, SizedAt, total_bytes, at_most}
use Rattle.updating.proofs.BodyPlaces.{weight, body_places, body_sum, body_found}
use Rattle.updating.proofs.Fitting.{too_long}

abbrev Placed : List Part → Place → Type 0
Placed ps q = (p : Part) × (home q.field.name ps ≡ some (p, q.field)) × Occurs p q.field q.occurrence q.value

abbrev Enough : List Assignment → Type 0
Enough ws = (n i old : ℕ) → highest_value ws n i ≤ new_value_count ws n i old

module _ (ps : List Part) (r : Record) (ws : List Assignment) (enough : Enough ws) (a : Assignment) (reached : Reached ws a) (p : Part)
    (at : home a.place.field.name ps ≡ some (p, a.place.field)) (g : Occurs p a.place.field a.place.occurrence a.place.value) where
  occurrence_reached : a.place.occurrence ≤ highest_occurrence ws p
  unfolding highest_occurrence to_part absent
  occurrence_reached = reached (λ b. b.place.occurrence) (λ b. not (absent (member b.place.field.name p.members))) (rw (home_member a.place.field.name ps p a.place.field at))

  value_reached : a.place.value ≤ highest_value ws a.place.field.name a.place.occurrence
  unfolding highest_value to_field
  value_reached = reached (λ b. b.place.value) (λ b. eqb b.place.field.name a.place.field.name && eqb b.place.occurrence a.place.occurrence)
      (rw (eqb_same a.place.field.name, eqb_same a.place.occurrence))

  occurrence_there : (old : ℕ) → a.place.occurrence ≤ (update_plan ps r ws).occurrences p old
  unfolding update_plan new_group_count
  occurrence_there old = within_count p.periodic (let h = occurrence_reached in omega arith) g.single

  value_there : a.place.value ≤ (update_plan ps r ws).values a.place.field a.place.occurrence
  unfolding update_plan
  value_there = within_count a.place.field.multiple
      (let h = value_reached in let c = enough a.place.field.name a.place.occurrence (value_count_at ps r a.place.field.name a.place.occurrence) in omega arith) g.plain

  place_there : found (body_places (update_plan ps r ws) ps r) a.place ≡ true
  place_there = body_found (update_plan ps r ws) a.place g.occurrence g.value value_there ps r p at (occurrence_there (occurrences_at ps r a.place.field.name))

value_taken : (ps : List Part) (r : Record) (ws : List Assignment) (q : Place) (b : Bytes) → assigned ws q ≡ some b → weight (update_plan ps r ws) q ≡ length b
unfolding weight update_plan new_value
value_taken ps r ws q b e = rw (e, new_value)

-- Of any assignments that name places of the record once, within the counts that they make.
pub assigned_fit : (ps : List Part) (r : Record) (ws : List Assignment) → Enough ws → repeats (map place_of ws) ≡ false → All (λ a. Placed ps a.place) ws
    → length (join (map (λ a. a.bytes) ws)) ≤ length (body_bytes ps (after_update ps r ws))
unfolding after_update
assigned_fit ps r ws enough once placed =
    let w = update_plan ps r ws in
    let there = all_both (Reached ws) (λ a. Placed ps a.place) (λ a. found (body_places w ps r) a.place ≡ true)
    (λ a h s. place_there ps r ws enough a h s.0 s.1 s.2) ws (all_reached ws) placed in
    let sized = all_map (λ a. (q : Place) → same_place q a.place ≡ true → assigned ws q ≡ some a.bytes) (SizedAt (weight w))
    (λ a h q t. value_taken ps r ws q a.bytes (h q t)) ws (own_bytes ws once) in
    let x = at_most (body_places w ps r) ws (weight w) once there sized in
    let y = body_sum w ps r in
    let z = total_bytes ws in
    omega arith

items_placed : (es : List Entry) (xs : List Item) → All (Stands es) xs → All (Placed (parts es)) (places_of xs)
unfolding places_of
items_placed es [] a = tt
items_placed es (blanks_item n ∷ xs) a = items_placed es xs a.1
items_placed es (text_item t ∷ xs) a = items_placed es xs a.1
items_placed es (group_count n ∷ xs) a = items_placed es xs a.1
items_placed es (value_count n i ∷ xs) a = items_placed es xs a.1
items_placed es (value_item p g n bare ∷ xs) a = (a.0, items_placed es xs a.1)

all_from_map : (ps : List Part) (ws : List Assignment) → All (Placed ps) (map place_of ws) → All (λ a. Placed ps a.place) ws
all_from_map ps [] a = tt
all_from_map ps (b ∷ ws) a = (a.0, all_from_map ps ws a.1)

-- The new record is at least as long as its head and all that is assigned.
pub assigned_staged : (t : Bytes) (es : List Entry) → table t ≡ done es → (r : Record) (xs : List Element) (us : List Use) → uses es [] xs ≡ done us → named_twice us ≡ false
    → (buffer : Bytes) (ws : List Assignment) → assignments (items us) buffer ≡ done ws
    → length (join (map (λ a. a.bytes) ws)) + record_head_size ≤ length (record_bytes (parts es) (after_update (parts es) r ws))
unfolding record_bytes record_head
assigned_staged t es tabled r xs us meant once buffer ws gives =
    let m = assigned_places (items us) buffer ws gives in
    let o = places_once t es tabled xs us meant once buffer ws gives in
    let s : All (Placed (parts es)) (map place_of ws) = rw m (items_placed es (items us) (uses_stand es (table_sound t es tabled) (table_differ t es tabled) [] xs us meant)) in
    let x = assigned_fit (parts es) r ws (λ n i old. named_counted es xs us meant buffer ws gives n i old) o (all_from_map (parts es) ws s) in
    let y = length-append record_head (body_bytes (parts es) (after_update (parts es) r ws)) in
    omega arith

pub staged_beyond : (t : Bytes) (es : List Entry) → table t ≡ done es → (r : Record) (xs : List Element) (us : List Use) → uses es [] xs ≡ done us → named_twice us ≡ false
    → (buffer : Bytes) (ws : List Assignment) → assignments (items us) buffer ≡ done ws → longest_new_record < length (join (map (λ a. a.bytes) ws))
    → (room : ℕ) → fitting room (record_bytes (parts es) (after_update (parts es) r ws)) ≡ refused (by 10)
staged_beyond t es tabled r xs us meant once buffer ws gives l room =
    let x = assigned_staged t es tabled r xs us meant once buffer ws gives in
    too_long room (record_bytes (parts es) (after_update (parts es) r ws)) (omega arith)
