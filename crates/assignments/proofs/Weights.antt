-- What places weigh, by their fields: how many they are, and how many bytes they take.
use mathlib.Core.Path.{◌≡◌, refl, sym, ◌∙◌, ap, subst}
use mathlib.Core.Bool.{Bool, true, false≢true}
use mathlib.Core.List.{List, [], ◌∷◌, ◌++◌, map, append_assoc}
use Prim.Native.Nat.{ℕ, zero, suc, ◌+◌, ◌-◌, ◌*◌, ◌≤◌, ◌<◌}
use native.Mathlib.Omega.{arith}
use native.Mathlib.Numerals.{add-one}
use native.Mathlib.Nat.{zero-mul, mul-zero, suc-mul, mul-add}
use lib.ListN.{length, get_or, length-append}
use Rattle.rules.specs.Outcome.{done}
use Rattle.rules.specs.Lists.{Bytes, run, join}
use Rattle.rules.specs.Table.{What, field, group, Field, Entry}
use Rattle.rules.specs.Record.{times, stored_value}
use Rattle.rules.specs.Format.{Range}
use Rattle.rules.specs.Use.{Place, Item, blanks_item, text_item, group_count, value_count, value_item, Asked, as_stored}
use Rattle.rules.specs.Update.{Assignment}
use Rattle.rules.proofs.Steps.{by_test}
use Rattle.rules.proofs.Back.{All, all_map}
use Rattle.rules.proofs.Alls.{all_join, all_run, all_of_map}
use Rattle.rules.proofs.Places.{places_of, places_append, range_length}
use Rattle.rules.proofs.Ranges.{item_at, field_items, occurrence_items}
use Rattle.tables.specs.Entries.{blank, is_group, size_of}
use Rattle.uses.specs.Meant.{fields_from}
use Rattle.uses.proofs.Fields.{size_at}
use Rattle.uses.proofs.SpanFields.{no_entry, field_entry, group_entry}
use Rattle.assignments.specs.Notes.{bytes_given, width_before}
use Rattle.assignments.specs.Answers.{ReadsBack}
use Rattle.assignments.proofs.Given.{AsLong}
use Rattle.assignments.proofs.Splitting.{earlier_occurrences}

unfoldable pub weight : (Field → ℕ) → List Place → ℕ
weight w [] = 0
weight w (p ∷ ps) = w p.field + weight w ps

unfoldable pub weight_asked : (Field → ℕ) → List Asked → ℕ
weight_asked w [] = 0
weight_asked w (a ∷ fs) = w a.field + weight_asked w fs

module _ (w : Field → ℕ) where
  weight_append : (ps qs : List Place) → weight w (ps ++ qs) ≡ weight w ps + weight w qs
  unfolding weight
  weight_append [] qs = omega arith
  weight_append (p ∷ ps) qs = omega (arith, weight_append ps qs)

  weight_items : (xs ys : List Item) → weight w (places_of (xs ++ ys)) ≡ weight w (places_of xs) + weight w (places_of ys)
  weight_items xs ys = ap (weight w) (places_append xs ys) ∙ weight_append (places_of xs) (places_of ys)

  weight_none : weight w (places_of []) ≡ 0
  unfolding weight places_of
  weight_none = refl

  weight_values : (bare : Bool) (a : Asked) (o k m : ℕ) → weight w (places_of (run (item_at bare a o) k m)) ≡ m * w a.field
  unfolding weight places_of run
  weight_values bare a o k zero = sym (zero-mul (w a.field))
  weight_values bare a o k (suc m) = omega (arith, weight_values bare a o (suc k) m, suc-mul m (w a.field))

  module _ (vs : Range) (bare : Bool) where
    pub weight_fields : (fs : List Asked) (o : ℕ) → weight w (places_of (occurrence_items fs vs bare o)) ≡ range_length vs * weight_asked w fs
    unfolding weight_asked join
    weight_fields [] o = weight_none ∙ sym (mul-zero (range_length vs))
    weight_fields (a ∷ fs) o =
        weight_items (field_items bare vs o a) (occurrence_items fs vs bare o)
        ∙ omega (arith, weight_values bare a o vs.from (range_length vs), weight_fields fs o, mul-add (range_length vs) (w a.field) (weight_asked w fs))

    weight_occurrences : (fs : List Asked) (o m : ℕ) → weight w (places_of (join (run (occurrence_items fs vs bare) o m))) ≡ m * (range_length vs * weight_asked w fs)
    unfolding join run
    weight_occurrences fs o zero = weight_none ∙ sym (zero-mul (range_length vs * weight_asked w fs))
    weight_occurrences fs o (suc m) =
        weight_items (occurrence_items fs vs bare o) (join (run (occurrence_items fs vs bare) (suc o) m))
        ∙ omega (arith, weight_fields fs o, weight_occurrences fs (suc o) m, suc-mul m (range_length vs * weight_asked w fs))

    pub weight_earlier : (fs : List Asked) (from o : ℕ) → weight w (places_of (earlier_occurrences vs bare fs from o)) ≡ (o - from) * (range_length vs * weight_asked w fs)
    weight_earlier fs from o = weight_occurrences fs from (o - from)

-- What holds of the fields that are asked for holds of the fields of their places.
module _ (P : Field → Type 0) (vs : Range) (bare : Bool) where
  abbrev ItemOf : Item → Type 0
  ItemOf (value_item p g n b) = P p.field
  ItemOf (blanks_item n) = Unit {0}
  ItemOf (text_item t) = Unit {0}
  ItemOf (group_count n) = Unit {0}
  ItemOf (value_count n i) = Unit {0}

  of_places : (xs : List Item) → All ItemOf xs → All (λ p. P p.field) (places_of xs)
  unfolding places_of
  of_places [] a = tt
  of_places (value_item p g n b ∷ xs) a = (a.0, of_places xs a.1)
  of_places (blanks_item n ∷ xs) a = of_places xs a.1
  of_places (text_item t ∷ xs) a = of_places xs a.1
  of_places (group_count n ∷ xs) a = of_places xs a.1
  of_places (value_count n i ∷ xs) a = of_places xs a.1

  of_fields : (fs : List Asked) (o : ℕ) → All (λ a. P a.field) fs → All ItemOf (occurrence_items fs vs bare o)
  of_fields fs o h = all_join ItemOf _ (all_of_map (All ItemOf) (field_items bare vs o) fs (all_map (λ a. P a.field) _
      (λ x y. all_run ItemOf (item_at bare x o) vs.from (range_length vs) (λ k c d. y)) fs h))

  pub fields_of_places : (fs : List Asked) (o : ℕ) → All (λ a. P a.field) fs → All (λ p. P p.field) (places_of (occurrence_items fs vs bare o))
  fields_of_places fs o h = of_places (occurrence_items fs vs bare o) (of_fields fs o h)

  pub earlier_of_places : (fs : List Asked) (from o : ℕ) → All (λ a. P a.field) fs → All (λ p. P p.field) (places_of (earlier_occurrences vs bare fs from o))
  earlier_of_places fs from o h = of_places (earlier_occurrences vs bare fs from o)
      (all_join ItemOf _ (all_run (All ItemOf) (occurrence_items fs vs bare) from (o - from) (λ i a b. of_fields fs i h)))

width_next : (es : List Entry) (k : ℕ) → width_before es (k + 1) ≡ width_before es k + size_of (get_or es k blank).what
unfolding width_before
width_next es k = rw add-one

group_size : (w : What) → is_group w ≡ true → size_of w ≡ 0
group_size (field f s m) e = absurd (false≢true e)
group_size (group p) e = refl

abbrev pub size_field : Field → ℕ
size_field f = f.size

width_fields : (es : List Entry) (n k end : ℕ) → end ≡ k + n → end ≤ length es
    → width_before es k + weight_asked size_field (map as_stored (fields_from es k end)) ≡ width_before es end
unfolding weight_asked as_stored
width_fields es zero k end e l =
    let z : end ≡ k = omega arith in
    rw (no_entry es k end (omega arith), z) (omega arith)
width_fields es (suc n) k end e l =
    let more = width_fields es n (k + 1) end (omega arith) l in
    let next = width_next es k in
    by_test (is_group (get_or es k blank).what)
    (λ q. rw (group_entry es k end (omega arith) l q) (omega (arith, more, next, group_size (get_or es k blank).what q)))
    (λ q. rw (field_entry es k end (omega arith) l q) (omega (arith, more, next, size_at es k)))

pub width_between : (es : List Entry) (k end : ℕ) → k ≤ end → end ≤ length es
    → width_before es k + weight_asked size_field (map as_stored (fields_from es k end)) ≡ width_before es end
width_between es k end h l = width_fields es (end - k) k end (omega arith) l

-- ---- what is given, by the fields of its places

pub given_weight : (ws : List Assignment) → All AsLong ws → All (λ p. 0 < p.field.size) (map (λ a. a.place) ws)
    → length (bytes_given ws) ≡ weight size_field (map (λ a. a.place) ws)
unfolding join weight
given_weight [] a h = refl
given_weight (w ∷ ws) a h = length-append w.bytes (bytes_given ws) ∙ omega (arith, a.0 h.0, given_weight ws a.1 h.1)

pub weight_number : (ps : List Place) → weight (λ f. 1) ps ≡ length ps
unfolding weight
weight_number [] = refl
weight_number (p ∷ ps) = omega (arith, weight_number ps)

pub times_given : (g : Field) (ws : List Assignment) (tail : Bytes) → All (λ p. p.field ≡ g) (map (λ a. a.place) ws) → All ReadsBack ws
    → times (length ws) (stored_value g.format g.size) (bytes_given ws ++ tail) ≡ done (map (λ a. a.bytes) ws, tail)
unfolding times join
times_given g [] tail h r = refl
times_given g (w ∷ ws) tail h r =
    let one : stored_value g.format g.size (w.bytes ++ (bytes_given ws ++ tail)) ≡ done (w.bytes, bytes_given ws ++ tail) =
    subst (λ (k : Field). stored_value k.format k.size (w.bytes ++ (bytes_given ws ++ tail)) ≡ done (w.bytes, bytes_given ws ++ tail)) h.0 (r.0 (bytes_given ws ++ tail)) in
    rw (append_assoc w.bytes (bytes_given ws) tail, one, times_given g ws tail h.1 r.1) refl
