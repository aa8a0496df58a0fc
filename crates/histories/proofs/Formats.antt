-- The plain spellings stand for one item each: `AA.`, `MF3.`, `BA2.`, `CB2(5).` for their occurrence, `MFC.`, `GBC.`, `CB2C.` for their
-- count. And every occurrence of a table has one.
use mathlib.Core.Path.{◌≡◌, refl, ◌∙◌}
use mathlib.Core.Bool.{Bool, true, false, ◌&&◌}
use mathlib.Core.List.{List, [], ◌∷◌}
use mathlib.Core.Option.{Option, none, some}
use Prim.Native.Nat.{ℕ}
use native.Mathlib.Omega.{arith}
use lib.Dec.{T, leb, le→leb}
use Rattle.rules.specs.Outcome.{done}
use Rattle.rules.specs.Limits.{highest_index}
use Rattle.rules.specs.Characters.{letter_C}
use Rattle.rules.specs.Lists.{Bytes, absent, join}
use Rattle.rules.specs.Values.{Format, alpha, binary, fixed, packed, unpacked, allowed, conversion, converts}
use Rattle.rules.specs.Table.{Field, field, group, Entry, is_name, name_of}
use Rattle.rules.specs.Format.{Indexing, these, Element, named, count, settled, completed, elements}
use Rattle.rules.specs.Use.{Place, Item, group_count, value_count, value_item, Use, one, values, items_of, items, Found, find, format_in_effect, length_in_effect, asked, as_stored, in_order, just, spread, last_index, use_of_field, use_of_count, use_of, ranges_of, has_N, uses}
use Rattle.rules.proofs.Steps.{need_true, and_intro}
use Rattle.rules.proofs.Ranges.{one_field, over_just, item_at}
use Rattle.rules.proofs.FieldHomes.{named_field}
use Rattle.rules.proofs.Uses.{Index}
use Rattle.histories.specs.History.{items_by}
use Rattle.histories.specs.Spelled.{indexed, valued, count_spelled, element_alone}
use Rattle.histories.proofs.Spelled.{Spells, nothing_after, CAfter, index_after, counted_after, valued_after, one_element, indexed_solid, counted_solid, valued_solid, indexed_short, counted_short, valued_short, high_solid}

items_one : (es : List Entry) (f : Bytes) (e : Element) (u : Use) (x : Item) → elements f ≡ done (e ∷ []) → use_of es [] e ≡ done u → has_N e ≡ false → items_of u ≡ x ∷ []
    → items_by es f ≡ done (x ∷ [])
unfolding items_by uses items join
items_one es f e u x h q z i = rw (h, q, z, i) refl

converts_itself : (f : Format) → converts f f ≡ true
unfolding converts conversion
converts_itself alpha = refl
converts_itself binary = refl
converts_itself fixed = refl
converts_itself packed = refl
converts_itself unpacked = refl

asked_standard : (f : Field) → allowed f.format f.size ≡ true → asked f none none ≡ done (as_stored f)
unfolding asked format_in_effect length_in_effect as_stored
asked_standard f a = rw (a, converts_itself f.format) refl

just_in_order : (i : ℕ) → Index i → T (in_order (just i))
unfolding in_order
just_in_order i h = and_intro (leb 1 i && leb i i) (leb i highest_index) (and_intro (leb 1 i) (leb i i) (le→leb 1 i h.0) (le→leb i i (omega arith))) (le→leb i highest_index h.1)

abbrev place_at : Field → ℕ → ℕ → Place
place_at f i k = record { field = f; occurrence = i; value = k }

abbrev pub standard : Field → ℕ → ℕ → Item
standard f i k = value_item (place_at f i k) f.format f.size false

module _ (es : List Entry) (a b : ℕ) (name : is_name a b ≡ true) (x : Found) (found : find (name_of a b) es ≡ done x) where
  count_item : (cs : Bytes) (i : Option ℕ) (y : Item) → elements (element_alone a b cs) ≡ done (count (name_of a b) i ∷ []) → use_of_count (name_of a b) x.entry.what x.inside i ≡ done (one y)
      → items_by es (element_alone a b cs) ≡ done (y ∷ [])
  unfolding use_of items_of
  count_item cs i y h q = items_one es (element_alone a b cs) (count (name_of a b) i) (one y) y h (rw (found, use_of) q) refl refl

  -- `GBC.`
  pub group_C : x.entry.what ≡ group true → items_by es (element_alone a b (letter_C ∷ [])) ≡ done (group_count (name_of a b) ∷ [])
  unfolding completed use_of_count absent settled
  group_C w = count_item (letter_C ∷ []) none _ (one_element a b (letter_C ∷ []) _ name (high_solid letter_C (omega arith), tt) (omega arith) (CAfter (name_of a b)) refl) (rw (w, use_of_count) refl)

  module _ (f : Format) (s : ℕ) where
    -- `MFC.`
    pub field_C : x.entry.what ≡ field f s true → x.inside ≡ false → items_by es (element_alone a b (letter_C ∷ [])) ≡ done (value_count (name_of a b) 1 ∷ [])
    unfolding completed use_of_count absent settled
    field_C w o = count_item (letter_C ∷ []) none _ (one_element a b (letter_C ∷ []) _ name (high_solid letter_C (omega arith), tt) (omega arith) (CAfter (name_of a b)) refl) (rw (w, use_of_count, o) refl)

    -- `CB2C.`
    pub index_C : x.entry.what ≡ field f s true → x.inside ≡ true → (ds : List ℕ) (i : ℕ) → Spells ds i → Index i → items_by es (element_alone a b (count_spelled ds)) ≡ done (value_count (name_of a b) i ∷ [])
    unfolding completed use_of_count absent settled
    index_C w o ds i z r = count_item (count_spelled ds) (some i) _ (one_element a b (count_spelled ds) _ name (counted_solid ds) (counted_short ds i z) (counted_after (name_of a b) ds i z) refl)
        (rw (w, use_of_count, o, need_true (in_order (just i)) 5 (just_in_order i r)) refl)

  module _ (f : Format) (s : ℕ) (m : Bool) (what : x.entry.what ≡ field f s m) (known : allowed f s ≡ true) where
    abbrev own : Field
    own = named_field (name_of a b) f s m

    value_one : (cs : Bytes) (os vs : Option Indexing) → has_N (named (name_of a b) os vs none none) ≡ false → (i k : ℕ) → elements (element_alone a b cs) ≡ done (named (name_of a b) os vs none none ∷ [])
        → spread x.inside m (last_index (name_of a b) []) (ranges_of os) (ranges_of vs) ≡ done (record { occurrences = just i; values = just k; bare = false })
        → items_by es (element_alone a b cs) ≡ done (standard own i k ∷ [])
    unfolding use_of use_of_field items_of as_stored
    value_one cs os vs z i k h q = items_one es (element_alone a b cs) (named (name_of a b) os vs none none) (values (as_stored own ∷ []) (just i) (just k) false) _ h
        (rw (found, what, use_of, q, asked_standard own known) refl) z
        (one_field i (just k) false (as_stored own) ∙ over_just (item_at false (as_stored own) i) k)

    -- `AA.`
    pub plain_alone : m ≡ false → x.inside ≡ false → items_by es (element_alone a b []) ≡ done (standard own 1 1 ∷ [])
    unfolding completed spread
    plain_alone e o = value_one [] none none refl 1 1 (one_element a b [] _ name tt (omega arith) (nothing_after (name_of a b)) refl) (rw (o, e) refl)

    module _ (ds : List ℕ) (i : ℕ) (z : Spells ds i) (r : Index i) where
      index_element : elements (element_alone a b (indexed ds)) ≡ done (named (name_of a b) (some (these (just i))) none none none ∷ [])
      unfolding completed
      index_element = one_element a b (indexed ds) _ name (indexed_solid ds) (indexed_short ds i z) (index_after (name_of a b) ds i z) refl

      -- `MF3.`
      pub value_alone : m ≡ true → x.inside ≡ false → items_by es (element_alone a b (indexed ds)) ≡ done (standard own 1 i ∷ [])
      unfolding spread
      value_alone e o = value_one (indexed ds) (some (these (just i))) none refl 1 i index_element (rw (o, e, need_true (in_order (just i)) 5 (just_in_order i r)) refl)

      -- `BA2.`
      pub occurrence_alone : x.inside ≡ true → items_by es (element_alone a b (indexed ds)) ≡ done (standard own i 1 ∷ [])
      unfolding spread
      occurrence_alone o = value_one (indexed ds) (some (these (just i))) none refl i 1 index_element (rw (o, need_true (in_order (just i)) 5 (just_in_order i r)) refl)

      -- `CB2(5).`
      pub both_alone : (vs : List ℕ) (k : ℕ) → Spells vs k → Index k → m ≡ true → x.inside ≡ true → items_by es (element_alone a b (valued ds vs)) ≡ done (standard own i k ∷ [])
      unfolding completed spread
      both_alone vs k v q e o = value_one (valued ds vs) (some (these (just i))) (some (these (just k))) refl i k
          (one_element a b (valued ds vs) _ name (valued_solid ds vs) (valued_short ds i z vs k v) (valued_after (name_of a b) ds i z vs k v) refl)
          (rw (o, e, need_true (true && in_order (just i) && in_order (just k)) 5 (and_intro (in_order (just i)) (in_order (just k)) (just_in_order i r) (just_in_order k q))) refl)
