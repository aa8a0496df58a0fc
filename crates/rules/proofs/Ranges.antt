-- The items of an element one by one, as loops over occurrences, fields and values meet them; and the services on items, part by part.
use mathlib.Core.Path.{◌≡◌, refl, sym, ◌∙◌}
use mathlib.Core.Bool.{Bool}
use mathlib.Core.List.{List, [], ◌∷◌, ◌++◌, map, append_assoc, append-nil}
use Prim.Native.Nat.{ℕ, suc, ◌+◌, ◌-◌, ◌≤◌, ◌<◌}
use native.Mathlib.Numerals.{add-one}
use native.Mathlib.Omega.{arith}
use native.Mathlib.Nat.{sub-zero, sub-add-eq}
use lib.ListN.{length, length-append}
use Rattle.rules.specs.Outcome.{Outcome, done, refused, ◌>>=◌}
use Rattle.rules.specs.Lists.{Bytes, run, join, cut}
use Rattle.rules.specs.Values.{converted_bytes, first_value}
use Rattle.rules.specs.Table.{Part}
use Rattle.rules.specs.Record.{Record, Reader}
use Rattle.rules.specs.Format.{Range}
use Rattle.rules.specs.Use.{Item, blanks_item, text_item, group_count, value_count, value_item, Asked, over, value_items, just}
use Rattle.rules.specs.Update.{Assignment, assignments}
use Rattle.rules.specs.Services.{filled}
use Rattle.rules.proofs.Places.{spot}

abbrev pub from_to : ℕ → ℕ → Range
from_to i j = record { from = i; upto = j }

module _ {X : Type 0} (f : ℕ → X) where
  pub run_first : (i n : ℕ) → run f i (suc n) ≡ f i ∷ run f (suc i) n
  unfolding run
  run_first i n = refl

  pub over_none : (i j : ℕ) → j < i → over (from_to i j) f ≡ []
  unfolding run
  over_none i j h = let e : suc j - i ≡ 0 = omega arith in rw e

  pub over_first : (i j : ℕ) → i ≤ j → over (from_to i j) f ≡ f i ∷ over (from_to (i + 1) j) f
  unfolding run
  over_first i j h = let e : suc j - i ≡ suc (suc j - (i + 1)) = omega arith in rw (e, add-one)

  pub over_just : (i : ℕ) → over (just i) f ≡ f i ∷ []
  unfolding run
  over_just i = let e : suc i - i ≡ 1 = omega arith in rw e

abbrev pub item_at : Bool → Asked → ℕ → ℕ → Item
item_at bare a i k = value_item (spot a i k) a.format a.size bare

-- The items of one field in one occurrence; of some fields in one occurrence.
abbrev pub field_items : Bool → Range → ℕ → Asked → List Item
field_items bare vs i a = over vs (item_at bare a i)

abbrev pub occurrence_items : List Asked → Range → Bool → ℕ → List Item
occurrence_items fs vs bare i = join (map (field_items bare vs i) fs)

-- The items of an element from its first occurrence on.
module _ (fs : List Asked) (vs : Range) (bare : Bool) where
  pub no_occurrence : (i j : ℕ) → j < i → value_items fs (from_to i j) vs bare ≡ []
  unfolding value_items join
  no_occurrence i j h = rw (over_none (occurrence_items fs vs bare) i j h)

  pub one_occurrence : (i : ℕ) → value_items fs (just i) vs bare ≡ occurrence_items fs vs bare i
  unfolding value_items join
  one_occurrence i = rw (over_just (occurrence_items fs vs bare) i, append-nil)

  pub first_occurrence : (i j : ℕ) → i ≤ j → value_items fs (from_to i j) vs bare ≡ value_items fs (just i) vs bare ++ value_items fs (from_to (i + 1) j) vs bare
  unfolding value_items join
  first_occurrence i j h = rw (over_first (occurrence_items fs vs bare) i j h, over_just (occurrence_items fs vs bare) i, append-nil)

-- In one occurrence, from its first field on.
module _ (i : ℕ) (vs : Range) (bare : Bool) where
  pub no_field : value_items [] (just i) vs bare ≡ []
  unfolding join
  no_field = one_occurrence [] vs bare i

  pub one_field : (a : Asked) → value_items (a ∷ []) (just i) vs bare ≡ field_items bare vs i a
  unfolding join
  one_field a = one_occurrence (a ∷ []) vs bare i ∙ append-nil _

  pub first_field : (a : Asked) (fs : List Asked) → value_items (a ∷ fs) (just i) vs bare ≡ value_items (a ∷ []) (just i) vs bare ++ value_items fs (just i) vs bare
  unfolding join
  first_field a fs = rw (one_occurrence (a ∷ fs) vs bare i, one_field a, one_occurrence fs vs bare i)

-- In one field of one occurrence, from its first value on.
module _ (a : Asked) (i : ℕ) (bare : Bool) where
  pub no_value : (k l : ℕ) → l < k → value_items (a ∷ []) (just i) (from_to k l) bare ≡ []
  no_value k l h = one_field i (from_to k l) bare a ∙ over_none (item_at bare a i) k l h

  pub first_value_item : (k l : ℕ) → k ≤ l → value_items (a ∷ []) (just i) (from_to k l) bare ≡ item_at bare a i k ∷ value_items (a ∷ []) (just i) (from_to (k + 1) l) bare
  first_value_item k l h = rw (one_field i (from_to k l) bare a, one_field i (from_to (k + 1) l) bare a) (over_first (item_at bare a i) k l h)

bind_bind : {A B C : Type 0} (m : Outcome A) (f : A → Outcome B) (g : B → Outcome C) → ((m >>= f) >>= g) ≡ (m >>= λ a. f a >>= g)
bind_bind (done a) f g = refl
bind_bind (refused n) f g = refl

bind_end : {A : Type 0} (m : Outcome A) → (m >>= λ a. done a) ≡ m
bind_end (done a) = refl
bind_end (refused n) = refl

module _ (ps : List Part) (r : Record) where
  -- Reading items one part after the other: the room of the second is what the first leaves.
  pub filled_append : (xs ys : List Item) (room : ℕ) → filled ps r room (xs ++ ys) ≡ (do
    a ← filled ps r room xs
    b ← filled ps r (room - length a) ys
    done (a ++ b))
  unfolding filled
  filled_append [] ys room = rw (sub-zero, bind_end (filled ps r room ys))
  filled_append (x ∷ xs) ys room = simp (bind_bind, filled_append xs ys, length-append, append_assoc, sub-add-eq)

-- What the record buffer gives to some items, and the bytes that it leaves.
unfoldable pub taking : List Item → Reader (List Assignment)
taking [] bs = done ([], bs)
taking (blanks_item n ∷ xs) bs = cut 7 n bs >>= λ r. taking xs r.1
taking (text_item t ∷ xs) bs = cut 7 (length t) bs >>= λ r. taking xs r.1
taking (group_count n ∷ xs) bs = cut 7 1 bs >>= λ r. taking xs r.1
taking (value_count n i ∷ xs) bs = cut 7 1 bs >>= λ r. taking xs r.1
taking (value_item p g n bare ∷ xs) bs = do
  r ← first_value n bs
  w ← converted_bytes g p.field.format p.field.size r.0
  ws ← taking xs r.1
  done (record { place = p; bare = bare; bytes = w } ∷ ws.0, ws.1)

pub assignments_taking : (xs : List Item) (bs : Bytes) → assignments xs bs ≡ (taking xs bs >>= λ r. done r.0)
unfolding assignments taking
assignments_taking [] bs = refl
assignments_taking (blanks_item n ∷ xs) bs = simp (bind_bind, assignments_taking xs)
assignments_taking (text_item t ∷ xs) bs = simp (bind_bind, assignments_taking xs)
assignments_taking (group_count n ∷ xs) bs = simp (bind_bind, assignments_taking xs)
assignments_taking (value_count n i ∷ xs) bs = simp (bind_bind, assignments_taking xs)
assignments_taking (value_item p g n bare ∷ xs) bs = simp (bind_bind, assignments_taking xs)

-- Updating by items one part after the other: the bytes of the second are what the first leaves.
pub taking_append : (xs ys : List Item) (bs : Bytes) → taking (xs ++ ys) bs ≡ (do
  a ← taking xs bs
  b ← taking ys a.1
  done (a.0 ++ b.0, b.1))
unfolding taking
taking_append [] ys bs = sym (bind_end (taking ys bs))
taking_append (blanks_item n ∷ xs) ys bs = simp (bind_bind, taking_append xs ys)
taking_append (text_item t ∷ xs) ys bs = simp (bind_bind, taking_append xs ys)
taking_append (group_count n ∷ xs) ys bs = simp (bind_bind, taking_append xs ys)
taking_append (value_count n i ∷ xs) ys bs = simp (bind_bind, taking_append xs ys)
taking_append (value_item p g n bare ∷ xs) ys bs = simp (bind_bind, taking_append xs ys)
