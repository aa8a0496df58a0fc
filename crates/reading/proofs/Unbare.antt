-- A read does not ask whether a bare name stood for an occurrence: the items fill the same bytes without that mark.
use mathlib.Core.Path.{◌≡◌, refl, sym, ◌∙◌, ap}
use mathlib.Core.Bool.{Bool, false}
use mathlib.Core.List.{List, [], ◌∷◌, ◌++◌, map}
use Prim.Native.Nat.{ℕ, zero, suc, ◌-◌}
use Rattle.rules.specs.Lists.{run, join}
use Rattle.rules.specs.Table.{Part, Field}
use Rattle.rules.specs.Record.{Record}
use Rattle.rules.specs.Format.{Range}
use Rattle.rules.specs.Use.{Item, blanks_item, text_item, group_count, value_count, value_item, Asked, over, items_over}
use Rattle.rules.specs.Services.{item_bytes, filled}
use Rattle.rules.proofs.Ranges.{field_items, item_at}
use Rattle.reading.proofs.SpanItems.{row_items}

unbare : Item → Item
unbare (blanks_item n) = blanks_item n
unbare (text_item t) = text_item t
unbare (group_count n) = group_count n
unbare (value_count n i) = value_count n i
unbare (value_item p g n bare) = value_item p g n false

module _ (ps : List Part) (r : Record) where
  item_same : (x : Item) → item_bytes ps r (unbare x) ≡ item_bytes ps r x
  unfolding unbare item_bytes
  item_same (blanks_item n) = refl
  item_same (text_item t) = refl
  item_same (group_count n) = refl
  item_same (value_count n i) = refl
  item_same (value_item p g n bare) = refl

  filled_same : (xs : List Item) (room : ℕ) → filled ps r room (map unbare xs) ≡ filled ps r room xs
  unfolding filled
  filled_same [] room = refl
  filled_same (x ∷ xs) room = simp (item_same x, filled_same xs)

map_append : {A B : Type 0} (f : A → B) (xs ys : List A) → map f (xs ++ ys) ≡ map f xs ++ map f ys
map_append f [] ys = refl
map_append f (x ∷ xs) ys = ap (λ zs. f x ∷ zs) (map_append f xs ys)

map_join : {A B : Type 0} (f : A → B) (xss : List (List A)) → map f (join xss) ≡ join (map (map f) xss)
unfolding join
map_join f [] = refl
map_join f (xs ∷ xss) = map_append f xs (join xss) ∙ ap (λ zs. map f xs ++ zs) (map_join f xss)

map_run : {A B : Type 0} (f : A → B) (g : ℕ → A) (i n : ℕ) → map f (run g i n) ≡ run (λ k. f (g k)) i n
unfolding run
map_run f g i zero = refl
map_run f g i (suc n) = ap (λ zs. f (g i) ∷ zs) (map_run f g (suc i) n)

-- Two runs of the same things.
run_same : {A : Type 0} (f g : ℕ → A) → ((k : ℕ) → f k ≡ g k) → (i n : ℕ) → run f i n ≡ run g i n
unfolding run
run_same f g h i zero = refl
run_same f g h i (suc n) = let q = run_same f g h (suc i) n in rw (h i, q) refl

-- The values of a field may differ by the occurrence.
module _ (vs : Field → ℕ → Range) (bare : Bool) where
  fields_same : (i : ℕ) (fs : List Asked) → map (map unbare) (map (λ a. field_items bare (vs a.field i) i a) fs) ≡ map (λ a. field_items false (vs a.field i) i a) fs
  unfolding unbare
  fields_same i [] = refl
  fields_same i (a ∷ fs) =
      let r = vs a.field i in
      let q = fields_same i fs in
      rw (map_run unbare (item_at bare a i) r.from (suc r.upto - r.from), q) refl

  row_same : (fs : List Asked) (i : ℕ) → map unbare (row_items fs vs bare i) ≡ row_items fs vs false i
  row_same fs i = map_join unbare (map (λ a. field_items bare (vs a.field i) i a) fs) ∙ ap join (fields_same i fs)

  items_same : (fs : List Asked) (os : Range) → map unbare (items_over fs os vs bare) ≡ items_over fs os vs false
  items_same fs os =
      map_join unbare (over os (row_items fs vs bare))
      ∙ ap join (map_run (map unbare) (row_items fs vs bare) os.from (suc os.upto - os.from)
      ∙ run_same (λ i. map unbare (row_items fs vs bare i)) (row_items fs vs false) (row_same fs) os.from (suc os.upto - os.from))

pub filled_bare : (ps : List Part) (r : Record) (room : ℕ) (fs : List Asked) (os : Range) (vs : Field → ℕ → Range) (bare : Bool)
    → filled ps r room (items_over fs os vs bare) ≡ filled ps r room (items_over fs os vs false)
filled_bare ps r room fs os vs bare = sym (filled_same ps r (items_over fs os vs bare) room) ∙ ap (filled ps r room) (items_same vs bare fs os)
