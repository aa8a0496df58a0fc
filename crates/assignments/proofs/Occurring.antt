-- What is assigned is assigned to occurrences that count from 1, since the ranges of an element's indexes do.
use mathlib.Core.Path.{sym, subst}
use mathlib.Core.List.{List, [], ◌∷◌, map}
use Prim.Native.Nat.{ℕ, zero, suc, ◌+◌, ◌≤◌, ◌<◌}
use native.Mathlib.Omega.{arith}
use Rattle.rules.specs.Lists.{Bytes, run, join}
use Rattle.rules.specs.Table.{Entry}
use Rattle.rules.specs.Use.{Place, Asked, Use, items_of, items}
use Rattle.rules.specs.Update.{Assignment}
use Rattle.rules.proofs.Back.{All}
use Rattle.rules.proofs.Alls.{all_append}
use Rattle.rules.proofs.Places.{places_of, places_append, places_grid, spots, row, grid}
use Rattle.uses.specs.Meant.{use_meant, GoodUse}
use Rattle.uses.specs.Kept.{use_at, uses_kept}
use Rattle.uses.specs.declared.Use.{Use as Kept}
use Rattle.uses.specs.declared.Use.TheVariants as code
use Rattle.assignments.specs.Notes.{Listed}
use Rattle.assignments.proofs.SpanNames.{span_occurrences}
use Rattle.assignments.proofs.Given.{taking_places}

abbrev Occurs : Place → Type 0
Occurs p = 1 ≤ p.occurrence

spots_occur : (a : Asked) (i k m : ℕ) → 1 ≤ i → All Occurs (spots a i k m)
unfolding spots run
spots_occur a i k zero h = tt
spots_occur a i k (suc m) h = (h, spots_occur a i (suc k) m h)

row_occurs : (fs : List Asked) (i k m : ℕ) → 1 ≤ i → All Occurs (row fs i k m)
unfolding row join
row_occurs [] i k m h = tt
row_occurs (a ∷ fs) i k m h = all_append Occurs (spots a i k m) (row fs i k m) (spots_occur a i k m h) (row_occurs fs i k m h)

grid_occurs : (fs : List Asked) (i n k m : ℕ) → 1 ≤ i → All Occurs (grid fs i n k m)
unfolding grid join run
grid_occurs fs i zero k m h = tt
grid_occurs fs i (suc n) k m h = all_append Occurs (row fs i k m) (grid fs (suc i) n k m) (row_occurs fs i k m h) (grid_occurs fs (suc i) n k m (omega arith))

use_occurs : (es : List Entry) (f : Bytes) (u : Kept) → GoodUse es f u → All Occurs (places_of (items_of (use_meant es f u)))
unfolding items_of places_of
use_occurs es f (code.Blanks n) g = tt
use_occurs es f (code.Text from upto) g = tt
use_occurs es f (code.GroupCount i) g = tt
use_occurs es f (code.ValueCount i k) g = tt
use_occurs es f (code.Values s) g = rw (places_grid _ _ _ s.bare) (grid_occurs _ s.from _ _ _ (span_occurrences es s g).0)

uses_occur : (g : ℕ → Use) → (i n : ℕ) → ((j : ℕ) → i ≤ j → j < i + n → All Occurs (places_of (items_of (g j)))) → All Occurs (places_of (items (run g i n)))
unfolding items join run places_of
uses_occur g i zero h = tt
uses_occur g i (suc n) h = rw (places_append (items_of (g i)) (items (run g (suc i) n))) (all_append Occurs (places_of (items_of (g i))) _ (h i (omega arith) (omega arith)) (uses_occur g (suc i) n (λ j l k. h j (omega arith) (omega arith))))

of_places : (ws : List Assignment) → All Occurs (map (λ a. a.place) ws) → All (λ a. Occurs a.place) ws
of_places [] h = tt
of_places (a ∷ ws) h = (h.0, of_places ws h.1)

pub all_occur : {es : List Entry} {f : Bytes} {kept : List ℕ} {count : ℕ} {list : List ℕ} {stage : Bytes} {ws : List Assignment} → Listed es f kept count list stage ws
    → All (λ (a : Assignment). 1 ≤ a.place.occurrence) ws
unfolding uses_kept
all_occur {es} {f} {kept} {count} {ws = ws} l = of_places ws (subst (All Occurs) (sym (taking_places _ l.buffer ws l.rest l.given))
    (uses_occur (λ j. use_meant es f (use_at kept j)) 0 count (λ j a b. use_occurs es f (use_at kept j) (l.uses j (omega arith)))))
