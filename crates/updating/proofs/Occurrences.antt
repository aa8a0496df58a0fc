-- Cells and occurrences of a record laid out by a plan are, as bytes, what their values, members and occurrences add one after the other.
use mathlib.Core.Path.{◌≡◌, refl, ◌∙◌, ap}
use mathlib.Core.Bool.{Bool, true, false}
use mathlib.Core.List.{List, [], ◌∷◌, ◌++◌, map}
use Prim.Native.Nat.{ℕ, zero, suc}
use lib.Dec.{ltb}
use lib.ListN.{length}
use Rattle.rules.specs.Lists.{Bytes, join, run}
use Rattle.rules.specs.Table.{Field, What, field, group, Entry, fields_below}
use Rattle.rules.specs.Record.{Plan, counted_bytes, each_bytes, cell_bytes, laid_cell}
use Rattle.rules.proofs.Steps.{by_test}
use Rattle.rules.proofs.Runs.{run_length}
use Rattle.tables.specs.Groups.{field_by}
use Rattle.updating.specs.Laid.{count_byte, values_laid, cell_laid, member_laid, occurrence_laid, occurrences_laid}

pub counted_as : {X : Type 0} (c : Bool) (one : X → Bytes) (xs : List X) → counted_bytes c one xs ≡ count_byte c (length xs) ++ join (map one xs)
unfolding counted_bytes count_byte
counted_as true one xs = refl
counted_as false one xs = refl

module _ (w : Plan) where
  values_as : (f : Field) (i k n : ℕ) → join (map (λ v. v) (run (λ j. w.value f i j) k n)) ≡ values_laid w f i k n
  unfolding join run values_laid
  values_as f i k zero = refl
  values_as f i k (suc n) = ap (λ (l : Bytes). w.value f i k ++ l) (values_as f i (suc k) n)

  pub cell_as : (i : ℕ) (f : Field) → cell_bytes f (laid_cell w i f) ≡ cell_laid w i f
  unfolding cell_bytes laid_cell cell_laid
  cell_as i f = rw (counted_as, run_length, values_as f i 1 (w.values f i))

  -- The cells of some fields.
  unfoldable fields_laid : ℕ → List Field → Bytes
  fields_laid i [] = []
  fields_laid i (f ∷ fs) = cell_laid w i f ++ fields_laid i fs

  fields_as : (i : ℕ) (fs : List Field) → each_bytes cell_bytes fs (map (laid_cell w i) fs) ≡ fields_laid i fs
  unfolding each_bytes fields_laid
  fields_as i [] = refl
  fields_as i (f ∷ fs) = rw (cell_as i f, fields_as i fs)

  below_step : (i name level : ℕ) (x : What) (es : List Entry) → fields_laid i (fields_below 1 es) ≡ occurrence_laid w i es
      → fields_laid i (fields_below 1 (record { name = name; level = level; what = x } ∷ es)) ≡ occurrence_laid w i (record { name = name; level = level; what = x } ∷ es)
  unfolding fields_laid fields_below occurrence_laid member_laid field_by
  below_step i name level (field f s mu) es h = by_test (ltb 1 level)
      (λ t. rw (t, fields_below, occurrence_laid) (ap (λ (l : Bytes). cell_laid w i (field_by name (field f s mu)) ++ l) h))
      (λ t. rw (t, fields_below, occurrence_laid))
  below_step i name level (group p) es h = by_test (ltb 1 level) (λ t. rw (t, fields_below, occurrence_laid) h) (λ t. rw (t, fields_below, occurrence_laid))

  below_as : (i : ℕ) (es : List Entry) → fields_laid i (fields_below 1 es) ≡ occurrence_laid w i es
  unfolding fields_laid fields_below occurrence_laid
  below_as i [] = refl
  below_as i (e ∷ es) = below_step i e.name e.level e.what es (below_as i es)

  pub occurrence_as : (i : ℕ) (es : List Entry) → each_bytes cell_bytes (fields_below 1 es) (map (laid_cell w i) (fields_below 1 es)) ≡ occurrence_laid w i es
  occurrence_as i es = fields_as i (fields_below 1 es) ∙ below_as i es

  pub occurrences_as : (es : List Entry) (i n : ℕ)
      → join (map (each_bytes cell_bytes (fields_below 1 es)) (run (λ j. map (laid_cell w j) (fields_below 1 es)) i n)) ≡ occurrences_laid w es i n
  unfolding join run occurrences_laid
  occurrences_as es i zero = refl
  occurrences_as es i (suc n) = rw (occurrence_as i es, occurrences_as es (suc i) n)
