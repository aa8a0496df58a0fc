-- The body of a record laid out by a plan is what the table's entries add to it, one after the other.
use mathlib.Core.Path.{◌≡◌, refl, ◌∙◌}
use mathlib.Core.Bool.{Bool, true, false}
use mathlib.Core.List.{List, [], ◌∷◌, ◌++◌, append-nil}
use Prim.Native.Nat.{ℕ}
use lib.ListN.{length}
use Rattle.rules.specs.Lists.{Bytes, join, run}
use Rattle.rules.specs.Table.{Field, What, field, group, Entry, Part, is_inside, parts_from, part_of, alone}
use Rattle.rules.specs.Record.{Plan, Record, count_bytes, each_bytes, part_bytes, body_bytes, laid_part, laid_out}
use Rattle.rules.proofs.Runs.{run_length}
use Rattle.tables.specs.Groups.{field_by}
use Rattle.updating.specs.Laid.{group_part, count_byte, cell_laid, occurrences_laid, entry_laid, laid_from}
use Rattle.updating.proofs.Occurrences.{counted_as, cell_as, occurrences_as}

-- How many occurrences the first part of a record has, and the parts after it.
abbrev pub first_count : Record → ℕ
first_count [] = 0
first_count (os ∷ r) = length os

abbrev pub after_first : Record → Record
after_first [] = []
after_first (os ∷ r) = r

-- The old count of each part, by its name, is that of the record beside it.
abbrev pub Counts : (ℕ → ℕ) → List Part → Record → Type 0
Counts old [] r = Unit {0}
Counts old (p ∷ ps) r = (old p.name ≡ first_count r) × Counts old ps (after_first r)

-- A part that is no periodic group stands in a record once.
abbrev pub OnceLaid : Plan → Type 0
OnceLaid w = (p : Part) (n : ℕ) → p.periodic ≡ false → w.occurrences p n ≡ 1

module _ (w : Plan) (once : OnceLaid w) where
  body_first : (p : Part) (ps : List Part) (r : Record)
      → body_bytes (p ∷ ps) (laid_out w (p ∷ ps) r) ≡ part_bytes p (laid_part w p (first_count r)) ++ body_bytes ps (laid_out w ps (after_first r))
  unfolding body_bytes each_bytes laid_out
  body_first p ps [] = refl
  body_first p ps (os ∷ r) = refl

  pub alone_as : (f : Field) (n : ℕ) → part_bytes (alone f) (laid_part w (alone f) n) ≡ cell_laid w 1 f
  unfolding part_bytes laid_part alone each_bytes join run count_byte
  alone_as f n = rw (counted_as, once (alone f) n refl) (append-nil _ ∙ append-nil _ ∙ cell_as w 1 f)

  pub group_as : (name : ℕ) (es : List Entry) (n : ℕ)
      → part_bytes (group_part name es) (laid_part w (group_part name es) n) ≡ count_bytes (w.occurrences (group_part name es) n) ++ occurrences_laid w es 1 (w.occurrences (group_part name es) n)
  unfolding part_bytes laid_part count_byte
  group_as name es n = rw (counted_as, run_length, occurrences_as w es 1 (w.occurrences (group_part name es) n))

  module _ (old : ℕ → ℕ) where
    step : (inside : Bool) (name : ℕ) (x : What) (es : List Entry) (ps : List Part) (r : Record) (rest : Bytes) → Counts old (part_of inside name x es ps) r
        → ((s : Record) → Counts old ps s → body_bytes ps (laid_out w ps s) ≡ rest)
        → body_bytes (part_of inside name x es ps) (laid_out w (part_of inside name x es ps) r) ≡ entry_laid w old inside name x es ++ rest
    unfolding part_of entry_laid alone field_by
    step inside name (group true) es ps r rest c h = body_first (group_part name es) ps r ∙ rw (← c.0, group_as, h (after_first r) c.1)
    step inside name (group false) es ps r rest c h = h r c
    step true name (field f s mu) es ps r rest c h = h r c
    step false name (field f s mu) es ps r rest c h = body_first (alone (field_by name (field f s mu))) ps r ∙ rw (alone_as, h (after_first r) c.1)

    pub body_from : (before : Bool) (es : List Entry) (r : Record) → Counts old (parts_from before es) r
        → body_bytes (parts_from before es) (laid_out w (parts_from before es) r) ≡ laid_from w old before es
    unfolding parts_from laid_from body_bytes each_bytes laid_out
    body_from before [] r c = refl
    body_from before (e ∷ es) r c =
        step (is_inside before e) e.name e.what es (parts_from (is_inside before e) es) r _ c (λ s d. body_from (is_inside before e) es s d)
