-- The body of the empty record is what its entries add to it, one after the other: each entry is a part of its own or adds nothing.
use mathlib.Core.Path.{◌≡◌, refl, ◌∙◌, ap}
use mathlib.Core.Bool.{Bool, true, false}
use mathlib.Core.List.{List, [], ◌∷◌, ◌++◌, append-nil}
use Prim.Native.Nat.{ℕ}
use Rattle.rules.specs.Lists.{Bytes, join, run}
use Rattle.rules.specs.Table.{What, field, group, Entry, Part, is_inside, parts_from, part_of, alone}
use Rattle.rules.specs.Record.{body_bytes, part_bytes, cell_bytes, each_bytes, count_bytes, counted_bytes, empty_record, laid_out, laid_part, laid_cell, count_or_one}
use Rattle.records.specs.Empty.{empty_entry, empty_from}

-- The empty record of some parts, as bytes.
abbrev pub empty_body : List Part → Bytes
empty_body ps = body_bytes ps (empty_record ps)

-- One entry before the parts after it.
step : (inside : Bool) (name : ℕ) (w : What) (es : List Entry) (ps : List Part)
    → empty_body (part_of inside name w es ps) ≡ empty_entry inside w ++ empty_body ps
unfolding body_bytes part_bytes cell_bytes each_bytes count_bytes counted_bytes empty_record laid_out laid_part laid_cell count_or_one part_of alone empty_entry join run
step inside name (group true) es ps = refl
step inside name (group false) es ps = refl
step true name (field f n mu) es ps = refl
step false name (field f n true) es ps = refl
step false name (field f n false) es ps = simp append-nil

pub empty_body_from : (before : Bool) (es : List Entry) → empty_body (parts_from before es) ≡ empty_from before es
unfolding parts_from empty_from body_bytes each_bytes empty_record laid_out
empty_body_from before [] = refl
empty_body_from before (e ∷ es) =
    step (is_inside before e) e.name e.what es (parts_from (is_inside before e) es)
    ∙ ap (λ (l : Bytes). empty_entry (is_inside before e) e.what ++ l) (empty_body_from (is_inside before e) es)
