-- The refusals of a table are 1, those of a record 2, and those of a format's syntax 3: each test refuses with that number.
use mathlib.Core.Path.{◌≡◌, refl}
use mathlib.Core.Bool.{Bool, true, false, not, ◌&&◌, ◌||◌}
use mathlib.Core.List.{List, [], ◌∷◌}
use Prim.Native.Nat.{ℕ, zero, suc}
use lib.Dec.{eqb, leb}
use lib.ListN.{length, take, drop, get_or}
use Rattle.rules.specs.Outcome.{done, refused, by, ◌>>=◌, need, refused_as, is_done}
use Rattle.rules.specs.Limits.{most_entries, greatest_count, longest_record, longest_format, longest_blanks, longest_text, greatest_length, most_digits}
use Rattle.rules.specs.Characters.{space, period, apostrophe, hyphen, open_parenthesis, close_parenthesis, digit, letter_C, letter_N, letter_X}
use Rattle.rules.specs.Lists.{Bytes, nothing, absent, same, all, but_last, last}
use Rattle.rules.specs.Values.{Format, allowed, first_value, in_normal_form}
use Rattle.rules.specs.Table.{group, format_of, is_name, name_of, what_of, entries, levels, differ, names, table, table_head, Field, Part}
use Rattle.rules.specs.Record.{Reader, times, stored_count, counted, each, stored_value, stored_cell, stored_part, stored, record_head}
use Rattle.rules.specs.Format.{Indexing, these, the_last, up_to_the_last, Element, blanks, quoted, named, count, count_in_last, series, Piece, element, length_piece, format_piece, turned, ends, texts, trim, leading_digits, number_first, index_first, range_to, range_end, closing, parenthesis, takes_parenthesis, after_range, after_index, series_to, after_name, is_override, after_number, text_piece, piece, Pending, settled, completed, put_before, assembled, elements}
use Rattle.rules.proofs.Only.{Only, Is, only_bind, only_need, only_as, only_pick, only_option, refused_by}

-- ---- a table

what_only : (level format length option : ℕ) → Only (Is 1) (what_of level format length option)
unfolding what_of
what_only level format length option =
    only_option (Is 1) (format_of format) _ _
    (only_need (Is 1) (eqb format space && eqb length 0 && (eqb option 0 || (eqb option 2 && eqb level 1))) refl _ tt)
    (λ f. only_need (Is 1) (allowed f length && leb option 1) refl _ tt)

entries_only : (n : ℕ) (bs : Bytes) → Only (Is 1) (entries n bs)
unfolding entries
entries_only zero [] = tt
entries_only zero (b ∷ bs) = refl
entries_only (suc n) [] = refl
entries_only (suc n) (a ∷ []) = refl
entries_only (suc n) (a ∷ b ∷ []) = refl
entries_only (suc n) (a ∷ b ∷ l ∷ []) = refl
entries_only (suc n) (a ∷ b ∷ l ∷ f ∷ []) = refl
entries_only (suc n) (a ∷ b ∷ l ∷ f ∷ s ∷ []) = refl
entries_only (suc n) (a ∷ b ∷ l ∷ f ∷ s ∷ o ∷ bs) =
    only_need (Is 1) (is_name a b) refl _
    (only_bind (Is 1) (what_of l f s o) _ (what_only l f s o) (λ w. only_bind (Is 1) (entries n bs) _ (entries_only n bs) (λ es. tt)))

pub table_only : (t : Bytes) → Only (Is 1) (table t)
unfolding table
table_only t =
    only_need (Is 1) (same (take 5 t) table_head) refl _
    (only_need (Is 1) (leb 1 (get_or t 5 0) && leb (get_or t 5 0) most_entries) refl _
    (only_bind (Is 1) (entries (get_or t 5 0) (drop 6 t)) _ (entries_only (get_or t 5 0) (drop 6 t))
    (λ es. only_need (Is 1) (levels (group false) 0 es && differ (names es)) refl _ tt)))

pub no_table : (t : Bytes) → is_done (table t) ≡ false → table t ≡ refused (by 1)
no_table t h = refused_by 1 (table t) (table_only t) h

-- ---- a stored record

value_only : (f : Format) (n : ℕ) (bs : Bytes) → Only (Is 2) (stored_value f n bs)
unfolding stored_value
value_only f n bs =
    only_bind (Is 2) (refused_as 2 (first_value n bs)) _ (only_as (Is 2) refl (first_value n bs))
    (λ r. only_need (Is 2) (in_normal_form f n r.0) refl _ tt)

times_only : {X : Type 0} (one : Reader X) → ((bs : Bytes) → Only (Is 2) (one bs)) → (n : ℕ) (bs : Bytes) → Only (Is 2) (times n one bs)
unfolding times
times_only one h zero bs = tt
times_only one h (suc n) bs =
    only_bind (Is 2) (one bs) _ (h bs) (λ x. only_bind (Is 2) (times n one x.1) _ (times_only one h n x.1) (λ xs. tt))

count_only : (bs : Bytes) → Only (Is 2) (stored_count bs)
unfolding stored_count
count_only [] = refl
count_only (n ∷ bs) = only_need (Is 2) (leb n greatest_count) refl _ tt

counted_only : {X : Type 0} (c : Bool) (one : Reader X) → ((bs : Bytes) → Only (Is 2) (one bs)) → (bs : Bytes) → Only (Is 2) (counted c one bs)
unfolding counted
counted_only false one h bs = times_only one h 1 bs
counted_only true one h bs = only_bind (Is 2) (stored_count bs) _ (count_only bs) (λ n. times_only one h n.0 n.1)

each_only : {X Y : Type 0} (one : Y → Reader X) → ((y : Y) (bs : Bytes) → Only (Is 2) (one y bs)) → (ys : List Y) (bs : Bytes) → Only (Is 2) (each one ys bs)
unfolding each
each_only one h [] bs = tt
each_only one h (y ∷ ys) bs =
    only_bind (Is 2) (one y bs) _ (h y bs) (λ x. only_bind (Is 2) (each one ys x.1) _ (each_only one h ys x.1) (λ xs. tt))

cell_only : (f : Field) (bs : Bytes) → Only (Is 2) (stored_cell f bs)
unfolding stored_cell
cell_only f = counted_only f.multiple (stored_value f.format f.size) (value_only f.format f.size)

part_only : (p : Part) (bs : Bytes) → Only (Is 2) (stored_part p bs)
unfolding stored_part
part_only p = counted_only p.periodic (each stored_cell p.members) (each_only stored_cell cell_only p.members)

pub stored_only : (ps : List Part) (bs : Bytes) → Only (Is 2) (stored ps bs)
unfolding stored
stored_only ps bs =
    only_need (Is 2) (leb (length bs) longest_record) refl _
    (only_need (Is 2) (same (take 5 bs) record_head) refl _
    (only_bind (Is 2) (each stored_part ps (drop 5 bs)) _ (each_only stored_part part_only ps (drop 5 bs))
    (λ r. only_need (Is 2) (nothing r.1) refl _ tt)))

pub no_record : (ps : List Part) (bs : Bytes) → is_done (stored ps bs) ≡ false → stored ps bs ≡ refused (by 2)
no_record ps bs h = refused_by 2 (stored ps bs) (stored_only ps bs) h

-- ---- a format's syntax

pub texts_only : (inside : Bool) (bs : Bytes) → Only (Is 3) (texts inside bs)
unfolding texts
texts_only inside [] = refl
texts_only inside (b ∷ bs) =
    only_pick (Is 3) (ends inside b) _ _
    (only_pick (Is 3) (eqb b period) _ _ tt (only_bind (Is 3) (texts false bs) _ (texts_only false bs) (λ ts. tt)))
    (only_bind (Is 3) (texts (turned inside b) bs) _ (texts_only (turned inside b) bs) (λ ts. tt))

number_only : (bs : Bytes) → Only (Is 3) (number_first bs)
unfolding number_first
number_only bs =
    only_need (Is 3) (leb 1 (length (leading_digits bs).0) && leb (length (leading_digits bs).0) most_digits) refl _ tt

index_only : (bs : Bytes) → Only (Is 3) (index_first bs)
unfolding index_first
index_only [] = refl
index_only (b ∷ bs) = only_pick (Is 3) (eqb b letter_N) _ _ tt (only_bind (Is 3) (number_first (b ∷ bs)) _ (number_only (b ∷ bs)) (λ i. tt))

range_joined : (i : ℕ) (y : Indexing) (bs : Bytes) → Only {A = Indexing × Bytes} (Is 3) (elim y [
  | these s ↦ done (these (record { from = i; upto = s.upto }), bs)
  | the_last ↦ need (eqb i 1) 3 >>= (λ _. done (up_to_the_last, bs))
  | up_to_the_last ↦ refused (by 3)
])
range_joined i (these s) bs = tt
range_joined i the_last bs = only_need (Is 3) (eqb i 1) refl _ tt
range_joined i up_to_the_last bs = refl

range_to_only : (x : Indexing) (bs : Bytes) → Only (Is 3) (range_to x bs)
unfolding range_to
range_to_only (these r) bs = only_bind (Is 3) (index_first bs) _ (index_only bs) (λ j. range_joined r.from j.0 j.1)
range_to_only the_last bs = refl
range_to_only up_to_the_last bs = refl

range_end_only : (x : Indexing) (bs : Bytes) → Only (Is 3) (range_end x bs)
unfolding range_end
range_end_only x [] = tt
range_end_only x (b ∷ bs) = only_pick (Is 3) (eqb b hyphen) _ _ (range_to_only x bs) tt

closing_only : (x : Indexing) (bs : Bytes) → Only (Is 3) (closing x bs)
unfolding closing
closing_only x [] = refl
closing_only x (b ∷ bs) = only_need (Is 3) (eqb b close_parenthesis && nothing bs) refl _ tt

parenthesis_only : (bs : Bytes) → Only (Is 3) (parenthesis bs)
unfolding parenthesis
parenthesis_only bs =
    only_bind (Is 3) (index_first bs) _ (index_only bs)
    (λ k. only_bind (Is 3) (range_end k.0 k.1) _ (range_end_only k.0 k.1) (λ r. closing_only r.0 r.1))

after_range_only : (n : ℕ) (x : Indexing) (bs : Bytes) → Only (Is 3) (after_range n x bs)
unfolding after_range
after_range_only n x [] = tt
after_range_only n x (b ∷ bs) =
    only_need (Is 3) (takes_parenthesis x && eqb b open_parenthesis) refl _ (only_bind (Is 3) (parenthesis bs) _ (parenthesis_only bs) (λ v. tt))

after_index_only : (n : ℕ) (x : Indexing) (bs : Bytes) → Only (Is 3) (after_index n x bs)
unfolding after_index
after_index_only n x [] = tt
after_index_only n x (b ∷ bs) =
    only_pick (Is 3) (eqb b letter_C && nothing bs) _ _ tt
    (only_bind (Is 3) (range_end x (b ∷ bs)) _ (range_end_only x (b ∷ bs)) (λ r. after_range_only n r.0 r.1))

series_only : (n : ℕ) (bs : Bytes) → Only (Is 3) (series_to n bs)
unfolding series_to
series_only n [] = refl
series_only n (a ∷ []) = refl
series_only n (a ∷ b ∷ bs) = only_need (Is 3) (is_name a b && nothing bs) refl _ tt

after_name_only : (n : ℕ) (bs : Bytes) → Only (Is 3) (after_name n bs)
unfolding after_name
after_name_only n [] = tt
after_name_only n (b ∷ bs) =
    only_pick (Is 3) (eqb b letter_C && nothing bs) _ _ tt
    (only_pick (Is 3) (eqb b hyphen) _ _ (series_only n bs)
    (only_bind (Is 3) (index_first (b ∷ bs)) _ (index_only (b ∷ bs)) (λ i. after_index_only n i.0 i.1)))

after_number_only : (n : ℕ) (bs : Bytes) → Only (Is 3) (after_number n bs)
unfolding after_number
after_number_only n [] = only_need (Is 3) (leb n greatest_length) refl _ tt
after_number_only n (b ∷ bs) =
    only_need (Is 3) (eqb b letter_X && nothing bs && leb 1 n && leb n longest_blanks) refl _ tt

text_only : (bs : Bytes) → Only (Is 3) (text_piece bs)
unfolding text_piece
text_only bs =
    only_need (Is 3) (eqb (last bs) apostrophe && all (λ b. not (eqb b apostrophe)) (but_last bs)) refl _
    (only_need (Is 3) (leb 1 (length (but_last bs)) && leb (length (but_last bs)) longest_text) refl _ tt)

pub piece_only : (bs : Bytes) → Only (Is 3) (piece bs)
unfolding piece
piece_only [] = refl
piece_only (a ∷ []) = only_pick (Is 3) (digit a) _ _ tt (only_need (Is 3) (is_override a) refl _ tt)
piece_only (a ∷ b ∷ bs) =
    only_pick (Is 3) (eqb a apostrophe) _ _ (text_only (b ∷ bs))
    (only_pick (Is 3) (digit a) _ _
    (only_bind (Is 3) (number_first (a ∷ b ∷ bs)) _ (number_only (a ∷ b ∷ bs)) (λ i. after_number_only i.0 i.1))
    (only_need (Is 3) (is_name a b) refl _ (only_bind (Is 3) (after_name (name_of a b) bs) _ (after_name_only (name_of a b) bs) (λ e. tt))))

completed_only : (e : Element) (p : Pending) → Only (Is 3) (completed e p)
unfolding completed
completed_only (named n o v l f) p = tt
completed_only (blanks n) p = only_need (Is 3) (settled p) refl _ tt
completed_only (quoted t) p = only_need (Is 3) (settled p) refl _ tt
completed_only (count n i) p = only_need (Is 3) (settled p) refl _ tt
completed_only (count_in_last n) p = only_need (Is 3) (settled p) refl _ tt
completed_only (series n m) p = only_need (Is 3) (settled p) refl _ tt

put_only : (x : Piece) (p : Pending) → Only (Is 3) (put_before x p)
unfolding put_before
put_only (element e) p = only_bind (Is 3) (completed e p) _ (completed_only e p) (λ x. tt)
put_only (length_piece n) p = only_need (Is 3) (absent p.size) refl _ tt
put_only (format_piece b) p = only_need (Is 3) (settled p) refl _ tt

pub assembled_only : (ts : List Bytes) → Only (Is 3) (assembled ts)
unfolding assembled
assembled_only [] = tt
assembled_only (t ∷ ts) =
    only_bind (Is 3) (piece (trim t)) _ (piece_only (trim t))
    (λ p. only_bind (Is 3) (assembled ts) _ (assembled_only ts) (λ r. put_only p r))

pub elements_only : (bs : Bytes) → Only (Is 3) (elements bs)
unfolding elements
elements_only bs =
    only_need (Is 3) (leb (length bs) longest_format) refl _
    (only_bind (Is 3) (texts false bs) _ (texts_only false bs)
    (λ ts. only_bind (Is 3) (assembled ts) _ (assembled_only ts) (λ p. only_need (Is 3) (settled p) refl _ tt)))
