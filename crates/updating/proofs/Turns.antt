-- One turn of each loop that lays out a record: the first entry, occurrence, member or value from some place on, then the rest.
use mathlib.Core.Path.{◌≡◌, refl, sym}
use mathlib.Core.Bool.{Bool, true, false, false≢true}
use mathlib.Core.List.{List, [], ◌++◌, append-nil}
use Prim.Native.Nat.{ℕ, suc, ◌+◌, ◌-◌, ◌≤◌, ◌<◌}
use native.Mathlib.Numerals.{add-one}
use native.Mathlib.Omega.{arith}
use lib.Dec.{ltb}
use lib.ListN.{length, drop, get_or, drop_of_length-le}
use lib.Seq.{drop-cons}
use Rattle.rules.specs.Table.{Field, What, field, group, Entry, is_inside}
use Rattle.rules.specs.Record.{Plan, count_bytes}
use Rattle.tables.specs.Entries.{is_group, is_periodic}
use Rattle.tables.specs.Groups.{field_by}
use Rattle.updating.specs.Laid.{group_part, count_byte, values_laid, cell_laid, member_laid, occurrence_laid, occurrences_laid, entry_laid, laid_from}

module _ (w : Plan) where
  -- A cell: of a plain field one value; of an MU field a count and the values 1 to that count.
  pub plain_cell : (i : ℕ) (f : Field) → f.multiple ≡ false → w.values f i ≡ 1 → cell_laid w i f ≡ w.value f i 1
  unfolding cell_laid count_byte values_laid
  plain_cell i f m h = plain f.multiple m
    where
      plain : (c : Bool) → c ≡ false → (count_byte c (w.values f i) ++ values_laid w f i 1 (w.values f i)) ≡ w.value f i 1
      plain true e = absurd (false≢true (sym e))
      plain false e = rw h (append-nil _)

  pub multiple_cell : (i : ℕ) (f : Field) → f.multiple ≡ true → cell_laid w i f ≡ count_bytes (w.values f i) ++ values_laid w f i 1 (w.values f i)
  unfolding cell_laid count_byte
  multiple_cell i f m = many f.multiple m
    where
      many : (c : Bool) → c ≡ true → (count_byte c (w.values f i) ++ values_laid w f i 1 (w.values f i)) ≡ count_bytes (w.values f i) ++ values_laid w f i 1 (w.values f i)
      many true e = refl
      many false e = absurd (false≢true e)

  -- Occurrences i to n of a periodic group.
  pub occurrence_turn : (es : List Entry) (i n : ℕ) → i ≤ n → occurrences_laid w es i (suc n - i) ≡ occurrence_laid w i es ++ occurrences_laid w es (i + 1) (suc n - (i + 1))
  unfolding occurrences_laid
  occurrence_turn es i n h = let e : suc n - i ≡ suc (suc n - (i + 1)) = omega arith in rw (e, add-one)

  pub occurrences_over : (es : List Entry) (i n : ℕ) → n < i → occurrences_laid w es i (suc n - i) ≡ []
  unfolding occurrences_laid
  occurrences_over es i n h = let e : suc n - i ≡ 0 = omega arith in rw e

  -- The members of an occurrence from entry j on, up to the next entry of level 1 or the end.
  module _ (i : ℕ) (es : List Entry) (j : ℕ) (d : Entry) where
    pub member_turn : j < length es → ltb 1 (get_or es j d).level ≡ true
        → occurrence_laid w i (drop j es) ≡ member_laid w i (get_or es j d).name (get_or es j d).what ++ occurrence_laid w i (drop (j + 1) es)
    unfolding occurrence_laid
    member_turn h t = rw (drop-cons es j d h, add-one) (rw (t, occurrence_laid))

    pub members_over : j < length es → ltb 1 (get_or es j d).level ≡ false → occurrence_laid w i (drop j es) ≡ []
    unfolding occurrence_laid
    members_over h t = rw (drop-cons es j d h) (rw (t, occurrence_laid))

  pub members_end : (i : ℕ) (es : List Entry) (j : ℕ) → length es ≤ j → occurrence_laid w i (drop j es) ≡ []
  unfolding occurrence_laid
  members_end i es j h = rw (drop_of_length-le es h)

  -- Entry j, and those after it.
  module _ (old : ℕ → ℕ) (before : Bool) (es : List Entry) (j : ℕ) where
    pub entry_turn : (d : Entry) → j < length es
        → laid_from w old before (drop j es)
        ≡ entry_laid w old (is_inside before (get_or es j d)) (get_or es j d).name (get_or es j d).what (drop (j + 1) es) ++ laid_from w old (is_inside before (get_or es j d)) (drop (j + 1) es)
    unfolding laid_from
    entry_turn d h = rw (drop-cons es j d h, add-one)

    pub entries_over : length es ≤ j → laid_from w old before (drop j es) ≡ []
    unfolding laid_from
    entries_over h = rw (drop_of_length-le es h)

-- What an entry adds to an occurrence of its periodic group, by what it is.
module _ (w : Plan) (i name : ℕ) where
  pub adds_member : (x : What) → is_group x ≡ false → member_laid w i name x ≡ cell_laid w i (field_by name x)
  unfolding member_laid
  adds_member (field f s mu) e = refl
  adds_member (group p) e = absurd (false≢true (sym e))

  pub adds_no_member : (x : What) → is_group x ≡ true → member_laid w i name x ≡ []
  unfolding member_laid
  adds_no_member (field f s mu) e = absurd (false≢true e)
  adds_no_member (group p) e = refl

-- What an entry adds to the body, by what it is.
module _ (w : Plan) (old : ℕ → ℕ) (name : ℕ) (es : List Entry) where
  pub adds_group : (inside : Bool) (x : What) → is_periodic x ≡ true
      → entry_laid w old inside name x es
      ≡ count_bytes (w.occurrences (group_part name es) (old name)) ++ occurrences_laid w es 1 (w.occurrences (group_part name es) (old name))
  unfolding entry_laid
  adds_group inside (field f s mu) e = absurd (false≢true e)
  adds_group inside (group true) e = refl
  adds_group inside (group false) e = absurd (false≢true e)

  pub adds_nothing : (inside : Bool) (x : What) → is_group x ≡ true → is_periodic x ≡ false → entry_laid w old inside name x es ≡ []
  unfolding entry_laid
  adds_nothing inside (field f s mu) g e = absurd (false≢true g)
  adds_nothing inside (group true) g e = absurd (false≢true (sym e))
  adds_nothing inside (group false) g e = refl

  pub adds_no_more : (inside : Bool) (x : What) → is_group x ≡ false → inside ≡ true → entry_laid w old inside name x es ≡ []
  unfolding entry_laid
  adds_no_more true (field f s mu) g e = refl
  adds_no_more false (field f s mu) g e = absurd (false≢true e)
  adds_no_more inside (group p) g e = absurd (false≢true (sym g))

  pub adds_cell : (inside : Bool) (x : What) → is_group x ≡ false → inside ≡ false → entry_laid w old inside name x es ≡ cell_laid w 1 (field_by name x)
  unfolding entry_laid
  adds_cell true (field f s mu) g e = absurd (false≢true (sym e))
  adds_cell false (field f s mu) g e = refl
  adds_cell inside (group p) g e = absurd (false≢true (sym g))
