-- The rules of a number, of a text and of a piece, step by step as the code takes them.
use mathlib.Core.Path.{◌≡◌, refl, sym, ◌∙◌}
use mathlib.Core.Bool.{Bool, true, false, not, ◌&&◌, and-false}
use mathlib.Core.List.{[], ◌∷◌}
use Prim.Native.Nat.{ℕ, ◌+◌, ◌-◌, ◌≤◌, ◌<◌}
use native.Mathlib.Omega.{arith}
use lib.Dec.{eqb, leb}
use lib.ListN.{length, get_or}
use borrow.Author.Tests.{le-leb, lt-leb, ne_eqb, eq-eqb}
use Rattle.rules.specs.Outcome.{done, refused, by, ◌>>=◌, need}
use Rattle.rules.specs.Limits.{greatest_length, longest_blanks, longest_text}
use Rattle.rules.specs.Characters.{digit, digit_0, apostrophe, letter_X}
use Rattle.rules.specs.Lists.{Bytes, all}
use Rattle.rules.specs.Table.{is_name, name_of}
use Rattle.rules.specs.Format.{element, length_piece, format_piece, blanks, quoted, after_number, after_name, text_piece, piece, is_override}
use Rattle.rules.proofs.Steps.{from_need, done_inj, still_refused}
use Rattle.rules.proofs.Lists.{last_snoc, but_last_snoc}
use Rattle.format_buffer.specs.Part.{part}
use Rattle.format_buffer.specs.Numbers.{byte_alone}
use Rattle.format_buffer.specs.Pieces.{no_apostrophe, as_piece, only_element, number_piece}
use Rattle.format_buffer.proofs.Parts.{part_nil, part_cons, part_snoc, length_part}

-- After a number.
module _ (n : ℕ) (f : Bytes) (at upto : ℕ) where
  pub number_length : at ≡ upto → n ≤ greatest_length → after_number n (part f at upto) ≡ done (length_piece n)
  unfolding after_number
  number_length e h = rw (part_nil f at upto (omega arith), le-leb _ _ h) refl

  pub number_large : at ≡ upto → greatest_length < n → after_number n (part f at upto) ≡ refused (by 3)
  unfolding after_number
  number_large e h = rw (part_nil f at upto (omega arith), lt-leb _ _ h) refl

  module _ (h : at < upto) (k : upto ≤ length f) where
    number_after : after_number n (part f at upto)
        ≡ (need (byte_alone letter_X (part f at upto) && leb 1 n && leb n longest_blanks) 3 >>= λ _. done (element (blanks n)))
    unfolding after_number byte_alone
    number_after = rw (part_cons f at upto h k) refl

    pub number_zero : n ≡ 0 → after_number n (part f at upto) ≡ refused (by 3)
    number_zero e = number_after ∙ rw e (simp and-false)

    pub number_long : longest_blanks < n → after_number n (part f at upto) ≡ refused (by 3)
    number_long e = number_after ∙ rw (lt-leb _ _ e) (simp and-false)

    pub number_blanks : byte_alone letter_X (part f at upto) ≡ true → 1 ≤ n → n ≤ longest_blanks
        → after_number n (part f at upto) ≡ done (element (blanks n))
    number_blanks t lo hi = number_after ∙ rw (t, le-leb _ _ lo, le-leb _ _ hi) refl

    pub number_only : only_element (after_number n (part f at upto))
    number_only q e = from_need (byte_alone letter_X (part f at upto) && leb 1 n && leb n longest_blanks) 3 _ (sym number_after ∙ e) λ _ l. (blanks n, sym (done_inj l))

    pub number_other : byte_alone letter_X (part f at upto) ≡ false → after_number n (part f at upto) ≡ refused (by 3)
    number_other t = number_after ∙ rw t refl

-- A test of every byte, one at a time.
no_apostrophe_cons : (b : ℕ) (bs : Bytes) → no_apostrophe (b ∷ bs) ≡ (not (eqb b apostrophe) && no_apostrophe bs)
unfolding all
no_apostrophe_cons b bs = refl

pub none_left : (f : Bytes) (i upto : ℕ) → upto ≤ i → no_apostrophe (part f i upto) ≡ true
unfolding all
none_left f i upto h = rw (part_nil f i upto h) refl

module _ (f : Bytes) (i upto : ℕ) (h : i < upto) (k : upto ≤ length f) where
  pub none_turn : (get_or f i 0 ≡ apostrophe → ⊥) → no_apostrophe (part f i upto) ≡ no_apostrophe (part f (i + 1) upto)
  none_turn e = rw (part_cons f i upto h k) (no_apostrophe_cons _ _ ∙ rw (ne_eqb _ _ e) refl)

  pub none_stop : get_or f i 0 ≡ apostrophe → no_apostrophe (part f i upto) ≡ false
  none_stop e = rw (part_cons f i upto h k) (no_apostrophe_cons _ _ ∙ rw (eq-eqb _ _ e) refl)

-- After an apostrophe: the text, up to the last byte.
module _ (f : Bytes) (at upto : ℕ) (h : at < upto) (k : upto ≤ length f) where
  abbrev closed : Bool
  closed = eqb (get_or f (upto - 1) 0) apostrophe && no_apostrophe (part f at (upto - 1))

  text_after : text_piece (part f at upto)
      ≡ (need closed 3 >>= λ _.
      need (leb 1 (upto - 1 - at) && leb (upto - 1 - at) longest_text) 3 >>= λ _.
      done (element (quoted (part f at (upto - 1)))))
  unfolding text_piece
  text_after =
      rw (part_snoc f at upto h k, last_snoc, but_last_snoc, length_part f at (upto - 1) (omega arith) (omega arith)) refl

  pub text_unclosed : (get_or f (upto - 1) 0 ≡ apostrophe → ⊥) → text_piece (part f at upto) ≡ refused (by 3)
  text_unclosed e = text_after ∙ rw (ne_eqb _ _ e) refl

  pub text_empty : upto - 1 ≡ at → text_piece (part f at upto) ≡ refused (by 3)
  text_empty e =
      let z : upto - 1 - at ≡ 0 = omega arith in
      text_after ∙ rw z (still_refused closed 3)

  pub text_long : longest_text < upto - 1 - at → text_piece (part f at upto) ≡ refused (by 3)
  text_long l = text_after ∙ rw (lt-leb _ _ l, and-false) (still_refused closed 3)

  module _ (e : get_or f (upto - 1) 0 ≡ apostrophe) where
    pub text_broken : no_apostrophe (part f at (upto - 1)) ≡ false → text_piece (part f at upto) ≡ refused (by 3)
    text_broken t = text_after ∙ rw (t, and-false) refl

    pub text_is : no_apostrophe (part f at (upto - 1)) ≡ true → 1 ≤ upto - 1 - at → upto - 1 - at ≤ longest_text
        → text_piece (part f at upto) ≡ done (element (quoted (part f at (upto - 1))))
    text_is t lo hi = text_after ∙ rw (t, eq-eqb _ _ e, le-leb _ _ lo, le-leb _ _ hi) refl

-- A piece of one byte.
module _ (b : ℕ) where
  pub single_digit : digit b ≡ true → piece (b ∷ []) ≡ done (length_piece (b - digit_0))
  unfolding piece
  single_digit e = rw (e, piece) refl

  pub single_format : digit b ≡ false → is_override b ≡ true → piece (b ∷ []) ≡ done (format_piece b)
  unfolding piece
  single_format e h = rw (e, piece, h) refl

  pub single_bad : digit b ≡ false → is_override b ≡ false → piece (b ∷ []) ≡ refused (by 3)
  unfolding piece
  single_bad e h = rw (e, piece, h) refl

-- A piece, by its first bytes.
module _ (f : Bytes) (at upto : ℕ) (k : upto ≤ length f) where
  pub piece_nothing : at ≡ upto → piece (part f at upto) ≡ refused (by 3)
  unfolding piece
  piece_nothing e = rw (part_nil f at upto (omega arith)) refl

  pub piece_one : upto - at ≡ 1 → piece (part f at upto) ≡ piece (get_or f at 0 ∷ [])
  piece_one e = rw (part_cons f at upto (omega arith) k, part_nil f (at + 1) upto (omega arith)) refl

  module _ (h : at + 1 < upto) where
    second : part f (at + 1) upto ≡ get_or f (at + 1) 0 ∷ part f (at + 2) upto
    second = let q : at + 2 ≡ at + 1 + 1 = omega arith in rw q (part_cons f (at + 1) upto h k)

    two : part f at upto ≡ get_or f at 0 ∷ get_or f (at + 1) 0 ∷ part f (at + 2) upto
    two = rw (part_cons f at upto (omega arith) k, second) refl

    pub piece_text : get_or f at 0 ≡ apostrophe → piece (part f at upto) ≡ text_piece (part f (at + 1) upto)
    unfolding piece
    piece_text e = rw (two, second, e) refl

    module _ (e : get_or f at 0 ≡ apostrophe → ⊥) where
      pub piece_number : digit (get_or f at 0) ≡ true → piece (part f at upto) ≡ number_piece (part f at upto)
      unfolding piece
      piece_number d = rw (two, piece, ne_eqb _ _ e, d) refl

      pub piece_name : digit (get_or f at 0) ≡ false → piece (part f at upto)
          ≡ (need (is_name (get_or f at 0) (get_or f (at + 1) 0)) 3 >>= λ _. as_piece (after_name (name_of (get_or f at 0) (get_or f (at + 1) 0)) (part f (at + 2) upto)))
      unfolding piece
      piece_name d = rw (two, piece, ne_eqb _ _ e, d) refl
