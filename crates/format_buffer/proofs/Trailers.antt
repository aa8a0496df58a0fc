-- What follows a name, by its first bytes: digits and nothing more are a length, a letter alone is a format, and what is longer is an element, if anything.
use mathlib.Core.Path.{◌≡◌, refl, sym, ap, subst, ◌∙◌}
use mathlib.Core.Bool.{Bool, true, false, ◌&&◌}
use Prim.Native.Nat.{ℕ, ◌+◌, ◌-◌, ◌≤◌, ◌<◌}
use native.Mathlib.Omega.{arith}
use lib.Dec.{eqb, leb}
use lib.ListN.{length, drop, get_or}
use borrow.Author.Tests.{eqb-true, eqb-false}
use Rattle.rules.specs.Outcome.{Outcome, done, ◌>>=◌, need}
use Rattle.rules.specs.Characters.{digit, digit_0, apostrophe}
use Rattle.rules.specs.Limits.{longest_text}
use Rattle.rules.specs.Lists.{Bytes, last, but_last}
use Rattle.rules.specs.Table.{is_name, name_of}
use Rattle.rules.specs.Format as rules
use Rattle.rules.specs.Format.{after_number, after_name, text_piece, piece, put_before}
use Rattle.rules.proofs.Steps.{from_bind, from_need, done_inj, by_test}
use Rattle.format_buffer.specs.Part.{part}
use Rattle.format_buffer.specs.Pieces.{no_apostrophe, number_piece, as_piece, only_element}
use Rattle.format_buffer.specs.Texts.{pending, elements_first, rest, Bounded}
use Rattle.format_buffer.specs.declared.texts.Bounds.{Bounds}
use Rattle.buffer.proofs.Cases.{by_order}
use Rattle.format_buffer.proofs.Digits.{digit_bounds, read_first, read_end}
use Rattle.format_buffer.proofs.PieceLaws.{number_length, single_digit, piece_one, piece_text, piece_number, piece_name}
use Rattle.format_buffer.proofs.Puts.{put_first}

pub only_from : {o o' : Outcome rules.Piece} → o ≡ o' → only_element o' → only_element o
only_from e h q p = h q (sym e ∙ p)

text_only : (bs : Bytes) → only_element (text_piece bs)
unfolding text_piece
text_only bs q e =
    from_need (eqb (last bs) apostrophe && no_apostrophe (but_last bs)) 3 _ e λ _ k.
    from_need (leb 1 (length (but_last bs)) && leb (length (but_last bs)) longest_text) 3 _ k λ _ l. (rules.quoted (but_last bs), sym (done_inj l))

name_only : (t : Bool) (m : Outcome rules.Element) → only_element (need t 3 >>= λ _. as_piece m)
name_only t m q e =
    from_need t 3 _ e λ _ k.
    from_bind m _ k λ x _ l. (x, sym (done_inj l))

-- A number was read: what is after it settles the piece.
pub number_read : {o : Outcome (ℕ × Bytes)} {n : ℕ} {bs : Bytes} → o ≡ done (n, bs) → (o >>= λ i. after_number i.0 i.1) ≡ after_number n bs
number_read e = ap (λ o. o >>= λ i. after_number i.0 i.1) e

module _ (f : Bytes) (at upto : ℕ) (k : upto ≤ length f) where
  -- Two bytes and more, the first of which is no digit.
  pub longer_only : at + 1 < upto → digit (get_or f at 0) ≡ false → only_element (piece (part f at upto))
  longer_only h d =
      by_test (eqb (get_or f at 0) apostrophe)
      (λ e. only_from (piece_text f at upto k h (eqb-true _ _ e)) (text_only (part f (at + 1) upto)))
      (λ e. only_from (piece_name f at upto k h (eqb-false _ _ e) d) (name_only (is_name (get_or f at 0) (get_or f (at + 1) 0)) (after_name (name_of (get_or f at 0) (get_or f (at + 1) 0)) (part f (at + 2) upto))))

  -- A digit alone is a number too.
  pub digit_piece : at < upto → digit (get_or f at 0) ≡ true → piece (part f at upto) ≡ number_piece (part f at upto)
  digit_piece h d =
      let b = digit_bounds (get_or f at 0) d in
      by_order (at + 1) upto (λ l. piece_number f at upto k l (λ e. omega (arith, b)) d) (λ l.
      let r = read_end (read_first h k d refl (omega (arith, b))) l in
      piece_one f at upto k (omega arith)
      ∙ single_digit (get_or f at 0) d
      ∙ sym (number_read r ∙ number_length (get_or f at 0 - digit_0) f (at + 1) upto (omega arith) (omega (arith, b))))

-- What is an element, if anything, comes before no length and no format.
pub bounded_first : {f : Bytes} {at : ℕ} {r : Bounds} → Bounded f at r → only_element (piece (part f r.first r.last)) → elements_first (pending (drop at f))
bounded_first {f} {at} {r} w h p e =
    from_bind (piece (part f r.first r.last)) _ (sym w.answer ∙ e) λ q g k.
    let x = h q g in
    put_first x.0 (rest f r.end) p (subst (λ (y : rules.Piece). (rest f r.end >>= put_before y) ≡ done p) x.1 k)
