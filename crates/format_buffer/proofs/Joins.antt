-- The first text of a format and what follows it: a walk from left to right puts the pieces together as the definition does.
use Rattle.std.specs.Prelude.{None, Option, Some}
use mathlib.Core.Path.{◌≡◌, refl, sym, ap, ◌∙◌}
use mathlib.Core.Bool.{Bool, true, false}
use mathlib.Core.List.{List, [], ◌∷◌}
use Prim.Native.Nat.{ℕ, suc, ◌+◌, ◌-◌, ◌≤◌, ◌<◌}
use native.Mathlib.Numerals.{add-one}
use native.Mathlib.Omega.{arith}
use lib.Dec.{eqb}
use lib.ListN.{length, take, drop, get_or, drop_of_length-le}
use lib.Seq.{drop-cons, drop-drop}
use Rattle.rules.specs.Outcome.{Outcome, done, refused, by, ◌>>=◌}
use Rattle.rules.specs.Characters.{period, digit}
use Rattle.rules.specs.Lists.{Bytes}
use Rattle.rules.specs.Values.{strip}
use Rattle.rules.specs.Format as rules
use Rattle.rules.specs.Format.{turned, ends, onto, texts, skip_spaces, trim, Pending, assembled, put_before, is_override}
use Rattle.rules.proofs.Steps.{by_test, not_done}
use Rattle.rules.proofs.Only.{Only, Is}
use Rattle.rules.proofs.Refusals.{texts_only, piece_only}
use Rattle.format_buffer.specs.Part.{part}
use Rattle.format_buffer.specs.Elements.{element_of, shortest_element}
use Rattle.format_buffer.specs.Pieces.{piece_of}
use Rattle.format_buffer.specs.Texts.{extent, pending, rest, none_pending, Bounded, reached}
use Rattle.format_buffer.specs.declared.texts.Bounds.{Bounds}
use Rattle.format_buffer.specs.declared.pieces.Piece.{Piece}
use Rattle.format_buffer.specs.declared.pieces.Piece.TheVariants as piece
use Rattle.format_buffer.proofs.Parts.{part_nil}
use Rattle.format_buffer.proofs.PieceLaws.{single_digit, single_format, single_bad, piece_one}
use Rattle.buffer.proofs.Cases.{by_order}

-- A text, and the texts after the comma or the period that ends it.
unfoldable then : Bytes → Bytes → Outcome (List Bytes)
then t [] = refused (by 3)
then t (b ∷ bs) = elim (eqb b period) [ true ↦ done (t ∷ []) | false ↦ texts false bs >>= (λ ts. done (t ∷ ts)) ]

onto_then : (b : ℕ) (t s : Bytes) → (then t s >>= λ ts. done (onto b ts)) ≡ then (b ∷ t) s
unfolding then onto
onto_then b t [] = refl
onto_then b t (c ∷ s) = by_test (eqb c period) (λ e. rw (e, then) refl) (λ e. rw (e, then) (over (texts false s)))
  where
    over : (m : Outcome (List Bytes)) → ((m >>= λ ts. done (t ∷ ts)) >>= λ ts. done (onto b ts)) ≡ (m >>= λ ts. done ((b ∷ t) ∷ ts))
    over (done ts) = refl
    over (refused n) = refl

texts_first : (q : Bool) (s : Bytes) → texts q s ≡ then (take (extent q s) s) (drop (extent q s) s)
unfolding texts extent then
texts_first q [] = refl
texts_first q (b ∷ s) =
    by_test (ends q b)
    (λ e. rw (e, texts, extent) refl)
    (λ e. rw (e, texts, extent)
    (ap (λ m. m >>= λ ts. done (onto b ts)) (texts_first (turned q b) s)
    ∙ onto_then b (take (extent (turned q b) s) s) (drop (extent (turned q b) s) s)))

then_period : (t : Bytes) (b : ℕ) (bs : Bytes) → eqb b period ≡ true → then t (b ∷ bs) ≡ done (t ∷ [])
unfolding then
then_period t b bs e = rw (e, then) refl

then_comma : (t : Bytes) (b : ℕ) (bs : Bytes) → eqb b period ≡ false → then t (b ∷ bs) ≡ (texts false bs >>= λ ts. done (t ∷ ts))
unfolding then
then_comma t b bs e = rw (e, then) refl

-- The piece of a text, put before what follows it.
abbrev joined : Bytes → Outcome Pending → Outcome Pending
joined t o = rules.piece (trim t) >>= λ q. o >>= put_before q

last_joins : (t : Bytes) → assembled (t ∷ []) ≡ joined t (done none_pending)
unfolding assembled
last_joins t = refl

-- Both ways of a refusal are the same, for it is 3.
comma_joins : (t : Bytes) (m : Outcome (List Bytes)) → Only (Is 3) m → ((m >>= λ ts. done (t ∷ ts)) >>= assembled) ≡ joined t (m >>= assembled)
unfolding assembled
comma_joins t (done ts) w = refl
comma_joins t (refused n) w = both (rules.piece (trim t)) (piece_only (trim t))
  where
    both : (o : Outcome rules.Piece) → Only (Is 3) o → ◌≡◌ {A = Outcome Pending} (refused n) (o >>= λ q. refused n)
    both (done q) v = refl
    both (refused k) v = rw (w, v) refl

pub rest_period : (f : Bytes) (end : ℕ) → eqb (get_or f end 0) period ≡ true → rest f end ≡ done none_pending
unfolding rest
rest_period f end e = rw (e, rest) refl

pub rest_comma : (f : Bytes) (end : ℕ) → eqb (get_or f end 0) period ≡ false → rest f end ≡ pending (drop (end + 1) f)
unfolding rest
rest_comma f end e = rw (e, rest) refl

rest_texts : (f : Bytes) (end : ℕ) → eqb (get_or f end 0) period ≡ false → rest f end ≡ (texts false (drop (suc end) f) >>= assembled)
unfolding pending
rest_texts f end e = rest_comma f end e ∙ rw add-one refl

-- The same by places of the slice.
module _ (f : Bytes) (at end : ℕ) (e : end ≡ at + extent false (drop at f)) where
  texts_at : texts false (drop at f) ≡ then (part f at end) (drop end f)
  unfolding part
  texts_at =
      let x : end - at ≡ extent false (drop at f) = omega arith in
      let d : drop (extent false (drop at f)) (drop at f) ≡ drop end f = drop-drop (extent false (drop at f)) at f ∙ rw e refl in
      texts_first false (drop at f) ∙ rw (x, d) refl

  -- Where no text ends, an empty one stands.
  pub pending_none : length f ≤ end → pending (drop at f) ≡ (rules.piece (part f at at) >>= λ q. rest f end >>= put_before q)
  unfolding pending then rules.piece
  pending_none h = rw (texts_at, drop_of_length-le f h, part_nil f at at (omega arith)) refl

  pending_joined : end < length f → pending (drop at f) ≡ joined (part f at end) (rest f end)
  unfolding pending
  pending_joined h =
      rw (texts_at, drop-cons f end 0 h) (by_test (eqb (get_or f end 0) period)
      (λ d. rw (then_period (part f at end) (get_or f end 0) (drop (suc end) f) d) (last_joins (part f at end) ∙ ap (joined (part f at end)) (sym (rest_period f end d))))
      (λ d. rw (then_comma (part f at end) (get_or f end 0) (drop (suc end) f) d)
      (comma_joins (part f at end) (texts false (drop (suc end) f)) (texts_only false (drop (suc end) f)) ∙ ap (joined (part f at end)) (sym (rest_texts f end d)))))

  pub pending_some : end < length f → {bs : Bytes} → trim (part f at end) ≡ bs → pending (drop at f) ≡ (rules.piece bs >>= λ q. rest f end >>= put_before q)
  pending_some h t = pending_joined h ∙ ap (λ bs. rules.piece bs >>= λ q. rest f end >>= put_before q) t

pub trim_at : (f : Bytes) (at end first last : ℕ) → part f at last ≡ strip (part f at end) → part f first last ≡ skip_spaces (part f at last)
    → trim (part f at end) ≡ part f first last
unfolding trim
trim_at f at end first last e h = rw (← e) (sym h)

-- A piece has one byte or more.
pub piece_some : (f : Bytes) (a b : ℕ) (q : rules.Piece) → rules.piece (part f a b) ≡ done q → a < b
unfolding rules.piece
piece_some f a b q e = by_order a b (λ h. h) (λ h. absurd (not_done (rw (part_nil f a b h) at e)))

-- One byte is a length, a format or nothing good, and so an element has more.
one_no_element : (b : ℕ) (e : rules.Element) → rules.piece (b ∷ []) ≡ done (rules.element e) → ⊥
one_no_element b e h =
    by_test (digit b)
    (λ d. no_length (sym (single_digit b d) ∙ h))
    (λ d. by_test (is_override b) (λ o. no_format (sym (single_format b d o) ∙ h)) (λ o. not_done (sym (single_bad b d o) ∙ h)))
  where
    no_length : {n : ℕ} → done (rules.length_piece n) ≡ done (rules.element e) → ⊥
    no_length q = let z : ◌≡◌ {A = ℕ} 0 1 = cc in omega arith

    no_format : {n : ℕ} → done (rules.format_piece n) ≡ done (rules.element e) → ⊥
    no_format q = let z : ◌≡◌ {A = ℕ} 0 1 = cc in omega arith

piece_long : (f : Bytes) (a b : ℕ) (e : rules.Element) → b ≤ length f → rules.piece (part f a b) ≡ done (rules.element e) → a + shortest_element ≤ b
piece_long f a b e k h =
    let s = piece_some f a b (rules.element e) h in
    by_order (a + 1) b (λ l. omega arith) (λ l. absurd (one_no_element (get_or f a 0) e (sym (piece_one f a b k (omega arith)) ∙ h)))

-- The text from a place on, once what it is is known.
module _ {f : Bytes} {at : ℕ} {r : Bounds} (w : Bounded f at r) where
  abbrev found : Outcome rules.Piece
  found = rules.piece (part f r.first r.last)

  pub bounded_as : {o : Outcome rules.Piece} → found ≡ o → pending (drop at f) ≡ (o >>= λ p. rest f r.end >>= put_before p)
  bounded_as e = w.answer ∙ ap (λ o. o >>= λ p. rest f r.end >>= put_before p) e

  pub bounded_end : {q : rules.Piece} → found ≡ done q → r.end < length f
  bounded_end {q} e = w.ended (piece_some f r.first r.last q e)

  pub reached_if : (q : Option Piece) → found ≡ piece_of f q → reached f at r.end q
  reached_if (Some (piece.Element e)) h =
      (omega (arith, w.from, w.upto, piece_long f r.first r.last (element_of f e) (omega (arith, w.upto, w.inside)) h), bounded_end h)
  reached_if (Some (piece.Length n)) h = (omega (arith, w.from, w.order, w.upto), bounded_end h)
  reached_if (Some (piece.Format b)) h = (omega (arith, w.from, w.order, w.upto), bounded_end h)
  reached_if None h = tt
