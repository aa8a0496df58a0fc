-- The steps of the code, one law for each way out: what stands at a place and after it settles what the rules say from there on.
use Rattle.std.specs.Prelude.{None, Some, Option as Optional}
use mathlib.Core.Path.{◌≡◌, refl, sym, ap, ◌∙◌}
use mathlib.Core.Bool.{Bool, true, false}
use mathlib.Core.List.{List, [], ◌∷◌}
use mathlib.Core.Option.{Option, none, some}
use Prim.Native.Nat.{ℕ, ◌+◌, ◌≤◌, ◌<◌}
use lib.Dec.{eqb, leb}
use lib.ListN.{length, drop, get_or}
use borrow.Author.Tests.{eq-eqb, ne_eqb, le-leb, lt-leb}
use Rattle.rules.specs.Outcome.{Outcome, done, refused, by, ◌>>=◌, need, is_done}
use Rattle.rules.specs.Limits.{longest_format}
use Rattle.rules.specs.Characters.{period}
use Rattle.rules.specs.Lists.{Bytes, absent}
use Rattle.rules.specs.Format as rules
use Rattle.rules.specs.Format.{texts, Pending, settled, completed, put_before}
use Rattle.rules.proofs.Steps.{by_test, done_inj}
use Rattle.rules.proofs.Only.{Only, Is, only_bind, only_pick}
use Rattle.rules.proofs.Refusals.{texts_only, assembled_only}
use Rattle.format_buffer.specs.Elements.{if_given, element_of, named_of, count_reaching, count_given, count_of, sound, shortest_element, with_length, with_format}
use Rattle.format_buffer.specs.Pieces.{piece_of}
use Rattle.format_buffer.specs.Texts.{pending, elements_first, rest, Looked}
use Rattle.format_buffer.specs.Syntax.{parsed, element_before, by_step, elements_after, Stepped, then_format, then_completed}
use Rattle.format_buffer.specs.declared.Named.{Named}
use Rattle.format_buffer.specs.declared.Count.{Count}
use Rattle.format_buffer.specs.declared.Indexing.{Indexing}
use Rattle.format_buffer.specs.declared.Scope.{Scope}
use Rattle.format_buffer.specs.declared.Scope.TheVariants.{AsWritten, LastAlone, UpToLast}
use Rattle.format_buffer.specs.declared.Element.{Element}
use Rattle.format_buffer.specs.declared.Element.TheVariants as code
use Rattle.format_buffer.specs.declared.pieces.Piece.{Piece}
use Rattle.format_buffer.specs.declared.pieces.Piece.TheVariants as piece
use Rattle.format_buffer.specs.declared.texts.PieceAt.{PieceAt}
use Rattle.format_buffer.proofs.Joins.{rest_period, rest_comma}
use Rattle.format_buffer.proofs.Puts.{settle, parsed_pending, settle_before, put_completed, completed_settled, both, take_elements, put_format, put_format_bad, put_length, put_length_bad}

-- What was read, once the piece is known.
pub looked_as : {f : Bytes} {at : ℕ} {r : PieceAt} {q : Optional Piece} → Looked f at r → r.piece ≡ q → Looked f at (record { piece = q; end = r.end })
looked_as {f} {at} {r} w e = record {
  answer = w.answer ∙ ap (λ x. piece_of f x >>= λ p. rest f r.end >>= put_before p) e;
  place = rw e at w.place;
  sound = rw e at w.sound;
}

pub stepped_from : {f : Bytes} {at : ℕ} {o o' : Outcome (List rules.Element)} {r : Optional (Element × ℕ)} → o ≡ o' → Stepped f at o' r → Stepped f at o r
stepped_from e w = record { answer = e ∙ w.answer; place = w.place }

pub stepped_bad : {f : Bytes} {at : ℕ} {o : Outcome (List rules.Element)} → o ≡ refused (by 3) → Stepped f at o None
stepped_bad e = record { answer = e; place = tt }

pending_only : (bs : Bytes) → Only (Is 3) (pending bs)
unfolding pending
pending_only bs = only_bind (Is 3) (texts false bs) _ (texts_only false bs) assembled_only

rest_only : (f : Bytes) (end : ℕ) → Only (Is 3) (rest f end)
unfolding rest
rest_only f end = only_pick (Is 3) (eqb (get_or f end 0) period) _ _ tt (pending_only (drop (end + 1) f))

-- A name without its length or its format.
module _ (f : Bytes) (n : Named) (s : n.length ≡ None) where
  pub name_at_format : (b : Option ℕ) → named_of n (if_given n.length) b ≡ named_of n none b
  name_at_format b = ap (λ l. named_of n (if_given l) b) s

  pub name_given_neither : n.letter ≡ None → named_of n none none ≡ element_of f (code.Named n)
  name_given_neither l = sym (name_at_format (if_given n.letter) ∙ ap (λ b. named_of n none (if_given b)) l)

pub name_at_length : (n : Named) (size : Option ℕ) → n.letter ≡ None → named_of n size (if_given n.letter) ≡ named_of n size none
name_at_length n size l = ap (λ b. named_of n size (if_given b)) l

-- What follows a place, by a period or a comma there.
module _ (f : Bytes) (stop : ℕ) where
  pub after_last : eqb (get_or f stop 0) period ≡ true → elements_after f stop ≡ done []
  unfolding elements_after
  after_last e = rw (e, elements_after) refl

  pub after_more : eqb (get_or f stop 0) period ≡ false → elements_after f stop ≡ parsed (drop (stop + 1) f)
  unfolding elements_after
  after_more e = rw (e, elements_after) refl

  rest_after : (rest f stop >>= settle) ≡ elements_after f stop
  unfolding settled absent
  rest_after =
      by_test (eqb (get_or f stop 0) period)
      (λ e. ap (λ m. m >>= settle) (rest_period f stop e) ∙ sym (after_last e))
      (λ e. ap (λ m. m >>= settle) (rest_comma f stop e) ∙ sym (after_more e ∙ parsed_pending (drop (stop + 1) f)))

  pub first_period : get_or f stop 0 ≡ period → elements_first (rest f stop)
  unfolding settled absent
  first_period e p h = rw (← done_inj (sym (rest_period f stop (eq-eqb (get_or f stop 0) period e)) ∙ h)) refl

  pub first_comma : (get_or f stop 0 ≡ period → ⊥) → elements_first (pending (drop (stop + 1) f)) → elements_first (rest f stop)
  first_comma e s p h = s p (sym (rest_comma f stop (ne_eqb (get_or f stop 0) period e)) ∙ h)

-- An element that neither a length nor a format follows, and the elements after it.
module _ (f : Bytes) (end : ℕ) where
  at_first : (k : Pending → Outcome (List rules.Element)) (x : rules.Element) → ((es : List rules.Element) → k (both none none es) ≡ done (x ∷ es))
      → elements_first (rest f end) → (rest f end >>= k) ≡ element_before x (elements_after f end)
  at_first k x h s = take_elements k x h (rest f end) s ∙ ap (element_before x) (rest_after f end)

  at_settled : (x : rules.Element) → (rest f end >>= λ p. need (settled p) 3 >>= λ _. done (x ∷ p.elements)) ≡ element_before x (elements_after f end)
  at_settled x = settle_before x (rest f end) ∙ ap (element_before x) (rest_after f end)

-- A name at a length, and a name alone: the step from what follows each.
abbrev at_length : Named → ℕ → Pending → Outcome (List rules.Element)
at_length n size p = need (absent p.size) 3 >>= λ _. done (named_of n (some size) p.format ∷ p.elements)

abbrev name_alone : Named → Option ℕ → Option ℕ → Pending → Outcome (List rules.Element)
name_alone n l b p = completed (named_of n l b) p >>= λ x. done (x ∷ p.elements)

module _ (f : Bytes) (end : ℕ) (n : Named) where
  pub format_first : (size : ℕ) → elements_first (rest f end) → then_format f end n size ≡ element_before (named_of n (some size) none) (elements_after f end)
  unfolding then_format absent
  format_first size s = at_first f end (at_length n size) (named_of n (some size) none) (λ es. refl) s

  pub name_first : (l b : Option ℕ) → elements_first (rest f end) → then_completed f end (named_of n l b) ≡ element_before (named_of n none none) (elements_after f end)
  unfolding then_completed completed
  name_first l b s = at_first f end (name_alone n l b) (named_of n none none) (λ es. refl) s

  -- After a comma the next piece has been read, and its own comma or period stands at end'.
  module _ (e : get_or f end 0 ≡ period → ⊥) where
    followed : {m : Outcome Pending} → pending (drop (end + 1) f) ≡ m → (k : Pending → Outcome (List rules.Element)) → (rest f end >>= k) ≡ (m >>= k)
    followed w k = ap (λ r. r >>= k) (rest_comma f end (ne_eqb (get_or f end 0) period e) ∙ w)

    pub format_bad : (size : ℕ) → pending (drop (end + 1) f) ≡ refused (by 3) → then_format f end n size ≡ refused (by 3)
    unfolding then_format
    format_bad size w = followed w (at_length n size)

    pub name_bad : (l b : Option ℕ) → pending (drop (end + 1) f) ≡ refused (by 3) → then_completed f end (named_of n l b) ≡ refused (by 3)
    unfolding then_completed
    name_bad l b w = followed w (name_alone n l b)

    module _ (end' : ℕ) where
      pub format_format : (size b : ℕ) → pending (drop (end + 1) f) ≡ (rest f end' >>= put_before (rules.format_piece b))
          → then_format f end n size ≡ element_before (named_of n (some size) (some b)) (elements_after f end')
      unfolding then_format absent
      format_format size b w =
          let x = named_of n (some size) (some b) in
          followed w (at_length n size) ∙ put_format (at_length n size) b x (λ es. refl) (rest f end') ∙ at_settled f end' x

      pub format_length : (size l : ℕ) → pending (drop (end + 1) f) ≡ (rest f end' >>= put_before (rules.length_piece l)) → then_format f end n size ≡ refused (by 3)
      unfolding then_format absent
      format_length size l w = followed w (at_length n size) ∙ put_length_bad (at_length n size) l (λ p. refl) (rest f end') (rest_only f end')

      module _ (l b : Option ℕ) where
        pub name_length : (size : ℕ) → pending (drop (end + 1) f) ≡ (rest f end' >>= put_before (rules.length_piece size))
            → then_completed f end (named_of n l b) ≡ then_format f end' n size
        unfolding then_completed then_format completed
        name_length size w =
            followed w (name_alone n l b) ∙ put_length (name_alone n l b) size (λ p. named_of n (some size) p.format) (λ p. refl) (rest f end')

        pub name_format : (c : ℕ) → pending (drop (end + 1) f) ≡ (rest f end' >>= put_before (rules.format_piece c))
            → then_completed f end (named_of n l b) ≡ element_before (named_of n none (some c)) (elements_after f end')
        unfolding then_completed completed
        name_format c w =
            let x = named_of n none (some c) in
            followed w (name_alone n l b) ∙ put_format (name_alone n l b) c x (λ es. refl) (rest f end') ∙ at_settled f end' x

-- An element other than a name.
abbrev pub nameless : Element → Type 0
nameless (code.Blanks n) = Unit {0}
nameless (code.Text from upto) = Unit {0}
nameless (code.Named n) = ⊥
nameless (code.Count c) = Unit {0}
nameless (code.Series first last) = Unit {0}

completed_in : (n i : ℕ) (s : Scope) (p : Pending) → completed (count_reaching s n i) p ≡ (need (settled p) 3 >>= λ _. done (count_reaching s n i))
unfolding completed
completed_in n i AsWritten p = refl
completed_in n i LastAlone p = refl
completed_in n i UpToLast p = refl

completed_counted : (n : ℕ) (x : Optional Indexing) (p : Pending) → completed (count_given n x) p ≡ (need (settled p) 3 >>= λ _. done (count_given n x))
unfolding completed
completed_counted n None p = refl
completed_counted n (Some x) p = completed_in n x.from x.scope p

completed_count : (c : Count) (p : Pending) → completed (count_of c) p ≡ (need (settled p) 3 >>= λ _. done (count_of c))
completed_count c p = completed_counted c.name c.index p

pub only_settled : (f : Bytes) (end : ℕ) (e : Element) → nameless e → then_completed f end (element_of f e) ≡ element_before (element_of f e) (elements_after f end)
unfolding then_completed completed
only_settled f end (code.Blanks n) h = completed_settled (rules.blanks n) (λ p. refl) (rest f end) ∙ at_settled f end (rules.blanks n)
only_settled f end (code.Text from upto) h =
    let x = element_of f (code.Text from upto) in
    completed_settled x (λ p. refl) (rest f end) ∙ at_settled f end x
only_settled f end (code.Named n) h = absurd h
only_settled f end (code.Count c) h = completed_settled (count_of c) (completed_count c) (rest f end) ∙ at_settled f end (count_of c)
only_settled f end (code.Series first last) h = completed_settled (rules.series first last) (λ p. refl) (rest f end) ∙ at_settled f end (rules.series first last)

-- The first piece.
module _ (f : Bytes) (at end : ℕ) where
  pub first_element : (e : Element) → Looked f at (record { piece = Some (piece.Element e); end = end })
      → parsed (drop at f) ≡ then_completed f end (element_of f e)
  unfolding then_completed
  first_element e w = parsed_pending (drop at f) ∙ ap (λ m. m >>= settle) w.answer ∙ put_completed (element_of f e) (rest f end)

  pub first_length : (l : ℕ) → Looked f at (record { piece = Some (piece.Length l); end = end }) → parsed (drop at f) ≡ refused (by 3)
  unfolding settled absent
  first_length l w =
      parsed_pending (drop at f) ∙ ap (λ m. m >>= settle) w.answer ∙ put_length_bad settle l (λ p. refl) (rest f end) (rest_only f end)

  pub first_format : (b : ℕ) → Looked f at (record { piece = Some (piece.Format b); end = end }) → parsed (drop at f) ≡ refused (by 3)
  unfolding settled absent
  first_format b w =
      parsed_pending (drop at f) ∙ ap (λ m. m >>= settle) w.answer ∙ put_format_bad settle b (λ es. refl) (rest f end) (rest_only f end)

  pub first_bad : Looked f at (record { piece = None; end = end }) → parsed (drop at f) ≡ refused (by 3)
  first_bad w = parsed_pending (drop at f) ∙ ap (λ m. m >>= settle) w.answer

-- The whole format: a limit on all its bytes, and then its elements.
pub elements_limited : (f : Bytes) → rules.elements f ≡ (need (leb (length f) longest_format) 3 >>= λ _. parsed f)
unfolding rules.elements parsed
elements_limited f = refl

pub elements_parsed : (f : Bytes) → length f ≤ longest_format → rules.elements f ≡ parsed f
elements_parsed f h = elements_limited f ∙ rw (le-leb _ _ h) refl

pub elements_long : (f : Bytes) → longest_format < length f → rules.elements f ≡ refused (by 3)
elements_long f h = elements_limited f ∙ rw (lt-leb _ _ h) refl

pub is_done_before : (x : rules.Element) (o : Outcome (List rules.Element)) → is_done (element_before x o) ≡ is_done o
is_done_before x (done es) = refl
is_done_before x (refused n) = refl

pub stepped_at : {f : Bytes} {at stop : ℕ} {o : Outcome (List rules.Element)} {y : rules.Element} {e : Element} → o ≡ element_before y (elements_after f stop)
    → y ≡ element_of f e → at + shortest_element ≤ stop → stop < length f → sound f e → Stepped f at o (Some (e, stop))
stepped_at {f} {at} {stop} h q a b s = record { answer = h ∙ ap (λ x. element_before x (elements_after f stop)) q; place = (a, b, s) }

-- A name to which a length or a format was if_given.
pub name_given_length : (f : Bytes) (n : Named) {m : Named} {size : ℕ} → m ≡ with_length n size → n.letter ≡ None
    → named_of n (some size) none ≡ element_of f (code.Named m)
name_given_length f n {m} {size} e l = sym (ap (λ x. element_of f (code.Named x)) e ∙ name_at_length n (some size) l)

pub name_given_format : (f : Bytes) (n : Named) {m : Named} {b : ℕ} → m ≡ with_format n b → n.length ≡ None
    → named_of n none (some b) ≡ element_of f (code.Named m)
name_given_format f n {m} {b} e s = sym (ap (λ x. element_of f (code.Named x)) e ∙ name_at_format f n s (some b))

pub name_given_both : (f : Bytes) (n : Named) {m o : Named} {size b : ℕ} → m ≡ with_length n size → o ≡ with_format m b
    → named_of n (some size) (some b) ≡ element_of f (code.Named o)
name_given_both f n {m} {o} {size} {b} e h = sym (ap (λ x. element_of f (code.Named x)) (h ∙ ap (λ x. with_format x b) e))

-- Whether the elements from a place on are good, once the step from there is known.
module _ {f : Bytes} {at : ℕ} {r : Optional (Element × ℕ)} (w : Stepped f at (parsed (drop at f)) r) where
  pub step_known : (e : Element) (stop : ℕ) → r ≡ Some (e, stop) → (at + shortest_element ≤ stop) × (stop < length f) × sound f e
  step_known e stop q = rw q at w.place

  good_at : (e : Element) (stop : ℕ) → r ≡ Some (e, stop) → is_done (elements_after f stop) ≡ is_done (parsed (drop at f))
  good_at e stop q = sym (ap is_done (w.answer ∙ ap (by_step f) q) ∙ is_done_before (element_of f e) (elements_after f stop))

  pub good_more : (e : Element) (stop : ℕ) → r ≡ Some (e, stop) → eqb (get_or f stop 0) period ≡ false
      → is_done (parsed (drop (stop + 1) f)) ≡ is_done (parsed (drop at f))
  good_more e stop q h = ap is_done (sym (after_more f stop h)) ∙ good_at e stop q

  pub good_last : (e : Element) (stop : ℕ) → r ≡ Some (e, stop) → eqb (get_or f stop 0) period ≡ true → true ≡ is_done (parsed (drop at f))
  good_last e stop q h = ap is_done (sym (after_last f stop h)) ∙ good_at e stop q

  pub good_bad : r ≡ None → false ≡ is_done (parsed (drop at f))
  good_bad q = sym (ap is_done (w.answer ∙ ap (by_step f) q))
