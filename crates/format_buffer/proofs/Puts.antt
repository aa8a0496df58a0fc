-- A piece put before what follows it, and then the elements taken: what comes of it for each kind of piece.
use mathlib.Core.Path.{◌≡◌, refl, ap, ◌∙◌}
use mathlib.Core.Bool.{Bool, true, false, false≢true}
use mathlib.Core.List.{List, ◌∷◌}
use mathlib.Core.Option.{Option, none, some}
use Prim.Native.Nat.{ℕ}
use Rattle.rules.specs.Outcome.{Outcome, done, refused, by, ◌>>=◌, need}
use Rattle.rules.specs.Lists.{Bytes, absent}
use Rattle.rules.specs.Format.{Element, element, length_piece, format_piece, Pending, texts, settled, completed, put_before, assembled}
use Rattle.rules.proofs.Steps.{from_bind, done_inj, still_refused}
use Rattle.format_buffer.specs.Syntax.{parsed, element_before}
use Rattle.format_buffer.specs.Texts.{pending, elements_first}
use Rattle.rules.proofs.Only.{Only, Is}

-- The elements, where neither a length nor a format stands before them.
abbrev pub settle : Pending → Outcome (List Element)
settle p = need (settled p) 3 >>= λ _. done p.elements

pub parsed_pending : (bs : Bytes) → parsed bs ≡ (pending bs >>= settle)
unfolding parsed pending
parsed_pending bs = over (texts false bs)
  where
    over : (m : Outcome (List Bytes)) → (m >>= λ ts. assembled ts >>= settle) ≡ ((m >>= assembled) >>= settle)
    over (done ts) = refl
    over (refused n) = refl

pub settle_before : (x : Element) (m : Outcome Pending) → (m >>= λ p. need (settled p) 3 >>= λ _. done (x ∷ p.elements)) ≡ element_before x (m >>= settle)
settle_before x (done p) = over (settled p)
  where
    over : (t : Bool) → (need t 3 >>= λ _. done (x ∷ p.elements)) ≡ element_before x (need t 3 >>= λ _. done p.elements)
    over true = refl
    over false = refl
settle_before x (refused n) = refl

abbrev pub both : Option ℕ → Option ℕ → List Element → Pending
both size format es = record { size = size; format = format; elements = es }

-- An element completed, and the elements taken.
pub put_completed : (e : Element) (m : Outcome Pending)
    → ((m >>= put_before (element e)) >>= settle) ≡ (m >>= λ p. completed e p >>= λ x. done (x ∷ p.elements))
unfolding put_before settled absent
put_completed e (done p) = over (completed e p)
  where
    over : (o : Outcome Element) → ((o >>= λ x. done (both none none (x ∷ p.elements))) >>= settle) ≡ (o >>= λ x. done (x ∷ p.elements))
    over (done x) = refl
    over (refused n) = refl
put_completed e (refused n) = refl

-- An element that takes neither a length nor a format.
pub completed_settled : (e : Element) → ((p : Pending) → completed e p ≡ (need (settled p) 3 >>= λ _. done e)) → (m : Outcome Pending)
    → (m >>= λ p. completed e p >>= λ x. done (x ∷ p.elements)) ≡ (m >>= λ p. need (settled p) 3 >>= λ _. done (e ∷ p.elements))
completed_settled e h (done p) = rw (h p) (over (settled p))
  where
    over : (t : Bool) → ((need t 3 >>= λ _. done e) >>= λ x. done (x ∷ p.elements)) ≡ (need t 3 >>= λ _. done (e ∷ p.elements))
    over true = refl
    over false = refl
completed_settled e h (refused n) = refl

-- After an element that is put before them, the elements come first.
pub put_first : (e : Element) (m : Outcome Pending) → elements_first (m >>= put_before (element e))
unfolding put_before settled absent
put_first e m p h =
    from_bind m _ h λ r _ g.
    from_bind (completed e r) _ g λ x _ q. rw (← done_inj q) refl

-- The step that follows: it takes what was put.
module _ (k : Pending → Outcome (List Element)) where
  -- The elements come first, and the step adds x to them.
  pub take_elements : (x : Element) → ((es : List Element) → k (both none none es) ≡ done (x ∷ es)) → (m : Outcome Pending) → elements_first m
      → (m >>= k) ≡ element_before x (m >>= settle)
  unfolding settled absent
  take_elements x h (done p) s = go p.size p.format p.elements (s p refl)
    where
      go : (l b : Option ℕ) (es : List Element) → settled (both l b es) ≡ true → k (both l b es) ≡ element_before x (settle (both l b es))
      go none none es e = h es
      go none (some b) es e = absurd (false≢true e)
      go (some l) b es e = absurd (false≢true e)
  take_elements x h (refused n) s = refl

  -- A length or a format goes on to the step where the test passes.
  through : (t : Bool) (r : Pending) (o : Outcome (List Element)) → k r ≡ o → ((need t 3 >>= λ _. done r) >>= k) ≡ (need t 3 >>= λ _. o)
  through true r o h = h
  through false r o h = refl

  pub put_format : (b : ℕ) (x : Element) → ((es : List Element) → k (both none (some b) es) ≡ done (x ∷ es)) → (m : Outcome Pending)
      → ((m >>= put_before (format_piece b)) >>= k) ≡ (m >>= λ p. need (settled p) 3 >>= λ _. done (x ∷ p.elements))
  unfolding put_before
  put_format b x h (done p) = through (settled p) (both none (some b) p.elements) (done (x ∷ p.elements)) (h p.elements)
  put_format b x h (refused n) = refl

  pub put_format_bad : (b : ℕ) → ((es : List Element) → k (both none (some b) es) ≡ refused (by 3)) → (m : Outcome Pending) → Only (Is 3) m
      → ((m >>= put_before (format_piece b)) >>= k) ≡ refused (by 3)
  unfolding put_before
  put_format_bad b h (done p) w =
      through (settled p) (both none (some b) p.elements) (refused (by 3)) (h p.elements) ∙ still_refused (settled p) 3
  put_format_bad b h (refused n) w = ap refused w

  pub put_length : (l : ℕ) (x : Pending → Element) → ((p : Pending) → k (both (some l) p.format p.elements) ≡ done (x p ∷ p.elements))
      → (m : Outcome Pending)
      → ((m >>= put_before (length_piece l)) >>= k) ≡ (m >>= λ p. need (absent p.size) 3 >>= λ _. done (x p ∷ p.elements))
  unfolding put_before
  put_length l x h (done p) = through (absent p.size) (both (some l) p.format p.elements) (done (x p ∷ p.elements)) (h p)
  put_length l x h (refused n) = refl

  pub put_length_bad : (l : ℕ) → ((p : Pending) → k (both (some l) p.format p.elements) ≡ refused (by 3)) → (m : Outcome Pending) → Only (Is 3) m
      → ((m >>= put_before (length_piece l)) >>= k) ≡ refused (by 3)
  unfolding put_before
  put_length_bad l h (done p) w =
      through (absent p.size) (both (some l) p.format p.elements) (refused (by 3)) (h p) ∙ still_refused (absent p.size) 3
  put_length_bad l h (refused n) w = ap refused w
