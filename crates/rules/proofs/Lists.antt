-- Bytes that end in a byte: their last, those before it, and what is left without trailing spaces.
use mathlib.Core.Path.{◌≡◌, refl, sym, ◌∙◌, ap}
use mathlib.Core.Bool.{true, false}
use mathlib.Core.List.{[], ◌∷◌, ◌++◌}
use Prim.Native.Nat.{ℕ}
use borrow.Author.Tests.{eq-eqb, ne_eqb, eqb-true, eqb-false}
use lib.Dec.{eqb}
use Rattle.rules.specs.Characters.{space}
use Rattle.rules.specs.Lists.{Bytes, but_last, last}
use Rattle.rules.specs.Values.{strip}
use Rattle.rules.proofs.Steps.{by_test}

-- The last byte and those before it.
pub but_last_snoc : (xs : Bytes) (x : ℕ) → but_last (xs ++ (x ∷ [])) ≡ xs
unfolding but_last
but_last_snoc [] x = refl
but_last_snoc (y ∷ []) x = refl
but_last_snoc (y ∷ z ∷ zs) x = ap (λ (l : Bytes). y ∷ l) (but_last_snoc (z ∷ zs) x)

pub last_snoc : (xs : Bytes) (x : ℕ) → last (xs ++ (x ∷ [])) ≡ x
unfolding last
last_snoc [] x = refl
last_snoc (y ∷ []) x = refl
last_snoc (y ∷ z ∷ zs) x = last_snoc (z ∷ zs) x

-- One byte before a text.
unfoldable pub text_before : ℕ → Bytes → Bytes
text_before b [] = elim (eqb b space) [ true ↦ [] | false ↦ b ∷ [] ]
text_before b (x ∷ xs) = b ∷ x ∷ xs

pub strip_cons : (b : ℕ) (bs : Bytes) → strip (b ∷ bs) ≡ text_before b (strip bs)
unfolding strip text_before
strip_cons b bs = by_rest (strip bs)
  where
    by_rest : (r : Bytes) → elim r [ [] ↦ elim (eqb b space) [ true ↦ [] | false ↦ b ∷ [] ] | x ∷ xs ↦ b ∷ x ∷ xs ] ≡ text_before b r
    by_rest [] = refl
    by_rest (x ∷ xs) = refl

pub text_before_other : (b : ℕ) → (b ≡ space → ⊥) → text_before b [] ≡ b ∷ []
unfolding text_before
text_before_other b h = rw (ne_eqb b space h, text_before)

pub text_before_blank : (b : ℕ) → b ≡ space → text_before b [] ≡ []
unfolding text_before
text_before_blank b h = rw (eq-eqb b space h, text_before)

pub strip_nil : strip [] ≡ []
unfolding strip
strip_nil = refl

-- A blank at the end goes; another byte stays, with all before it.
pub strip_space : (xs : Bytes) → strip (xs ++ (space ∷ [])) ≡ strip xs
unfolding strip
strip_space [] = refl
strip_space (x ∷ xs) = strip_cons x (xs ++ (space ∷ [])) ∙ ap (text_before x) (strip_space xs) ∙ sym (strip_cons x xs)

text_before_some : (x : ℕ) (xs : Bytes) (b : ℕ) → text_before x (xs ++ (b ∷ [])) ≡ x ∷ (xs ++ (b ∷ []))
unfolding text_before
text_before_some x [] b = refl
text_before_some x (y ∷ ys) b = refl

pub strip_other : (xs : Bytes) (b : ℕ) → (b ≡ space → ⊥) → strip (xs ++ (b ∷ [])) ≡ xs ++ (b ∷ [])
strip_other [] b h = strip_cons b [] ∙ rw strip_nil (text_before_other b h)
strip_other (x ∷ xs) b h = strip_cons x (xs ++ (b ∷ [])) ∙ ap (text_before x) (strip_other xs b h) ∙ text_before_some x xs b

-- A text has no trailing blank.
text_before_again : (b : ℕ) (t : Bytes) → strip t ≡ t → strip (text_before b t) ≡ text_before b t
unfolding text_before
text_before_again b [] e =
    by_test (eqb b space)
    (λ q. rw (text_before_blank b (eqb-true b space q)) strip_nil)
    (λ q. let k = text_before_other b (eqb-false b space q) in
    rw k (strip_cons b [] ∙ rw strip_nil k))
text_before_again b (x ∷ xs) e = strip_cons b (x ∷ xs) ∙ ap (text_before b) e

pub strip_again : (s : Bytes) → strip (strip s) ≡ strip s
strip_again [] = ap strip strip_nil
strip_again (b ∷ bs) = rw (strip_cons b bs) (text_before_again b (strip bs) (strip_again bs))
