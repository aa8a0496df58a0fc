-- A text that begins with a letter and another letter or digit is neither a length nor a format: those two bytes begin its piece, which is a name's.
use mathlib.Core.Path.{◌≡◌, refl, sym, ap, ◌∙◌}
use mathlib.Core.Bool.{true, false}
use mathlib.Core.List.{List, [], ◌∷◌}
use Prim.Native.Nat.{ℕ, suc, ◌+◌, ◌≤◌, ◌<◌}
use native.Mathlib.Numerals.{add-one}
use native.Mathlib.Omega.{arith}
use lib.Dec.{eqb}
use lib.ListN.{length, drop, get_or}
use lib.Seq.{drop-cons}
use borrow.Author.Tests.{ne_eqb, lt-leb}
use Rattle.rules.specs.Outcome.{done, ◌>>=◌, need}
use Rattle.rules.specs.Characters.{space, period, apostrophe, digit}
use Rattle.rules.specs.Lists.{Bytes}
use Rattle.rules.specs.Values.{strip}
use Rattle.rules.specs.Table.{is_name, name_of}
use Rattle.rules.specs.Format.{turned, ends, onto, texts, skip_spaces, trim, piece, after_name, assembled}
use Rattle.rules.proofs.Steps.{from_bind, from_need, done_inj}
use Rattle.format_buffer.specs.Pieces.{as_piece}
use Rattle.format_buffer.specs.Texts.{pending, elements_first}
use Rattle.format_buffer.proofs.Scans.{ends_other, turned_no}
use Rattle.format_buffer.proofs.Puts.{put_first}

-- A letter or a digit.
module _ (c : ℕ) (h : 0xC1 ≤ c) where
  texts_under : (s : Bytes) → texts false (c ∷ s) ≡ (texts false s >>= λ ts. done (onto c ts))
  unfolding texts
  texts_under s =
      let e : ends false c ≡ false = sym (ends_other false c refl (λ q. omega arith)) ∙ ne_eqb c period (λ q. omega arith) in
      let d : turned false c ≡ false = sym (turned_no false c (λ q. omega arith)) in
      rw (e, texts, d) refl

  strip_under : (s : Bytes) → strip (c ∷ s) ≡ c ∷ strip s
  unfolding strip
  strip_under s = go (strip s)
    where
      go : (r : Bytes) → elim r [ [] ↦ elim (eqb c space) [ true ↦ [] | false ↦ c ∷ [] ] | x ∷ xs ↦ c ∷ x ∷ xs ] ≡ c ∷ r
      go [] = rw (ne_eqb c space (λ e. omega arith)) refl
      go (x ∷ xs) = refl

  skip_none : (s : Bytes) → skip_spaces (c ∷ s) ≡ c ∷ s
  unfolding skip_spaces
  skip_none s = rw (ne_eqb c space (λ e. omega arith), skip_spaces) refl

module _ (a b : ℕ) (h : 0xC1 ≤ a) (k : a ≤ 0xE9) (l : 0xC1 ≤ b) where
  trim_two : (t : Bytes) → trim (a ∷ b ∷ t) ≡ a ∷ b ∷ strip t
  unfolding trim
  trim_two t = ap skip_spaces (strip_under a h (b ∷ t) ∙ ap (λ (r : Bytes). a ∷ r) (strip_under b l t)) ∙ skip_none a h (b ∷ strip t)

  piece_two : (t : Bytes) → piece (a ∷ b ∷ t) ≡ (need (is_name a b) 3 >>= λ _. as_piece (after_name (name_of a b) t))
  unfolding piece digit
  piece_two t = rw (ne_eqb a apostrophe (λ e. omega arith), piece, lt-leb 0xF0 a (omega arith)) refl

  two_first : (t : Bytes) (ts : List Bytes) → elements_first (assembled ((a ∷ b ∷ t) ∷ ts))
  unfolding assembled
  two_first t ts p e =
      from_bind (piece (trim (a ∷ b ∷ t))) _ e λ q g f.
      from_need (is_name a b) 3 _ (sym (ap piece (trim_two t) ∙ piece_two (strip t)) ∙ g) λ _ n.
      from_bind (after_name (name_of a b) (strip t)) _ n λ x _ d.
      put_first x (assembled ts) p (rw (← done_inj d) at f)

  onto_first : (ts : List Bytes) → elements_first (assembled (onto a (onto b ts)))
  unfolding onto
  onto_first [] = two_first [] []
  onto_first (t ∷ ts) = two_first t ts

  pending_first : (s : Bytes) → elements_first (pending (a ∷ b ∷ s))
  unfolding pending
  pending_first s p e =
      from_bind (texts false (a ∷ b ∷ s)) assembled e λ us g f.
      from_bind (texts false (b ∷ s)) _ (sym (texts_under a h (b ∷ s)) ∙ g) λ vs i u.
      from_bind (texts false s) _ (sym (texts_under b l s) ∙ i) λ ts _ v.
      onto_first ts p (ap assembled (ap (onto a) (done_inj v) ∙ done_inj u) ∙ f)

pub longer_first : (f : Bytes) (at : ℕ) → at + 1 < length f → 0xC1 ≤ get_or f at 0 → get_or f at 0 ≤ 0xE9 → 0xC1 ≤ get_or f (at + 1) 0
    → elements_first (pending (drop at f))
longer_first f at h a b c =
    let e : drop at f ≡ get_or f at 0 ∷ get_or f (at + 1) 0 ∷ drop (suc (at + 1)) f =
    drop-cons f at 0 (omega arith) ∙ ap (λ (r : Bytes). get_or f at 0 ∷ r) (rw (← add-one at) (drop-cons f (at + 1) 0 h)) in
    rw e (pending_first (get_or f at 0) (get_or f (at + 1) 0) a b c (drop (suc (at + 1)) f))
