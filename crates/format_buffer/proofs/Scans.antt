-- Looking for the end of a text, and for its first and last bytes that are no spaces: the laws of a step and of the end.
use mathlib.Core.Path.{◌≡◌, refl}
use mathlib.Core.Bool.{Bool, true, false, not}
use Prim.Native.Nat.{ℕ, suc, ◌+◌, ◌-◌, ◌≤◌, ◌<◌}
use native.Mathlib.Numerals.{add-one}
use lib.Dec.{eqb}
use lib.ListN.{length, drop, get_or, drop_of_length-le}
use lib.Seq.{drop-cons}
use borrow.Author.Tests.{ne_eqb}
use Rattle.rules.specs.Characters.{space, comma, period, apostrophe}
use Rattle.rules.specs.Lists.{Bytes}
use Rattle.rules.specs.Values.{strip}
use Rattle.rules.specs.Format.{turned, ends, skip_spaces}
use Rattle.rules.proofs.Lists.{strip_nil, strip_space, strip_other}
use Rattle.format_buffer.specs.Part.{part}
use Rattle.format_buffer.specs.Texts.{extent}
use Rattle.format_buffer.proofs.Parts.{part_nil, part_cons, part_snoc}

pub turned_yes : (q : Bool) (b : ℕ) → b ≡ apostrophe → not q ≡ turned q b
turned_yes q b e = rw e refl

pub turned_no : (q : Bool) (b : ℕ) → (b ≡ apostrophe → ⊥) → q ≡ turned q b
turned_no q b e = rw (ne_eqb b apostrophe e, turned) refl

pub ends_comma : (q : Bool) (b : ℕ) → q ≡ false → b ≡ comma → true ≡ ends q b
ends_comma q b n e = rw (n, e) refl

pub ends_other : (q : Bool) (b : ℕ) → q ≡ false → (b ≡ comma → ⊥) → eqb b period ≡ ends q b
ends_other q b n e = rw (n, ne_eqb b comma e) refl

module _ (q : Bool) (i : ℕ) (f : Bytes) where
  pub extent_end : length f ≤ i → extent q (drop i f) ≡ 0
  unfolding extent
  extent_end h = rw (drop_of_length-le f h) refl

  pub extent_stop : i < length f → ends q (get_or f i 0) ≡ true → extent q (drop i f) ≡ 0
  unfolding extent
  extent_stop h e = rw (drop-cons f i 0, e, extent) refl

  pub extent_go : i < length f → ends q (get_or f i 0) ≡ false → extent q (drop i f) ≡ suc (extent (turned q (get_or f i 0)) (drop (i + 1) f))
  unfolding extent
  extent_go h e = rw (drop-cons f i 0, e, extent, add-one) refl

-- Spaces at the end.
pub strip_end : (f : Bytes) (at i : ℕ) → i ≤ at → strip (part f at i) ≡ part f at i
strip_end f at i h = rw (part_nil f at i h) strip_nil

module _ (f : Bytes) (at i : ℕ) (h : at < i) (k : i ≤ length f) where
  pub strip_turn : get_or f (i - 1) 0 ≡ space → strip (part f at i) ≡ strip (part f at (i - 1))
  strip_turn e = rw (part_snoc f at i h k, e) (strip_space (part f at (i - 1)))

  pub strip_stop : (get_or f (i - 1) 0 ≡ space → ⊥) → strip (part f at i) ≡ part f at i
  strip_stop e = rw (part_snoc f at i h k) (strip_other (part f at (i - 1)) (get_or f (i - 1) 0) e)

-- Spaces at the start.
pub skip_end : (f : Bytes) (i upto : ℕ) → upto ≤ i → skip_spaces (part f i upto) ≡ part f i upto
unfolding skip_spaces
skip_end f i upto h = rw (part_nil f i upto h) refl

module _ (f : Bytes) (i upto : ℕ) (h : i < upto) (k : upto ≤ length f) where
  pub skip_turn : get_or f i 0 ≡ space → skip_spaces (part f i upto) ≡ skip_spaces (part f (i + 1) upto)
  unfolding skip_spaces
  skip_turn e = rw (part_cons f i upto h k, e) refl

  pub skip_stop : (get_or f i 0 ≡ space → ⊥) → skip_spaces (part f i upto) ≡ part f i upto
  unfolding skip_spaces
  skip_stop e = rw (part_cons f i upto h k, ne_eqb _ _ e, skip_spaces) refl
