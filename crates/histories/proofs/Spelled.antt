-- A name and what stands after it, with no space, comma, period or apostrophe, is one element: the texts, pieces and numbers of a plain
-- format are what they look like.
use mathlib.Core.Path.{◌≡◌, refl, sym, ◌∙◌, ap}
use mathlib.Core.Bool.{Bool, true, false, not, ◌&&◌, ◌||◌}
use mathlib.Core.List.{List, [], ◌∷◌, ◌++◌, append-nil}
use mathlib.Core.Option.{none, some}
use Prim.Native.Nat.{ℕ, ◌+◌, ◌-◌, ◌≤◌}
use native.Mathlib.Omega.{arith}
use borrow.Author.Tests.{ne_eqb, leb-true, le-leb, lt-leb}
use lib.Dec.{eqb, leb, le→leb}
use lib.ListN.{length, length-append, length-map}
use Rattle.rules.specs.Outcome.{done}
use Rattle.rules.specs.Limits.{longest_format, most_digits}
use Rattle.rules.specs.Characters.{space, period, comma, apostrophe, hyphen, open_parenthesis, close_parenthesis, letter, digit, letter_C, letter_E, letter_N, digit_0}
use Rattle.rules.specs.Lists.{Bytes, nothing, absent, spelled}
use Rattle.rules.specs.Values.{strip}
use Rattle.rules.specs.Table.{is_name, name_of}
use Rattle.rules.specs.Format.{Indexing, these, Element, named, count, element, turned, onto, texts, skip_spaces, trim, leading_digits, number_first, index_first, range_end, closing, parenthesis, after_range, after_index, after_name, piece, Pending, settled, completed, put_before, assembled, elements}
use Rattle.rules.proofs.Steps.{need_true, and_intro, not_both}
use Rattle.rules.proofs.Back.{All}
use Rattle.histories.specs.Spelled.{figures, indexed, valued, count_spelled, element_alone}

-- No byte that parts elements, quotes text or is left out.
abbrev pub Solid : ℕ → Type 0
Solid c = (eqb c comma ≡ false) × (eqb c period ≡ false) × (eqb c apostrophe ≡ false) × (eqb c space ≡ false)

pub high_solid : (c : ℕ) → 0xC1 ≤ c → Solid c
high_solid c h = (ne_eqb c comma (λ e. omega arith), ne_eqb c period (λ e. omega arith), ne_eqb c apostrophe (λ e. omega arith), ne_eqb c space (λ e. omega arith))

-- ---- letters

from_or : {C : Type 0} (a b : Bool) → (a || b) ≡ true → (a ≡ true → C) → (b ≡ true → C) → C
from_or true b e f g = f refl
from_or false b e f g = g e

from_and : {C : Type 0} (a b : Bool) → (a && b) ≡ true → (a ≡ true → b ≡ true → C) → C
from_and true b e f = f refl e
from_and false b e f = absurd (not_both e)

letter_range : (c : ℕ) → letter c ≡ true → (0xC1 ≤ c) × (c ≤ 0xE9)
unfolding letter
letter_range c e =
    from_or ((leb 0xC1 c && leb c 0xC9) || (leb 0xD1 c && leb c 0xD9)) (leb 0xE2 c && leb c 0xE9) e
    (λ e₁. from_or (leb 0xC1 c && leb c 0xC9) (leb 0xD1 c && leb c 0xD9) e₁
    (λ e₂. from_and (leb 0xC1 c) (leb c 0xC9) e₂ λ x y. let l = leb-true 0xC1 c x in let u = leb-true c 0xC9 y in (omega arith, omega arith))
    (λ e₂. from_and (leb 0xD1 c) (leb c 0xD9) e₂ λ x y. let l = leb-true 0xD1 c x in let u = leb-true c 0xD9 y in (omega arith, omega arith)))
    (λ e₁. from_and (leb 0xE2 c) (leb c 0xE9) e₁ λ x y. let l = leb-true 0xE2 c x in let u = leb-true c 0xE9 y in (omega arith, omega arith))

digit_range : (c : ℕ) → digit c ≡ true → 0xF0 ≤ c
unfolding digit
digit_range c e = from_and (leb 0xF0 c) (leb c 0xF9) e λ x y. leb-true 0xF0 c x

not_digit : (c : ℕ) → c ≤ 0xE9 → digit c ≡ false
unfolding digit
not_digit c h = rw (lt-leb 0xF0 c (omega arith))

name_letters : (a b : ℕ) → is_name a b ≡ true → (letter a ≡ true) × ((letter b || digit b) ≡ true)
unfolding is_name
name_letters a b e =
    from_and (letter a && (letter b || digit b)) (not (eqb a letter_E && digit b)) e λ x y.
    from_and (letter a) (letter b || digit b) x λ u v. (u, v)

second_high : (b : ℕ) → (letter b || digit b) ≡ true → 0xC1 ≤ b
second_high b e = from_or (letter b) (digit b) e (λ x. (letter_range b x).0) (λ x. let h = digit_range b x in omega arith)

-- ---- one text

text_alone : (cs : Bytes) → All Solid cs → texts false (cs ++ (period ∷ [])) ≡ done (cs ∷ [])
unfolding texts onto
text_alone [] a = refl
text_alone (c ∷ cs) a =
    let u : turned false c ≡ false = rw (a.0.2, turned) in
    rw (a.0.0, a.0.1, texts, u, text_alone cs a.1) refl

strip_solid : (cs : Bytes) → All Solid cs → strip cs ≡ cs
unfolding strip
strip_solid [] a = refl
strip_solid (c ∷ []) a = rw (a.0.3, strip)
strip_solid (c ∷ d ∷ cs) a = rw (strip_solid (d ∷ cs) a.1, strip) refl

trim_solid : (c : ℕ) (cs : Bytes) → All Solid (c ∷ cs) → trim (c ∷ cs) ≡ c ∷ cs
unfolding trim skip_spaces
trim_solid c cs a = rw (strip_solid (c ∷ cs) a, a.0.3, skip_spaces)

-- ---- numbers

-- One to three digits that spell a number.
pub record Spells (ds : List ℕ) (i : ℕ) : Type 0 where
  pub digits : All (λ d. d ≤ 9) ds
  pub some_digits : 1 ≤ length ds
  pub few_digits : length ds ≤ most_digits
  pub number : spelled 10 ds 0 ≡ i

-- What may stand after a number: nothing, or no digit.
abbrev pub NoDigit : Bytes → Type 0
NoDigit [] = Unit {0}
NoDigit (c ∷ cs) = digit c ≡ false

figure_digit : (d : ℕ) → d ≤ 9 → digit (digit_0 + d) ≡ true
unfolding digit
figure_digit d h = rw (le-leb 0xF0 (digit_0 + d) (omega arith), le-leb (digit_0 + d) 0xF9 (omega arith))

no_digits : (cs : Bytes) → NoDigit cs → leading_digits cs ≡ ([], cs)
unfolding leading_digits
no_digits [] n = refl
no_digits (c ∷ cs) n = rw (n, leading_digits)

leading_figures : (ds : List ℕ) (cs : Bytes) → All (λ d. d ≤ 9) ds → NoDigit cs → leading_digits (figures ds ++ cs) ≡ (ds, cs)
unfolding figures leading_digits
leading_figures [] cs a n = no_digits cs n
leading_figures (d ∷ ds) cs a n =
    let z : digit_0 + d - digit_0 ≡ d = omega arith in
    rw (figure_digit d a.0, leading_digits, leading_figures ds cs a.1 n, z) refl

pub number_figures : (ds : List ℕ) (i : ℕ) (cs : Bytes) → Spells ds i → NoDigit cs → number_first (figures ds ++ cs) ≡ done (i, cs)
unfolding number_first
number_figures ds i cs s n =
    rw (
      leading_figures ds cs s.digits n,
      need_true (leb 1 (length ds) && leb (length ds) most_digits) 3
          (and_intro (leb 1 (length ds)) (leb (length ds) most_digits) (le→leb 1 (length ds) s.some_digits) (le→leb (length ds) most_digits s.few_digits)),
      s.number,
    ) refl

figures_solid : (ds : List ℕ) → All Solid (figures ds)
unfolding figures
figures_solid [] = tt
figures_solid (d ∷ ds) = (high_solid (digit_0 + d) (omega arith), figures_solid ds)

-- ---- what stands after a name

abbrev only : ℕ → Indexing
only i = these (record { from = i; upto = i })

index_figures : (ds : List ℕ) (i : ℕ) (cs : Bytes) → Spells ds i → NoDigit cs → index_first (figures ds ++ cs) ≡ done (only i, cs)
unfolding figures index_first
index_figures [] i cs s q = absurd (let h = s.some_digits in omega arith)
index_figures (d ∷ ds) i cs s q = rw (ne_eqb (digit_0 + d) letter_N (λ e. omega arith), index_first, number_figures (d ∷ ds) i cs s q)

after_figures : (n : ℕ) (ds : List ℕ) (i : ℕ) (cs : Bytes) → Spells ds i → NoDigit cs → after_name n (figures ds ++ cs) ≡ after_index n (only i) cs
unfolding figures after_name
after_figures n [] i cs s q = absurd (let h = s.some_digits in omega arith)
after_figures n (d ∷ ds) i cs s q =
    let c : eqb (digit_0 + d) letter_C ≡ false = ne_eqb (digit_0 + d) letter_C (λ e. omega arith) in
    let h : eqb (digit_0 + d) hyphen ≡ false = ne_eqb (digit_0 + d) hyphen (λ e. omega arith) in
    rw (c, h, after_name, index_figures (d ∷ ds) i cs s q) refl

module _ (n : ℕ) where
  pub nothing_after : after_name n [] ≡ done (named n none none none none)
  unfolding after_name
  nothing_after = refl

  pub CAfter : after_name n (letter_C ∷ []) ≡ done (count n none)
  unfolding after_name nothing
  CAfter = refl

  module _ (ds : List ℕ) (i : ℕ) (s : Spells ds i) where
    pub index_after : after_name n (indexed ds) ≡ done (named n (some (only i)) none none none)
    unfolding indexed after_index
    index_after = ap (after_name n) (sym (append-nil (figures ds))) ∙ after_figures n ds i [] s tt

    pub counted_after : after_name n (count_spelled ds) ≡ done (count n (some i))
    unfolding count_spelled after_index nothing digit
    counted_after = after_figures n ds i (letter_C ∷ []) s refl

    pub valued_after : (vs : List ℕ) (k : ℕ) → Spells vs k → after_name n (valued ds vs) ≡ done (named n (some (only i)) (some (only k)) none none)
    unfolding valued after_index range_end after_range parenthesis closing nothing digit
    valued_after vs k z = after_figures n ds i (open_parenthesis ∷ figures vs ++ (close_parenthesis ∷ [])) s refl ∙ rw (index_figures vs k (close_parenthesis ∷ []) z refl) refl

-- ---- one element

piece_name : (a b : ℕ) (cs : Bytes) (e : Element) → is_name a b ≡ true → after_name (name_of a b) cs ≡ done e → piece (a ∷ b ∷ cs) ≡ done (element e)
unfolding piece
piece_name a b cs e n q =
    let r = letter_range a (name_letters a b n).0 in
    let t : eqb a apostrophe ≡ false = ne_eqb a apostrophe (λ z. omega arith) in
    rw (t, piece, not_digit a r.1, n, q) refl

abbrev blank : Pending
blank = record { size = none; format = none; elements = [] }

solid_append : (xs ys : Bytes) → All Solid xs → All Solid ys → All Solid (xs ++ ys)
solid_append [] ys a b = b
solid_append (x ∷ xs) ys a b = (a.0, solid_append xs ys a.1 b)

pub one_element : (a b : ℕ) (cs : Bytes) (e : Element) → is_name a b ≡ true → All Solid cs → length cs ≤ 2000 → after_name (name_of a b) cs ≡ done e → completed e blank ≡ done e
    → elements (element_alone a b cs) ≡ done (e ∷ [])
unfolding elements element_alone assembled put_before settled absent
one_element a b cs e n s l q c =
    let x = name_letters a b n in
    let o : All Solid (a ∷ b ∷ cs) = (high_solid a (letter_range a x.0).0, (high_solid b (second_high b x.1), s)) in
    let m : length (a ∷ b ∷ cs ++ (period ∷ [])) ≤ longest_format = (let z = length-append cs (period ∷ []) in omega arith) in
    rw (need_true (leb (length (a ∷ b ∷ cs ++ (period ∷ []))) longest_format) 3 (le→leb (length (a ∷ b ∷ cs ++ (period ∷ []))) longest_format m), text_alone (a ∷ b ∷ cs) o, trim_solid a (b ∷ cs) o, piece_name a b cs e n q, c) refl

-- The three spellings with numbers hold nothing but figures, parentheses and C.
figures_long : (ds : List ℕ) (i : ℕ) → Spells ds i → length (figures ds) ≤ 3
unfolding figures
figures_long ds i s = rw length-map s.few_digits

module _ (ds : List ℕ) where
  pub indexed_solid : All Solid (indexed ds)
  unfolding indexed
  indexed_solid = figures_solid ds

  pub counted_solid : All Solid (count_spelled ds)
  unfolding count_spelled
  counted_solid = solid_append (figures ds) (letter_C ∷ []) (figures_solid ds) (high_solid letter_C (omega arith), tt)

  pub valued_solid : (vs : List ℕ) → All Solid (valued ds vs)
  unfolding valued
  valued_solid vs = solid_append (figures ds) (open_parenthesis ∷ figures vs ++ (close_parenthesis ∷ [])) (figures_solid ds)
      ((refl, refl, refl, refl), solid_append (figures vs) (close_parenthesis ∷ []) (figures_solid vs) ((refl, refl, refl, refl), tt))

  module _ (i : ℕ) (s : Spells ds i) where
    pub indexed_short : length (indexed ds) ≤ 2000
    unfolding indexed
    indexed_short = let l = figures_long ds i s in omega arith

    pub counted_short : length (count_spelled ds) ≤ 2000
    unfolding count_spelled
    counted_short = let l = figures_long ds i s in let z = length-append (figures ds) (letter_C ∷ []) in omega arith

    pub valued_short : (vs : List ℕ) (k : ℕ) → Spells vs k → length (valued ds vs) ≤ 2000
    unfolding valued
    valued_short vs k t =
        let l = figures_long ds i s in
        let m = figures_long vs k t in
        let y = length-append (figures vs) (close_parenthesis ∷ []) in
        let z = length-append (figures ds) (open_parenthesis ∷ figures vs ++ (close_parenthesis ∷ [])) in
        omega arith
