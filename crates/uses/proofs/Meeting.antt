-- The uses kept, by the last of them: whether one before it names what it names, and whether an occurrence is named twice.
use mathlib.Core.Path.{◌≡◌, refl, sym, ap, subst, ◌∙◌}
use mathlib.Core.Bool.{Bool, true, false, ◌||◌, or-true}
use mathlib.Core.List.{List, [], ◌∷◌, ◌++◌}
use Prim.Native.Nat.{ℕ, zero, suc, ◌+◌, ◌-◌, ◌<◌, ◌≤◌}
use native.Mathlib.Omega.{arith}
use native.Mathlib.Numerals.{add-one}
use Rattle.rules.specs.Lists.{Bytes, any}
use Rattle.rules.specs.Table.{Entry}
use Rattle.rules.specs.Use as rules
use Rattle.rules.specs.Update.{name_alike, named_twice}
use Rattle.rules.proofs.Bools.{or_crossed}
use Rattle.uses.specs.Meant.{use_meant}
use Rattle.uses.specs.Kept.{use_at, uses_kept, GoodUses}
use Rattle.uses.specs.Twice.{GoodSpans, met_by, Alike, Met, NamedTwice}
use Rattle.uses.specs.declared.Span.{Span}
use Rattle.uses.specs.declared.Use.{Use}
use Rattle.uses.specs.declared.Use.TheVariants as code
use Rattle.uses.proofs.Remembering.{span_known}
use Rattle.uses.proofs.Sharing.{one_left, one_right}
use Rattle.uses.proofs.Numbers.{uses_none, uses_last}

or_middle : (a b c : Bool) → (a || (b || c)) ≡ (b || (a || c))
or_middle true b c = sym (or-true b)
or_middle false b c = refl

any_last : {A : Type 0} (p : A → Bool) (xs : List A) (x : A) → any p (xs ++ (x ∷ [])) ≡ (p x || any p xs)
unfolding any
any_last p [] x = refl
any_last p (y ∷ ys) x = ap (λ b. p y || b) (any_last p ys x) ∙ or_middle (p y) (p x) (any p ys)

-- One item names nothing.
none_met : (us : List rules.Use) (x : rules.Item) → met_by us (rules.one x) ≡ false
unfolding met_by any
none_met [] x = refl
none_met (u ∷ us) x = ap (λ b. b || met_by us (rules.one x)) (one_right u x) ∙ none_met us x

named_last : (us : List rules.Use) (u : rules.Use) → named_twice (us ++ (u ∷ [])) ≡ (met_by us u || named_twice us)
unfolding met_by any named_twice
named_last [] u = refl
named_last (w ∷ ws) u =
    ap (λ b. b || named_twice (ws ++ (u ∷ []))) (any_last (name_alike w) ws u)
    ∙ ap (λ b. (name_alike w u || any (name_alike w) ws) || b) (named_last ws u)
    ∙ or_crossed (name_alike w u) (any (name_alike w) ws) (met_by ws u) (named_twice ws)

module _ (es : List Entry) (f : Bytes) (kept : List ℕ) where
  met_last : (n : ℕ) (u : rules.Use)
      → met_by (uses_kept es f kept (suc n)) u ≡ (name_alike (use_meant es f (use_at kept n)) u || met_by (uses_kept es f kept n) u)
  unfolding met_by
  met_last n u = ap (any (λ v. name_alike v u)) (uses_last es f kept n) ∙ any_last (λ v. name_alike v u) (uses_kept es f kept n) (use_meant es f (use_at kept n))

  met_none : (u : rules.Use) → met_by (uses_kept es f kept 0) u ≡ false
  unfolding met_by any
  met_none u = ap (any (λ v. name_alike v u)) (uses_none es f kept)

  twice_last : (n : ℕ)
      → named_twice (uses_kept es f kept (suc n)) ≡ (met_by (uses_kept es f kept n) (use_meant es f (use_at kept n)) || named_twice (uses_kept es f kept n))
  twice_last n = ap named_twice (uses_last es f kept n) ∙ named_last (uses_kept es f kept n) (use_meant es f (use_at kept n))

  twice_none : named_twice (uses_kept es f kept 0) ≡ false
  unfolding named_twice
  twice_none = ap named_twice (uses_none es f kept)

  -- What is named twice stays so with more uses.
  twice_on : (k n m : ℕ) → m ≡ n + k → named_twice (uses_kept es f kept n) ≡ true → named_twice (uses_kept es f kept m) ≡ true
  twice_on zero n m q e = let z : m ≡ n = omega arith in ap (λ j. named_twice (uses_kept es f kept j)) z ∙ e
  twice_on (suc k) n m q e =
      let z : m ≡ suc (n + k) = omega arith in
      ap (λ j. named_twice (uses_kept es f kept j)) z
      ∙ twice_last (n + k)
      ∙ ap (λ b. met_by (uses_kept es f kept (n + k)) (use_meant es f (use_at kept (n + k))) || b) (twice_on k n (n + k) refl e)
      ∙ or-true (met_by (uses_kept es f kept (n + k)) (use_meant es f (use_at kept (n + k))))

-- A look at the last of i uses.
module _ (es : List Entry) (kept : List ℕ) (u : Use) (i : ℕ) (f : Bytes) where
  pub met_nowhere : i ≤ 0 → false ≡ met_by (uses_kept es f kept i) (use_meant es f u)
  met_nowhere h = let e : i ≡ 0 = omega arith in rw e (sym (met_none es f kept (use_meant es f u)))

  module _ (h : 0 < i) {b : Bool} (q : Alike es (use_at kept (i - 1)) u b) where
    met_first : met_by (uses_kept es f kept i) (use_meant es f u) ≡ (b || met_by (uses_kept es f kept (i - 1)) (use_meant es f u))
    met_first =
        let e : i ≡ suc (i - 1) = omega arith in
        ap (λ n. met_by (uses_kept es f kept n) (use_meant es f u)) e
        ∙ met_last es f kept (i - 1) (use_meant es f u)
        ∙ ap (λ c. c || met_by (uses_kept es f kept (i - 1)) (use_meant es f u)) (sym (q f))

    pub met_here : b ≡ true → true ≡ met_by (uses_kept es f kept i) (use_meant es f u)
    met_here t = sym (met_first ∙ rw t)

    pub met_elsewhere : b ≡ false → met_by (uses_kept es f kept (i - 1)) (use_meant es f u) ≡ met_by (uses_kept es f kept i) (use_meant es f u)
    met_elsewhere t = sym (met_first ∙ rw t)

-- None of the first n uses names what a use names.
pub none_before : (es : List Entry) (kept : List ℕ) (u : Use) (n : ℕ) → ((i : ℕ) → i < n → Alike es (use_at kept i) u false) → Met es kept n u false
none_before es kept u zero h f = sym (met_none es f kept (use_meant es f u))
none_before es kept u (suc n) h f =
    sym (met_last es f kept n (use_meant es f u) ∙ rw (← h n (omega arith) f, ← none_before es kept u n (λ i l. h i (omega arith)) f))

-- A use in other words.
pub alike_as : (es : List Entry) (v : Use) {u u' : Use} {r : Bool} → u ≡ u' → Alike es u' v r → Alike es u v r
alike_as es v {r = r} e a = subst (λ (w : Use). Alike es w v r) (sym e) a

pub met_as : (es : List Entry) (kept : List ℕ) (count : ℕ) {u v : Use} {r : Bool} → u ≡ v → Met es kept count v r → Met es kept count u r
met_as es kept count {r = r} e m = subst (λ (w : Use). Met es kept count w r) (sym e) m

-- What is no span names nothing.
pub alike_other : (es : List Entry) (u v : Use) → ((s : Span) → u ≡ code.Values s → ⊥) → Alike es u v false
alike_other es (code.Blanks n) v h f = sym (one_left _ _)
alike_other es (code.Text from upto) v h f = sym (one_left _ _)
alike_other es (code.GroupCount i) v h f = sym (one_left _ _)
alike_other es (code.ValueCount i k) v h f = sym (one_left _ _)
alike_other es (code.Values s) v h f = absurd (h s refl)

pub met_other : (es : List Entry) (kept : List ℕ) (count : ℕ) (u : Use) → ((s : Span) → u ≡ code.Values s → ⊥) → Met es kept count u false
met_other es kept count (code.Blanks n) h f = sym (none_met _ _)
met_other es kept count (code.Text from upto) h f = sym (none_met _ _)
met_other es kept count (code.GroupCount i) h f = sym (none_met _ _)
met_other es kept count (code.ValueCount i k) h f = sym (none_met _ _)
met_other es kept count (code.Values s) h f = absurd (h s refl)

-- None of the first n uses names what one before it names.
abbrev pub Once : List Entry → List ℕ → ℕ → Type 0
Once es kept n = (f : Bytes) → named_twice (uses_kept es f kept n) ≡ false

module _ (es : List Entry) (kept : List ℕ) where
  pub once_start : Once es kept 0
  once_start f = twice_none es f kept

  module _ (n count : ℕ) where
    pub once_end : count ≤ n → n ≤ count → Once es kept n → NamedTwice es kept count false
    once_end h l o f g = let e : n ≡ count = omega arith in sym (ap (λ k. named_twice (uses_kept es f kept k)) (sym e) ∙ o f)

    module _ {r : Bool} (m : Met es kept n (use_at kept n) r) where
      pub once_more : r ≡ false → Once es kept n → Once es kept (n + 1)
      once_more t o f = ap (λ k. named_twice (uses_kept es f kept k)) (add-one n) ∙ twice_last es f kept n ∙ rw (sym (m f) ∙ t, o f)

      pub twice_found : r ≡ true → n < count → NamedTwice es kept count true
      twice_found t h f g = sym (twice_on es f kept (count - suc n) (suc n) count (omega arith) (twice_last es f kept n ∙ rw (sym (m f) ∙ t)))

  pub spans_known : (f : Bytes) (count : ℕ) → GoodUses es f kept count → GoodSpans es kept count
  spans_known f count g i h = span_known es f (use_at kept i) (g i h)

-- What a look for what is named twice begins and ends with.
pub ruleset once_laws = (once_start, once_end, spans_known)
