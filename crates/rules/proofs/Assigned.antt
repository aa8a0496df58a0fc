-- What an update assigns: it goes to the places that its items name, in their order; no place repeats, so each takes its own bytes; and
-- none lies past the highest index named.
use mathlib.Core.Path.{◌≡◌, refl, sym, ◌∙◌, ap}
use mathlib.Core.Bool.{Bool, true, false, ◌&&◌, ◌||◌}
use mathlib.Core.List.{List, [], ◌∷◌, map}
use mathlib.Core.Option.{some}
use Prim.Native.Nat.{ℕ, ◌≤◌}
use native.Mathlib.Omega.{arith}
use lib.Dec.{T, eqb, eqb→eq}
use lib.ListN.{length}
use Rattle.rules.specs.Outcome.{done}
use Rattle.rules.specs.Lists.{Bytes, any, cut, filter, maximum}
use Rattle.rules.specs.Values.{converted_bytes, first_value}
use Rattle.rules.specs.Table.{Entry, table}
use Rattle.rules.specs.Format.{Element}
use Rattle.rules.specs.Use.{Place, Item, blanks_item, text_item, group_count, value_count, value_item, Use, items, uses}
use Rattle.rules.specs.Update.{Assignment, same_place, assigned, assignments, named_twice, to_field, highest_value, bare_only}
use Rattle.rules.proofs.Steps.{from_bind, done_inj, and_left, and_right, by_test, not_both, true_T, eqb_same}
use Rattle.rules.proofs.Back.{All, all_map}
use Rattle.rules.proofs.Alls.{all_both}
use Rattle.rules.proofs.Places.{places_of, repeats}
use Rattle.rules.proofs.Twice.{format_named_twice}
use Rattle.rules.proofs.Bare.{bare_count}

abbrev pub place_of : Assignment → Place
place_of a = a.place

-- ---- places that are the same

pub same_place_eq : (a b : Place) → T (same_place a b) → (a.field.name ≡ b.field.name) × (a.occurrence ≡ b.occurrence) × (a.value ≡ b.value)
unfolding same_place
same_place_eq a b t =
    let n = eqb a.field.name b.field.name in
    let o = eqb a.occurrence b.occurrence in
    let v = eqb a.value b.value in
    let u = and_left (n && o) v t in
    (eqb→eq _ _ (and_left n o u), eqb→eq _ _ (and_right n o u), eqb→eq _ _ (and_right (n && o) v t))

same_alike : (a p q : Place) → same_place q a ≡ true → same_place q p ≡ true → same_place a p ≡ true
unfolding same_place
same_alike a p q s t =
    let (n, o, v) = same_place_eq q a (true_T s) in
    let (m, l, w) = same_place_eq q p (true_T t) in
    rw (← n, ← o, ← v, ← m, ← l, ← w, eqb_same q.field.name, eqb_same q.occurrence, eqb_same q.value)

pub same_self : (p : Place) → same_place p p ≡ true
unfolding same_place
same_self p = rw (eqb_same p.field.name, eqb_same p.occurrence, eqb_same p.value)

pub not_same : (a p q : Place) → same_place a p ≡ false → same_place q p ≡ true → same_place q a ≡ false
not_same a p q s t = by_test (same_place q a) (λ u. absurd (not_both (sym s ∙ same_alike a p q u t))) (λ u. u)

turned : (p q : Place) → same_place q p ≡ true → same_place p q ≡ true
turned p q t = same_alike p q q t (same_self q)

-- ---- no place repeats

both_false : {C : Type 0} (a b : Bool) → (a || b) ≡ false → (a ≡ false → b ≡ false → C) → C
both_false true b h k = absurd (not_both (sym h))
both_false false b h k = k refl h

others : (p : Place) (vs : List Assignment) → any (same_place p) (map place_of vs) ≡ false → All (λ b. same_place p b.place ≡ false) vs
unfolding any
others p [] h = tt
others p (b ∷ vs) h = both_false (same_place p b.place) (any (same_place p) (map place_of vs)) h λ x y. (x, others p vs y)

pub from_once : {C : Type 0} (a : Assignment) (vs : List Assignment) → repeats (map place_of (a ∷ vs)) ≡ false
    → (All (λ b. same_place a.place b.place ≡ false) vs → repeats (map place_of vs) ≡ false → C) → C
unfolding repeats
from_once a vs h k = both_false (any (same_place a.place) (map place_of vs)) (repeats (map place_of vs)) h λ x y. k (others a.place vs x) y

-- Each is what its place takes.
skip_first : (a : Assignment) (vs : List Assignment) (q : Place) → same_place a.place q ≡ false → assigned (a ∷ vs) q ≡ assigned vs q
unfolding assigned
skip_first a vs q t = rw (t, assigned)

take_first : (a : Assignment) (vs : List Assignment) (q : Place) → same_place a.place q ≡ true → assigned (a ∷ vs) q ≡ some a.bytes
unfolding assigned
take_first a vs q t = rw (t, assigned)

pub own_bytes : (vs : List Assignment) → repeats (map place_of vs) ≡ false → All (λ a. (q : Place) → same_place q a.place ≡ true → assigned vs q ≡ some a.bytes) vs
own_bytes [] h = tt
own_bytes (a ∷ vs) h = from_once a vs h λ o r. (
  (λ q t. take_first a vs q (turned a.place q t)),
  all_both (λ b. same_place a.place b.place ≡ false) (λ b. (q : Place) → same_place q b.place ≡ true → assigned vs q ≡ some b.bytes)
      (λ b. (q : Place) → same_place q b.place ≡ true → assigned (a ∷ vs) q ≡ some b.bytes)
      (λ b d e q t. skip_first a vs q (apart a b q d t) ∙ e q t) vs o (own_bytes vs r),
)
  where
    apart : (a b : Assignment) (q : Place) → same_place a.place b.place ≡ false → same_place q b.place ≡ true → same_place a.place q ≡ false
    apart a b q d t = by_test (same_place a.place q)
        (λ u. absurd (not_both (sym d ∙ same_alike a.place b.place q (turned q a.place u) t)))
        (λ u. u)

-- ---- the places of items

pub assigned_places : (xs : List Item) (bs : Bytes) (ws : List Assignment) → assignments xs bs ≡ done ws → map place_of ws ≡ places_of xs
unfolding assignments places_of
assigned_places [] bs ws p = rw (← done_inj p) refl
assigned_places (blanks_item n ∷ xs) bs ws p = from_bind (cut 7 n bs) _ p λ r h k. assigned_places xs r.1 ws k
assigned_places (text_item t ∷ xs) bs ws p = from_bind (cut 7 (length t) bs) _ p λ r h k. assigned_places xs r.1 ws k
assigned_places (group_count n ∷ xs) bs ws p = from_bind (cut 7 1 bs) _ p λ r h k. assigned_places xs r.1 ws k
assigned_places (value_count n i ∷ xs) bs ws p = from_bind (cut 7 1 bs) _ p λ r h k. assigned_places xs r.1 ws k
assigned_places (value_item q g s bare ∷ xs) bs ws p =
    from_bind (first_value s bs) _ p λ r h k.
    from_bind (converted_bytes g q.field.format q.field.size r.0) _ k λ w h₂ k₂.
    from_bind (assignments xs r.1) _ k₂ λ vs h₃ k₃.
    rw (← done_inj k₃) (ap (◌∷◌ q) (assigned_places xs r.1 vs h₃))

-- So it is for the format of any call with a valid table that names no occurrence twice.
module _ (t : Bytes) (es : List Entry) (tabled : table t ≡ done es) (xs : List Element) (us : List Use) (meant : uses es [] xs ≡ done us) (once : named_twice us ≡ false)
    (bs : Bytes) (ws : List Assignment) (gives : assignments (items us) bs ≡ done ws) where
  pub places_once : repeats (map (λ a. a.place) ws) ≡ false
  places_once = ap repeats (assigned_places (items us) bs ws gives) ∙ sym (format_named_twice t es xs us tabled meant) ∙ once

  pub bare_numbers : (n i : ℕ) → bare_only (to_field ws n i) ≡ true → length (to_field ws n i) ≡ highest_value ws n i
  bare_numbers n i = bare_count es xs us meant bs ws gives n i

-- ---- the highest index named

grown : (g : Assignment → ℕ) (t : Assignment → Bool) (a : Assignment) (vs : List Assignment) → maximum (map g (filter t vs)) ≤ maximum (map g (filter t (a ∷ vs)))
unfolding filter maximum
grown g t a vs = by_test (t a) (λ u. rw (u, filter) (omega arith)) (λ u. rw (u, filter) (omega arith))

first_reached : (g : Assignment → ℕ) (t : Assignment → Bool) (a : Assignment) (vs : List Assignment) → t a ≡ true → g a ≤ maximum (map g (filter t (a ∷ vs)))
unfolding filter maximum
first_reached g t a vs u = rw (u, filter) (omega arith)

abbrev pub Reached : List Assignment → Assignment → Type 0
Reached ws a = (g : Assignment → ℕ) (t : Assignment → Bool) → t a ≡ true → g a ≤ maximum (map g (filter t ws))

pub all_reached : (ws : List Assignment) → All (Reached ws) ws
all_reached [] = tt
all_reached (a ∷ ws) = (
  (λ g t u. first_reached g t a ws u),
  all_map (Reached ws) (Reached (a ∷ ws)) (λ b h g t u. let x = h g t u in let y = grown g t a ws in omega arith) ws (all_reached ws),
)
