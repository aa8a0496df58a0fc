-- Assignments to different places of a list, each as long as what the list has there, are together no longer than the list: what is counted
-- once is left out from then on.
use mathlib.Core.Path.{◌≡◌, refl, ◌∙◌, ap}
use mathlib.Core.Bool.{Bool, true, false}
use mathlib.Core.List.{List, [], ◌∷◌, ◌++◌, map}
use Prim.Native.Nat.{ℕ, ◌+◌, ◌≤◌}
use native.Mathlib.Omega.{arith}
use lib.ListN.{length, length-append}
use Rattle.rules.specs.Lists.{any, join}
use Rattle.rules.specs.Use.{Place}
use Rattle.rules.specs.Update.{Assignment, same_place}
use Rattle.rules.proofs.Steps.{by_test, not_both}
use Rattle.rules.proofs.Back.{All}
use Rattle.rules.proofs.Alls.{all_both}
use Rattle.rules.proofs.Places.{repeats}
use Rattle.rules.proofs.Assigned.{place_of, not_same, from_once}

-- A place is among some places.
abbrev pub found : List Place → Place → Bool
found qs p = any (λ q. same_place q p) qs

unfoldable pub sums : (Place → ℕ) → List Place → ℕ
sums v [] = 0
sums v (p ∷ ps) = v p + sums v ps

unfoldable pub total : List Assignment → ℕ
total [] = 0
total (a ∷ ws) = length a.bytes + total ws

pub total_bytes : (ws : List Assignment) → length (join (map (λ a. a.bytes) ws)) ≡ total ws
unfolding total join
total_bytes [] = refl
total_bytes (a ∷ ws) = length-append a.bytes (join (map (λ b. b.bytes) ws)) ∙ ap (λ n. length a.bytes + n) (total_bytes ws)

pub sums_append : (v : Place → ℕ) (ps qs : List Place) → sums v (ps ++ qs) ≡ sums v ps + sums v qs
unfolding sums
sums_append v [] qs = omega arith
sums_append v (p ∷ ps) qs = let h = sums_append v ps qs in omega arith

-- The same sizes, but 0 at one place.
unfoldable without : Place → (Place → ℕ) → Place → ℕ
without p v q = elim (same_place q p) [ true ↦ 0 | false ↦ v q ]

module _ (p : Place) (v : Place → ℕ) where
  without_there : (q : Place) → same_place q p ≡ true → without p v q ≡ 0
  unfolding without
  without_there q t = rw (t, without)

  without_else : (q : Place) → same_place q p ≡ false → without p v q ≡ v q
  unfolding without
  without_else q t = rw (t, without)

  without_less : (q : Place) → without p v q ≤ v q
  without_less q = by_test (same_place q p) (λ t. let h = without_there q t in omega arith) (λ t. let h = without_else q t in omega arith)

  less : (qs : List Place) → sums (without p v) qs ≤ sums v qs
  unfolding sums
  less [] = omega arith
  less (q ∷ qs) = let h = less qs in let g = without_less q in omega arith

  less_by : (n : ℕ) → ((q : Place) → same_place q p ≡ true → v q ≡ n) → (qs : List Place) → found qs p ≡ true → n + sums (without p v) qs ≤ sums v qs
  unfolding sums any
  less_by n s [] h = absurd (not_both h)
  less_by n s (q ∷ qs) h = by_test (same_place q p)
      (λ t. let a = s q t in let b = without_there q t in let c = less qs in omega arith)
      (λ t. let b = without_else q t in let c = less_by n s qs (rw t at h) in omega arith)

abbrev pub SizedAt : (Place → ℕ) → Assignment → Type 0
SizedAt v a = (q : Place) → same_place q a.place ≡ true → v q ≡ length a.bytes

-- Assignments to different places that are all there.
pub at_most : (qs : List Place) (vs : List Assignment) (v : Place → ℕ) → repeats (map place_of vs) ≡ false → All (λ a. found qs a.place ≡ true) vs
    → All (SizedAt v) vs → total vs ≤ sums v qs
unfolding total
at_most qs [] v h f s = omega arith
at_most qs (a ∷ vs) v h f s = from_once a vs h λ o r.
    let x = less_by a.place v (length a.bytes) s.0 qs f.0 in
    let y = at_most qs vs (without a.place v) r f.1 (all_both _ (SizedAt v) (SizedAt (without a.place v))
    (λ b d e q t. without_else a.place v q (not_same a.place b.place q d t) ∙ e q t) vs o s.1) in
    omega arith
