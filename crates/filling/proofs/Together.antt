-- Outcomes put together: one alone, and several that are all done, which are one run of bytes in its room.
use mathlib.Core.Path.{◌≡◌, refl, ◌∙◌, ap}
use mathlib.Core.List.{List, [], ◌∷◌, ◌++◌, map, append-nil}
use Prim.Native.Nat.{ℕ, zero, suc, ◌-◌, ◌≤◌, ◌<◌}
use native.Mathlib.Omega.{arith}
use borrow.Author.Tests.{leb-true, leb-false, le-leb, lt-leb}
use lib.Dec.{leb}
use lib.ListN.{length, replicate, length-append}
use Rattle.rules.specs.Outcome.{Outcome, done, refused}
use Rattle.rules.specs.Lists.{Bytes, join}
use Rattle.rules.proofs.Steps.{by_test}
use Rattle.filling.specs.Filling.{in_room, together}

pub together_one : (room : ℕ) (o : Outcome Bytes) → together room (o ∷ []) ≡ in_room room o
unfolding together in_room
together_one room (done b) = by_test (leb (length b) room) (λ t. rw (t, append-nil)) (λ t. rw t)
together_one room (refused k) = refl

pub together_done : (us : List Bytes) (room : ℕ) → together room (map done us) ≡ in_room room (done (join us))
unfolding together in_room join
together_done [] room = rw (le-leb 0 room (omega arith)) refl
together_done (u ∷ us) room = by_test (leb (length u) room)
    (λ t. let h = leb-true (length u) room t in by_test (leb (length (join us)) (room - length u))
    (λ t₂. let h₂ = leb-true (length (join us)) (room - length u) t₂ in
    let l : length (u ++ join us) ≤ room = rw length-append (omega arith) in
    rw (t, together_done us (room - length u), t₂, le-leb (length (u ++ join us)) room l) refl)
    (λ t₂. let h₂ = leb-false (length (join us)) (room - length u) t₂ in
    let l : room < length (u ++ join us) = rw length-append (omega arith) in
    rw (t, together_done us (room - length u), t₂, lt-leb (length (u ++ join us)) room l) refl))
    (λ t. let h = leb-false (length u) room t in
    let l : room < length (u ++ join us) = rw length-append (omega arith) in
    rw (t, lt-leb (length (u ++ join us)) room l) refl)

copies_done : (n : ℕ) (x : Bytes) → replicate n (done x) ≡ map done (replicate n x)
copies_done zero x = refl
copies_done (suc n) x = ap (λ (os : List (Outcome Bytes)). done x ∷ os) (copies_done n x)

pub together_copies : (n : ℕ) (x : Bytes) (room : ℕ) → together room (replicate n (done x)) ≡ in_room room (done (join (replicate n x)))
together_copies n x room = ap (together room) (copies_done n x) ∙ together_done (replicate n x) room
