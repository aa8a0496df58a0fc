-- Items in more room: what is done stays done, and what is refused is refused with the same number, unless it was for want of room.
use mathlib.Core.Path.{◌≡◌, sym, ◌∙◌, ap}
use mathlib.Core.List.{List, [], ◌∷◌}
use Prim.Native.Nat.{ℕ, ◌-◌, ◌≤◌}
use native.Mathlib.Omega.{arith}
use borrow.Author.Tests.{le-leb}
use lib.Dec.{leb, leb→le}
use lib.ListN.{length}
use Rattle.rules.specs.Outcome.{Refusal, done, refused}
use Rattle.rules.specs.Lists.{Bytes}
use Rattle.rules.specs.Table.{Part}
use Rattle.rules.specs.Record.{Record}
use Rattle.rules.specs.Use.{Item}
use Rattle.rules.specs.Services.{item_bytes, filled}
use Rattle.rules.proofs.Steps.{from_bind, from_need, refused_inj, not_done, by_test, by_outcome, true_T}

module _ (ps : List Part) (r : Record) where
  pub more_room : (room room' : ℕ) (xs : List Item) (bs : Bytes) → room ≤ room' → filled ps r room xs ≡ done bs → filled ps r room' xs ≡ done bs
  unfolding filled
  more_room room room' [] bs l p = p
  more_room room room' (x ∷ xs) bs l p =
      from_bind (item_bytes ps r x) _ p λ b h k.
      from_need (leb (length b) room) 7 _ k λ t k₂.
      from_bind (filled ps r (room - length b) xs) _ k₂ λ cs h₃ k₃.
      let m = leb→le (length b) room t in
      rw (h, le-leb (length b) room' (omega arith), more_room (room - length b) (room' - length b) xs cs (omega arith) h₃) k₃

  pub more_room_refused : (room room' : ℕ) (xs : List Item) (n : Refusal) → room ≤ room' → (n.number ≡ 7 → ⊥) → filled ps r room xs ≡ refused n → filled ps r room' xs ≡ refused n
  unfolding filled
  more_room_refused room room' [] n l z p = absurd (not_done (sym p))
  more_room_refused room room' (x ∷ xs) n l z p = by_outcome (item_bytes ps r x)
      (λ b h. by_test (leb (length b) room)
      (λ t. by_outcome (filled ps r (room - length b) xs)
      (λ cs h₃. absurd (not_done (sym (rw (h, t, h₃) at p))))
      (λ k h₃.
      let m = leb→le (length b) room (true_T t) in
      let e = refused_inj (rw (h, t, h₃) at p) in
      let g = more_room_refused (room - length b) (room' - length b) xs n (omega arith) z (h₃ ∙ ap refused e) in
      rw (h, le-leb (length b) room' (omega arith), g)))
      (λ t. absurd (z (ap (λ (y : Refusal). y.number) (sym (refused_inj (rw (h, t) at p)))))))
      (λ k h. rw h (rw h at p))
