-- Items are filled as their bytes are put together, so that what holds of outcomes holds of them.
use Rattle.std.specs.Prelude.{Ok, Result}
use mathlib.Core.Path.{◌≡◌, refl, sym, ◌∙◌, ap}
use mathlib.Core.Bool.{Bool}
use mathlib.Core.List.{List, [], ◌∷◌, ◌++◌, map, map-append}
use Prim.Native.Nat.{ℕ, ◌+◌, ◌-◌, ◌≤◌}
use native.Mathlib.Omega.{arith}
use lib.ListN.{length}
use Rattle.rules.specs.Outcome.{done, refused}
use Rattle.rules.specs.Outcome as outcome
use Rattle.rules.specs.declared.Refusal.{Refusal}
use Rattle.rules.specs.Lists.{Bytes}
use Rattle.rules.specs.Table.{Part}
use Rattle.rules.specs.Record.{Record}
use Rattle.rules.specs.Use.{Item}
use Rattle.rules.specs.Services.{item_bytes, filled}
use Rattle.filling.specs.Filling.{left_as, together, Filling}
use Rattle.filling.proofs.Continues.{outcome_before, together_length, append_on, append_off, put_on}

pub filled_together : (ps : List Part) (r : Record) (xs : List Item) (room : ℕ) → filled ps r room xs ≡ together room (map (item_bytes ps r) xs)
unfolding filled together
filled_together ps r [] room = refl
filled_together ps r (x ∷ xs) room = simp (filled_together ps r xs)

module _ (ps : List Part) (r : Record) where
  pub filled_length : (room : ℕ) (xs : List Item) (bs : Bytes) → filled ps r room xs ≡ done bs → length bs ≤ room
  filled_length room xs bs p = together_length room (map (item_bytes ps r) xs) bs (sym (filled_together ps r xs room) ∙ p)

  filled_parted : (room : ℕ) (xs ys : List Item) → filled ps r room (xs ++ ys) ≡ together room (map (item_bytes ps r) xs ++ map (item_bytes ps r) ys)
  filled_parted room xs ys = filled_together ps r (xs ++ ys) room ∙ ap (together room) (map-append (item_bytes ps r) xs ys)

  pub filled_on : (room : ℕ) (xs ys : List Item) (a : Bytes) → filled ps r room xs ≡ done a
      → filled ps r room (xs ++ ys) ≡ outcome_before a (filled ps r (room - length a) ys)
  filled_on room xs ys a p =
      filled_parted room xs ys ∙ append_on room _ _ a (sym (filled_together ps r xs room) ∙ p) ∙ ap (outcome_before a) (sym (filled_together ps r ys (room - length a)))

  pub filled_off : (room : ℕ) (xs ys : List Item) (k : outcome.Refusal) → filled ps r room xs ≡ refused k → filled ps r room (xs ++ ys) ≡ refused k
  filled_off room xs ys k p = filled_parted room xs ys ∙ append_off room _ _ k (sym (filled_together ps r xs room) ∙ p)

pub items_on : (ps : List Part) (r : Record) (end : ℕ) (xs : List Item) {at : ℕ} {write : Bool} {out out' : Bytes} {n : (Result ℕ Refusal)}
    → Filling (filled ps r (end - at) xs) at write out out' n → {C : Type 0} → at ≤ end → (at' : ℕ) → n ≡ Ok at'
    → ((a : Bytes) → filled ps r (end - at) xs ≡ done a → at + length a ≡ at' → at' ≤ end → out' ≡ left_as write at (done a) out → C) → C
items_on ps r end xs {at} f fits at' q k = put_on f at' q λ a h e b. let l = filled_length ps r (end - at) xs a h in k a h e (omega arith) b
