-- A history that is carried out by calls of the service that updates in place, `lyrecanyon_apply`: each call by its contract alone.
use Rattle.std.specs.Prelude.{◌≡◌, [], ◌∷◌, ℕ, length, take}
use Rattle.rules.specs.Lists.{Bytes}
use Rattle.histories.specs.History.{History, answer}
use Rattle.lyrecanyon.specs.Answers.{Applied}

-- From a slice with a record of some length at its front to another. A call's room is the slice.
abbrev pub CarriedOut : Bytes → Bytes → ℕ → History → Bytes → ℕ → Type 0
CarriedOut t first start [] stored used = (stored ≡ first) × (used ≡ start)
CarriedOut t first start (c ∷ earlier) stored used =
    (before : Bytes) × (length_before : ℕ) × (number : ℕ) × CarriedOut t first start earlier before length_before
    × (c.room ≡ length before) × Applied (answer t (take length_before before) c) before stored length_before used number
