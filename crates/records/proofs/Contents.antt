-- The content of a stored value: what is first found at its place is its content, so long as its format allows.
use Rattle.std.specs.Prelude.{Err, Ok, Result}
use mathlib.Core.Path.{◌≡◌, sym, ◌∙◌}
use mathlib.Core.Bool.{true}
use Prim.Native.Nat.{ℕ, ◌-◌}
use native.Mathlib.Omega.{arith}
use lib.ListN.{length, take, drop, length-take, length-drop}
use Rattle.rules.specs.Outcome.{done}
use Rattle.rules.specs.Lists.{Bytes}
use Rattle.rules.specs.Values.{Format, allowed, first_value}
use Rattle.rules.specs.Record.{stored_value}
use Rattle.rules.specs.declared.Refusal.{Refusal}
use Rattle.rules.proofs.Steps.{from_done, not_done}
use Rattle.values.specs.Places.{Located}
use Rattle.values.proofs.Cuts.{first_content}
use Rattle.values.proofs.Converted.{content_allowed}
use Rattle.records.specs.Places.{ContentOf}
use Rattle.records.proofs.Cells.{value_first}
use Rattle.records.proofs.Normals.{first_at, first_none}

module _ (b : Bytes) (at size : ℕ) {first : (Result (ℕ × ℕ) Refusal)} (w : Located b at (first_value size (drop at b)) first) (f : Format) (v rest : Bytes)
    (h : allowed f size ≡ true) (p : stored_value f size (drop at b) ≡ done (v, rest)) where
  pub content_found : {from upto : ℕ} → first ≡ Ok (from, upto) → ContentOf f size b v from upto
  content_found {from} {upto} q =
      let x = first_at w q in
      let n : length (take (upto - from) (drop from b)) ≡ upto - from = omega (arith, length-take (upto - from) (drop from b), length-drop from b, x.1, x.2) in
      value_first f size (drop at b) p λ c e t a is s.
      from_done (sym e ∙ x.0) λ same left. record {
        ordered = x.1;
        inside = x.2;
        is = is ∙ same;
        long = content_allowed f size (upto - from) h (rw n at (first_content size (drop at b) _ _ x.0));
      }

  pub content_none : {x : Refusal} → first ≡ Err x → ⊥
  content_none q = value_first f size (drop at b) p λ c e t a is s. not_done (sym (first_none w q) ∙ e)
