-- `taking::value::as_stored` meets its contract: at its field's own format and length, what is in normal form is given as it is.
use mathlib.Core.Path.{◌≡◌, sym, ◌∙◌, subst}
use mathlib.Core.Logic.{◌⊎◌}
use borrow.Author.Rules.{rules}
use denote.Enum.Bare.{same_true}
use Prim.Native.Nat.{◌≤◌}
use lib.ListN.{length}
use Rattle.rules.specs.Limits.{longest_alpha}
use Rattle.value_formats.specs.contracts.Format.{the_type}
use Rattle.values.proofs.Chosen.{own_length}
use Rattle.values.proofs.Normals.{any_allowed}
use Rattle.taking.proofs.Finding.{value_normal}
use Rattle.taking.proofs.value.as_stored.Goals as goal
use Rattle.taking.proofs.value.as_stored.Goals.{After-any_bytes}

own_long : (c : After-any_bytes) → let a = c.args in
    ((a.g.standard ≡ 0) × (length a.content.now ≤ longest_alpha)) ⊎ (a.g.standard ≡ length a.content.now)
own_long c =
    let n = length c.args.content.now in
    subst (λ m. ((m ≡ 0) × (n ≤ longest_alpha)) ⊎ (m ≡ n)) c.if-g.true.1 c.requires.1

pub is_normal-requires : goal.is_normal-requires
is_normal-requires c = (c.requires.0, own_long (goal.at.is_normal-requires c).After-any_bytes)

pub returns-then-any_bytes : goal.returns-then-any_bytes
returns-then-any_bytes c _ =
    let a = c.args in
    let n = any_allowed a.g.own a.g.standard c.requires.0 (sym c.any_bytes.ensures ∙ c.if-any_bytes.true) in
    value_normal a.g a.content.now (same_true the_type (search rules) _ _ (sym c.eq.ensures ∙ c.if-g.true.0)) c.if-g.true.1
    (n.1 a.content.now (λ i. (c.type_inv.content i).fits) (sym (own_length a.g.standard _ (own_long (goal.at.returns-then-any_bytes c).After-any_bytes) n.0)))

pub returns-else-any_bytes : goal.returns-else-any_bytes
returns-else-any_bytes c q =
    let a = c.args in
    value_normal a.g a.content.now (same_true the_type (search rules) _ _ (sym c.eq.ensures ∙ c.if-g.true.0)) c.if-g.true.1 (sym c.is_normal.ensures ∙ q)
