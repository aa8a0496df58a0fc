-- `taking::value::put_given` meets its contract: what its field stores is put as it stands, and what means something is converted.
use mathlib.Core.Path.{sym, ◌∙◌}
use Prim.Native.Nat.{◌-◌}
use lib.ListN.{length}
use Rattle.rules.specs.declared.Refusal.TheVariants.{BadValue}
use Rattle.filling.proofs.Singles.{value_refused}
use Rattle.taking.specs.Taking.{given_bytes}
use Rattle.taking.proofs.Finding.{value_bad}
use Rattle.taking.proofs.value.put_given.Goals as goal

pub returns : goal.returns
returns c =
    let a = c.args in
    value_refused (given_bytes a.g _) (length a.stage.now - a.to) a.to a.stage.now a.write BadValue (value_bad a.g _ (sym c.is_value.ensures ∙ c.if-is_value.false))
