-- `values::texts::put_counted` meets its contract: two writes, the second where the first ends.
use Prim.Native.Nat.{◌+◌}
use native.Mathlib.Numerals.{add-one}
use native.Mathlib.Omega.{arith}
use mathlib.Core.List.{[], ◌∷◌}
use mathlib.Core.Path.{refl, ap, ◌∙◌}
use lib.ListN.{length}
use Rattle.buffer.specs.Splice.{splice}
use Rattle.buffer.proofs.Laws.{set_splice, splice_chain}
use Rattle.values.proofs.texts.put_counted.Goals as goal

pub returns : goal.returns
returns c =
    let a = c.args in
    let v = length a.t.now + 1 in
    splice_chain a.at (v ∷ []) a.t.now a.out.now _ _ _ (set_splice a.out.now a.at v (omega arith)) c.put.ensures.1 refl (omega arith)
    ∙ ap (λ n. splice a.at (n ∷ a.t.now) a.out.now) (add-one (length a.t.now))
