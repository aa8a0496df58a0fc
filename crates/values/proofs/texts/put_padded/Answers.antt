-- `values::texts::put_padded` meets its contract: two writes, the second where the first ends.
use native.Mathlib.Omega.{arith}
use Rattle.buffer.proofs.Laws.{splice_chain}
use Rattle.values.proofs.texts.put_padded.Goals as goal

pub returns : goal.returns
returns c =
    let a = c.args in
    splice_chain a.at a.t.now _ a.out.now _ _ _ c.put-next.ensures.1 c.fill.ensures c.put-next.ensures.0 (omega arith)
