-- `binaries::convert_binary` meets its contract: the last bytes, or all of them after zeros.
use mathlib.Core.Path.{ap, sym, ◌∙◌}
use native.Mathlib.Omega.{arith}
use Prim.Native.Nat.{ℕ, ◌-◌}
use lib.ListN.{length, drop, replicate, length-drop, length-replicate}
use lib.Seq.{take_all}
use Rattle.buffer.specs.Splice.{splice}
use Rattle.buffer.proofs.Laws.{splice_chain}
use Rattle.binaries.proofs.Binary.{last_bytes, padded_bytes}
use Rattle.binaries.proofs.convert_binary.Goals as goal

pub returns-then-n-len : goal.returns-then-n-len
returns-then-n-len c =
    let s = c.args.s.now in
    let n = c.args.n in
    c.put.ensures.1
    ∙ ap (λ b. splice c.args.at b c.args.out.now)
    (take_all (length s - (length s - n)) (drop (length s - n) s) (rw length-drop (omega arith)) ∙ sym (last_bytes s n (λ i. (c.type_inv.s i).fits) c.requires.0 (omega arith)))

pub returns-else-n-len : goal.returns-else-n-len
returns-else-n-len c =
    let a = c.args in
    let l = length-replicate {A = ℕ} (a.n - length a.s.now) 0 in
    splice_chain a.at (replicate (a.n - length a.s.now) 0) a.s.now a.out.now _ _ _ c.fill.ensures c.put-else-n-len.ensures.1 (omega arith) (omega arith)
    ∙ ap (λ b. splice a.at b a.out.now) (sym (padded_bytes a.s.now a.n (λ i. (c.type_inv.s i).fits) c.requires.0 (omega arith)))
