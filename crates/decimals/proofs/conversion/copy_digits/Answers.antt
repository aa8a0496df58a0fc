-- `decimals::conversion::copy_digits` meets its contract: the last bytes before the last, or zeros and then all of them.
use mathlib.Core.Path.{ap, sym, ◌∙◌}
use Prim.Native.Nat.{ℕ, ◌-◌}
use native.Mathlib.Omega.{arith}
use lib.ListN.{length, take, replicate, length-replicate}
use lib.Seq.{length-take-le}
use Rattle.buffer.specs.Splice.{splice}
use Rattle.buffer.proofs.Laws.{splice_chain}
use Rattle.decimals.specs.Decimals.{inner_written}
use Rattle.decimals.proofs.Sound.{Sound, sound}
use Rattle.decimals.proofs.Converted.{copied_last, copied_all}
use Rattle.decimals.proofs.conversion.copy_digits.Goals as goal
use Rattle.decimals.proofs.conversion.copy_digits.Goals.{Start}

-- What holds of the value s, and the start as it is seen after the zeros.
value : (a : Start) → Sound a.args.packed a.args.s.now
value a = sound a.args.packed a.args.s.now a.requires.0

pub slice_bounds-put-count-else-n-len : goal.slice_bounds-put-count-else-n-len
slice_bounds-put-count-else-n-len c = (value (goal.at.slice_bounds-put-count-else-n-len c).Start).some

pub slice_bounds-put-length-else-n-len : goal.slice_bounds-put-length-else-n-len
slice_bounds-put-length-else-n-len c = sym (length-take-le (length c.args.s.now - 1) c.args.s.now (omega arith))

pub put-requires-else-n-len : goal.put-requires-else-n-len
put-requires-else-n-len c =
    let l = length-take-le (length c.args.s.now - 1) c.args.s.now (omega arith) in
    omega (arith, l, (value (goal.at.put-requires-else-n-len c).Start).some, c.fill.auto.out, c.requires.2, c.if-n-len.false)

pub returns-then-n-len : goal.returns-then-n-len
returns-then-n-len c =
    c.put.ensures.1
    ∙ ap (λ b. splice c.args.at b c.args.out.now) (copied_last (value (goal.at.returns-then-n-len c).Start) c.args.n c.requires.1 c.if-n-len.true)

pub returns-else-n-len : goal.returns-else-n-len
returns-else-n-len c =
    let z = inner_written c.args.packed 0 in
    let l = length-replicate {A = ℕ} (c.args.n - length c.args.s.now) z in
    splice_chain c.args.at (replicate (c.args.n - length c.args.s.now) z) (take (length c.args.s.now - 1) c.args.s.now) c.args.out.now _ _ _ (rw c.zero_byte.ensures at c.fill.ensures) c.put-else-n-len.ensures.1 (omega arith) (omega (arith, l, c.if-n-len.false, c.requires.2))
    ∙ ap (λ b. splice c.args.at b c.args.out.now) (copied_all (value (goal.at.returns-else-n-len c).Start) c.args.n c.if-n-len.false)
