use mathlib.Core.Path.{sym, ◌∙◌}
use Prim.Native.Nat.{◌+◌, ◌≤◌}
use native.Mathlib.Nat.{mul-le-mul_right}
use native.Mathlib.Omega.{arith}
use lib.ListN.{drop}
use lib.Seq.{get_or-drop}
use Rattle.rules.specs.Limits.{greatest_count}
use Rattle.rules.specs.Record.{stored_value}
use Rattle.tables.specs.Entries.{format_at}
use Rattle.values.proofs.Normals.{any_allowed}
use Rattle.values.proofs.Numbered.{longest_size}
use Rattle.records.proofs.Walks.{walked_as}
use Rattle.records.proofs.Normals.{values_cut}
use Rattle.records.proofs.Turns.{repeating, repeat_on, repeat_off, repeated}
use Rattle.records.proofs.walk.values_end.Goals as goal

pub overflow_mul-n : goal.overflow_mul-n
overflow_mul-n c =
    let a = c.args in
    let most : a.n ≤ greatest_count = omega (arith, c.if-n-le-GREATEST_COUNT.true) in
    omega (arith, mul-le-mul_right a.size most, longest_size a.format a.size c.requires.1)

pub returns-then-any_bytes : goal.returns-then-any_bytes
returns-then-any_bytes c =
    let a = c.args in
    let any = any_allowed a.format a.size c.requires.1 (sym c.any_bytes.ensures ∙ c.if-any_bytes.true) in
    walked_as (values_cut (format_at a.format) a.size any a.n (drop a.at a.b.now) (λ i. rw (get_or-drop a.at a.b.now i 0) (omega (arith, c.type_inv.b (a.at + i))))) c.bytes_end.ensures

pub loop-i-init : goal.loop-i-init
loop-i-init c = let a = c.args in repeating (stored_value (format_at a.format) a.size) a.b.now a.n a.at c.requires.0

pub returns-in_err-p : goal.returns-in_err-p
returns-in_err-p c = rw c.from_residual.ensures (repeat_off c.loop-i.invariant c.loop-i-test.true c.value_end.ensures c.in_err-p.was)

pub loop-i-preserved : goal.loop-i-preserved
loop-i-preserved c = repeat_on c.loop-i.invariant c.loop-i-test.true c.value_end.ensures c.in_ok-p.was

pub returns : goal.returns
returns c = repeated c.loop-i.invariant c.loop-i-test.false
