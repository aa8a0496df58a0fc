-- `hexadecimal::places` meets its contract: a number has one place more than its logarithm.
use mathlib.Core.Path.{◌∙◌, ap}
use Prim.Native.Nat.{◌+◌}
use native.Mathlib.Omega.{arith}
use Rattle.hexadecimal.proofs.Numbers.{places_counted, places_most}
use Rattle.hexadecimal.proofs.places.Goals as goal

pub returns : goal.returns
returns c =
    let log = c.checked_ilog10.ensures in
    let count = ap (λ k. k + 1) c.unwrap_or.ensures ∙ places_counted c.args.n c.checked_ilog10.result c.requires log.none log.power_le log.next_power_gt in
    record { count = count; most = omega (arith, count, places_most c.args.n) }
