-- Several nulls: their bytes are not too many to be counted, and none have none.
use mathlib.Core.Path.{◌≡◌, refl, ap}
use mathlib.Core.Bool.{true}
use mathlib.Core.List.{[]}
use Prim.Native.Nat.{ℕ, ◌*◌, ◌≤◌}
use native.Mathlib.Nat.{mul-le-mul}
use native.Mathlib.Omega.{arith}
use borrow.Author.Tests.{eqb-true, eqb-false}
use lib.Dec.{eqb}
use lib.ListN.{length, replicate}
use Rattle.rules.specs.Limits.{highest_index, longest_alpha}
use Rattle.rules.specs.Lists.{Bytes, join}
use Rattle.rules.specs.Values.{allowed, null}
use Rattle.rules.proofs.Steps.{by_test}
use Rattle.value_formats.specs.Formats.{format_at}
use Rattle.value_formats.specs.declared.Format.{Format}
use Rattle.values.proofs.Numbered.{longest_size}
use Rattle.values.proofs.Nulls.{null_0, null_size, length_copies}

pub nulls_few : (n : ℕ) (f : Format) (size : ℕ) → n ≤ highest_index → allowed (format_at f) size ≡ true → n * length (null (format_at f) size) ≤ highest_index * longest_alpha
nulls_few n f size h a = mul-le-mul {n₁ = n} {m₁ = length (null (format_at f) size)} {n₂ = highest_index} {m₂ = longest_alpha} h (by_test (eqb size 0)
    (λ z. omega (arith, ap length (null_0 f size (eqb-true size 0 z) a)))
    (λ z. omega (arith, null_size f size (eqb-false size 0 z), longest_size f size a)))

pub no_nulls : (n : ℕ) (x : Bytes) → n ≡ 0 → join (replicate n x) ≡ []
unfolding join
no_nulls n x e = rw e refl

-- What the function cites besides what it says of its room.
pub ruleset by_nulls = (nulls_few, no_nulls, length_copies)
