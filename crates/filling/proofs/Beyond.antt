-- A refusal of another variant than BeyondBuffer has another number than 7.
use mathlib.Core.Path.{◌≡◌, refl}
use native.Mathlib.Omega.{arith}
use Rattle.rules.specs.Numbers.{refusal_number}
use Rattle.rules.specs.declared.Refusal.{Refusal}
use Rattle.rules.specs.declared.Refusal.TheVariants.{BadTable, BadRecord, BadSyntax, UnknownName, UseRule, NamedTwice, BeyondBuffer, BadValue, OutOfRange, NoRoom}

pub not_beyond : (x : Refusal) → (x ≡ BeyondBuffer → ⊥) → refusal_number x ≡ 7 → ⊥
not_beyond BadTable k e = omega (arith, e)
not_beyond BadRecord k e = omega (arith, e)
not_beyond BadSyntax k e = omega (arith, e)
not_beyond UnknownName k e = omega (arith, e)
not_beyond UseRule k e = omega (arith, e)
not_beyond NamedTwice k e = omega (arith, e)
not_beyond BeyondBuffer k e = k refl
not_beyond BadValue k e = omega (arith, e)
not_beyond (OutOfRange n) k e = omega (arith, e)
not_beyond NoRoom k e = omega (arith, e)
