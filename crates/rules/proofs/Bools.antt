-- Laws of Booleans alone, each by its cases.
use mathlib.Core.Path.{◌≡◌, refl, sym}
use mathlib.Core.Bool.{Bool, true, false, not, ◌&&◌, ◌||◌, false≢true, beq}
use lib.Dec.{T}

pub beq_true : (a b : Bool) → beq a b ≡ true → a ≡ b
beq_true true true e = refl
beq_true true false e = absurd (false≢true e)
beq_true false true e = absurd (false≢true e)
beq_true false false e = refl

pub beq_false : (a b : Bool) → beq a b ≡ false → a ≡ not b
beq_false true true e = absurd (false≢true (sym e))
beq_false true false e = refl
beq_false false true e = refl
beq_false false false e = absurd (false≢true (sym e))

pub and_both : (a b : Bool) → (a && b) ≡ true → (a ≡ true) × (b ≡ true)
and_both true b e = (refl, e)
and_both false b e = absurd (false≢true e)

pub and_four : (a b c d : Bool) → (a && b && c && d) ≡ true → (a ≡ true) × (b ≡ true) × (c ≡ true) × (d ≡ true)
and_four a b c d e =
    let x = and_both (a && b && c) d e in
    let y = and_both (a && b) c x.0 in
    let z = and_both a b y.0 in
    (z.0, z.1, y.1, x.1)

pub and_regrouped : (a b c d : Bool) → (a && (b && c) && d) ≡ (a && b && (c && d))
and_regrouped true true c d = refl
and_regrouped true false c d = refl
and_regrouped false b c d = refl

-- Two pairs of tests and one more, taken crosswise.
pub and_crossed : (a b c d e : Bool) → (a && b && (c && d && e)) ≡ (a && c && (b && (d && e)))
and_crossed true true true d e = refl
and_crossed true true false d e = refl
and_crossed true false true d e = refl
and_crossed true false false d e = refl
and_crossed false b c d e = refl

pub or_crossed : (a b c d : Bool) → ((a || b) || (c || d)) ≡ ((a || c) || (b || d))
or_crossed true b c d = refl
or_crossed false true true d = refl
or_crossed false true false d = refl
or_crossed false false c d = refl

pub or_left : (a b : Bool) → T a → T (a || b)
or_left true b t = tt
or_left false b t = absurd t

pub or_right : (a b : Bool) → T b → T (a || b)
or_right true b t = tt
or_right false b t = t

pub both_ways : (a b : Bool) → (T a → T b) → (T b → T a) → a ≡ b
both_ways true true f g = refl
both_ways true false f g = absurd (f tt)
both_ways false true f g = absurd (g tt)
both_ways false false f g = refl

pub and_off : (a : Bool) {b : Bool} → b ≡ false → (a && b) ≡ false
and_off true e = e
and_off false e = refl
