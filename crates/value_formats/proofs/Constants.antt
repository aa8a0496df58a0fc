-- The constant tables are document 01's: the lengths of each format, and which formats convert.
use mathlib.Core.Path.{◌≡◌, refl, ap}
use mathlib.Core.Bool.{Bool, true, false, not, ◌&&◌, ◌||◌}
use mathlib.Core.List.{List, [], ◌∷◌}
use Prim.Native.Nat.{ℕ, zero, suc}
use native.Mathlib.Omega.{arith}
use denote.Enum.Bare.{sameb}
use denote.Enum.Declared.{tag_of}
use lib.Dec.{eqb, leb, leb-zero}
use lib.ListN.{get_or}
use borrow.Author.Tests.{ne_eqb, le-leb, lt-leb}
use Rattle.std.proofs.lemmas.Bool.Decides.{nat_tests}
use Rattle.rules.specs.Limits.{longest_alpha, longest_binary, longest_packed, longest_unpacked}
use Rattle.rules.specs.Values.{allowed, conversion}
use Rattle.rules.specs.Values as Rules
use Rattle.value_formats.specs.Formats.{format_at, kind_of}
use Rattle.value_formats.specs.contracts.Format.{the_type}
use Rattle.value_formats.specs.declared.Format.{Format}
use Rattle.value_formats.specs.declared.Format.TheVariants.{Alpha, Binary, Fixed, Packed, Unpacked}
use Rattle.value_formats.specs.declared.Kind.{Kind}
use Rattle.value_formats.specs.declared.Kind.TheVariants.{Never, Every, Word, Natural}

abbrev pub least : List ℕ
least = 0 ∷ 1 ∷ 2 ∷ 1 ∷ 1 ∷ []

abbrev pub greatest : List ℕ
greatest = longest_alpha ∷ longest_binary ∷ 4 ∷ longest_packed ∷ longest_unpacked ∷ []

pub longest_at : (f : Format) → get_or greatest (tag_of the_type f) 0 ≡ Rules.longest (format_at f)
unfolding format_at
longest_at Alpha = refl
longest_at Binary = refl
longest_at Fixed = refl
longest_at Packed = refl
longest_at Unpacked = refl

and_true : (a : Bool) → a ≡ (a && true)
and_true true = refl
and_true false = refl

two_or_four : (n : ℕ) → (eqb n 2 || eqb n 4) ≡ (leb 2 n && (leb n 4 && not (eqb n 3)))
two_or_four zero = refl
two_or_four (suc zero) = refl
two_or_four (suc (suc zero)) = refl
two_or_four (suc (suc (suc zero))) = refl
two_or_four (suc (suc (suc (suc zero)))) = refl
two_or_four (suc (suc (suc (suc (suc m))))) =
    let n = suc (suc (suc (suc (suc m)))) in
    rw (ne_eqb n 2 (λ e. omega arith), ne_eqb n 4 (λ e. omega arith), le-leb 2 n (omega arith), lt-leb n 4 (omega arith))

-- Within the two lengths of its format; F has 2 and 4 alone.
pub allowed_is : (f : Format) (n : ℕ) → allowed (format_at f) n ≡ (leb (get_or least (tag_of the_type f) 0) n && (leb n (get_or greatest (tag_of the_type f) 0) && (not (sameb the_type f Fixed) || not (eqb n 3))))
unfolding allowed format_at
allowed_is Alpha n = rw (leb-zero n) (and_true (leb n longest_alpha))
allowed_is Binary n = ap (λ b. leb 1 n && b) (and_true (leb n longest_binary))
allowed_is Fixed n = two_or_four n
allowed_is Packed n = ap (λ b. leb 1 n && b) (and_true (leb n longest_packed))
allowed_is Unpacked n = ap (λ b. leb 1 n && b) (and_true (leb n longest_unpacked))

-- What tells the function whether a length is one of a format's.
pub ruleset allowing = (nat_tests, allowed_is)

abbrev table : List (List Kind)
table =
    (Every ∷ Never ∷ Never ∷ Never ∷ Never ∷ [])
    ∷ (Never ∷ Every ∷ Natural ∷ Natural ∷ Natural ∷ [])
    ∷ (Never ∷ Natural ∷ Every ∷ Word ∷ Word ∷ [])
    ∷ (Never ∷ Natural ∷ Word ∷ Every ∷ Every ∷ [])
    ∷ (Never ∷ Natural ∷ Word ∷ Every ∷ Every ∷ [])
    ∷ []

pub converts_at : (f g : Format) → kind_of (get_or (get_or table (tag_of the_type f) []) (tag_of the_type g) Never) ≡ conversion (format_at f) (format_at g)
unfolding conversion format_at
converts_at Alpha Alpha = refl
converts_at Alpha Binary = refl
converts_at Alpha Fixed = refl
converts_at Alpha Packed = refl
converts_at Alpha Unpacked = refl
converts_at Binary Alpha = refl
converts_at Binary Binary = refl
converts_at Binary Fixed = refl
converts_at Binary Packed = refl
converts_at Binary Unpacked = refl
converts_at Fixed Alpha = refl
converts_at Fixed Binary = refl
converts_at Fixed Fixed = refl
converts_at Fixed Packed = refl
converts_at Fixed Unpacked = refl
converts_at Packed Alpha = refl
converts_at Packed Binary = refl
converts_at Packed Fixed = refl
converts_at Packed Packed = refl
converts_at Packed Unpacked = refl
converts_at Unpacked Alpha = refl
converts_at Unpacked Binary = refl
converts_at Unpacked Fixed = refl
converts_at Unpacked Packed = refl
converts_at Unpacked Unpacked = refl
