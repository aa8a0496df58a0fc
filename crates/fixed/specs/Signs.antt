-- Integers as sign and magnitude, for the functions that compute with i32.
use Rattle.std.specs.Prelude.{Bool, true, false, ℕ, ◌+◌, ℤ, pos, negsuc, neg_ℤ}
use Rattle.rules.specs.Limits.{lowest_word, greatest_word}
use Rattle.fixed.specs.declared.Signed.{Signed}

abbrev pub signed_word : Bool → ℕ → Signed
signed_word below n = record { negative = below; magnitude = n }

abbrev pub sign_of : ℤ → Signed
sign_of (pos n) = signed_word false n
sign_of (negsuc n) = signed_word true (n + 1)

abbrev pub with_sign : Bool → ℕ → ℤ
with_sign true n = neg_ℤ (pos n)
with_sign false n = pos n

-- The greatest magnitude of a number below zero, and of one that is not.
abbrev pub greatest : Bool → ℕ
greatest true = lowest_word
greatest false = greatest_word
