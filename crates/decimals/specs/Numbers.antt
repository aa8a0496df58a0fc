-- What is known of a number that was read from digits, up to where it is too great.
use Rattle.std.specs.Prelude.{Bool, ◌≡◌, ℕ, ◌≤◌}
use Rattle.rules.specs.Limits.{lowest_word}
use Rattle.rules.specs.Lists.{Bytes}
use Rattle.decimals.specs.Decimals.{magnitude_of}

-- A number that is the magnitude, unless it is greater than any in a conversion range: then the magnitude is no less.
pub record Reckoned (p : Bool) (bs : Bytes) (x : ℕ) : Type 0 where
  pub reached : x ≤ magnitude_of p bs
  pub exact : x ≤ lowest_word → x ≡ magnitude_of p bs
