-- Text of one line: digits, byte strings as pairs of hexadecimal digits and numbers in decimal. The characters are ASCII.
use Rattle.std.specs.Prelude.{Bool, cond, ◌&&◌, [], ◌∷◌, map, ℕ, ◌+◌, ◌*◌, ◌-◌, ◌/◌, ◌%◌, eqb, leb, ltb, length}
use Rattle.std.proofs.Math.Option.{Option, none, some}
use Rattle.rules.specs.Lists.{Bytes, all, same, spelled, digits}

abbrev pub between : ℕ → ℕ → ℕ → Bool
between low high c = leb low c && leb c high

-- What a digit stands for, letters in either case; 16 for any other character.
unfoldable pub value : ℕ → ℕ
value c = cond (between 48 57 c) (c - 48) (cond (between 65 70 c) (c - 55) (cond (between 97 102 c) (c - 87) 16))

-- The digit that stands for a number below 16, in lower case.
unfoldable pub glyph : ℕ → ℕ
glyph d = cond (ltb d 10) (48 + d) (87 + d)

-- Only digits of a base that is 16 at most.
abbrev pub all_of_base : ℕ → Bytes → Bool
all_of_base base = all (λ c. ltb (value c) base)

-- The word for the empty byte string.
abbrev pub empty_word : Bytes
empty_word = 45 ∷ []

-- A byte for each pair of digits.
unfoldable pub paired : Bytes → Bytes
paired [] = []
paired (h ∷ []) = []
paired (h ∷ l ∷ w) = (16 * value h + value l) ∷ paired w

-- Two digits for each byte.
unfoldable pub parted : Bytes → Bytes
parted [] = []
parted (b ∷ bs) = glyph (b / 16) ∷ glyph (b % 16) ∷ parted bs

unfoldable pub is_paired : Bytes → Bool
is_paired w = leb 2 (length w) && (eqb (length w % 2) 0 && all_of_base 16 w)

-- The bytes that a word spells, if it spells any byte string.
unfoldable pub spelled_bytes : Bytes → Option Bytes
spelled_bytes w = cond (same w empty_word) (some []) (cond (is_paired w) (some (paired w)) none)

-- The word that spells the bytes.
unfoldable pub spelling : Bytes → Bytes
spelling [] = empty_word
spelling (b ∷ bs) = parted (b ∷ bs)

-- The number that one to six decimal digits spell.
unfoldable pub is_number : Bytes → Bool
is_number w = between 1 6 (length w) && all_of_base 10 w

abbrev pub spelled_number : Bytes → ℕ
spelled_number w = spelled 10 (map value w) 0

unfoldable pub number : Bytes → Option ℕ
number w = cond (is_number w) (some (spelled_number w)) none

-- How many digits a number below a million has, and those digits.
unfoldable pub decimal_places : ℕ → ℕ
decimal_places n = cond (ltb n 10) 1 (cond (ltb n 100) 2 (cond (ltb n 1000) 3 (cond (ltb n 10000) 4 (cond (ltb n 100000) 5 6))))

unfoldable pub decimal_word : ℕ → Bytes
decimal_word n = map glyph (digits 10 (decimal_places n) n)
