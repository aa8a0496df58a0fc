-- Document 01, first paragraph: the EBCDIC characters.
use Rattle.std.specs.Prelude.{Bool, ◌&&◌, ◌||◌, ℕ, leb}

abbrev pub space : ℕ
space = 0x40

abbrev pub period : ℕ
period = 0x4B

abbrev pub open_parenthesis : ℕ
open_parenthesis = 0x4D

abbrev pub hyphen : ℕ
hyphen = 0x60

abbrev pub comma : ℕ
comma = 0x6B

abbrev pub close_parenthesis : ℕ
close_parenthesis = 0x5D

abbrev pub apostrophe : ℕ
apostrophe = 0x7D

-- The letters that stand for something: formats, counts (C), the last (N), blanks (X) and the E that begins no name with a digit.
abbrev pub letter_A : ℕ
letter_A = 0xC1

abbrev pub letter_B : ℕ
letter_B = 0xC2

abbrev pub letter_C : ℕ
letter_C = 0xC3

abbrev pub letter_E : ℕ
letter_E = 0xC5

abbrev pub letter_F : ℕ
letter_F = 0xC6

abbrev pub letter_G : ℕ
letter_G = 0xC7

abbrev pub letter_N : ℕ
letter_N = 0xD5

abbrev pub letter_P : ℕ
letter_P = 0xD7

abbrev pub letter_U : ℕ
letter_U = 0xE4

abbrev pub letter_W : ℕ
letter_W = 0xE6

abbrev pub letter_X : ℕ
letter_X = 0xE7

abbrev pub digit_0 : ℕ
digit_0 = 0xF0

-- "A to I C1 to C9, J to R D1 to D9, S to Z E2 to E9"
unfoldable pub letter : ℕ → Bool
letter b = (leb 0xC1 b && leb b 0xC9) || (leb 0xD1 b && leb b 0xD9) || (leb 0xE2 b && leb b 0xE9)

-- "digits F0 to F9"
unfoldable pub digit : ℕ → Bool
digit b = leb 0xF0 b && leb b 0xF9
