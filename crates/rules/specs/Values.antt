-- Document 01, "Values": the five formats, what a value means, its normal form, null, and the conversions; the accepted signs are those of
-- document 02, M-101, and how long a value is that is not held is said by M-103.
use Rattle.std.specs.Prelude.{Bool, true, false, ◌&&◌, ◌||◌, List, [], ◌∷◌, ◌++◌, map, ℕ, zero, suc, ◌+◌, ◌-◌, ◌*◌, ◌/◌, ◌%◌, ◌^◌, eqb, leb, ltb, length, replicate, drop}
use Rattle.rules.specs.Outcome.{Outcome, done, refused, by, ◌>>=◌, need, needing, is_done}
use Rattle.rules.specs.Limits.{longest_alpha, longest_binary, longest_packed, longest_unpacked, lowest_word, greatest_word}
use Rattle.rules.specs.Characters.{space}
use Rattle.rules.specs.Lists.{Bytes, bytes_of, same, all, cut, spelled, digits, but_last, last}

-- A, B, F, P, U
pub data Format : Type 0 where
  alpha binary fixed packed unpacked : Format

-- Column "Lengths": which lengths a format allows.
unfoldable pub allowed : Format → ℕ → Bool
allowed alpha n = leb n longest_alpha
allowed binary n = leb 1 n && leb n longest_binary
allowed fixed n = eqb n 2 || eqb n 4
allowed packed n = leb 1 n && leb n longest_packed
allowed unpacked n = leb 1 n && leb n longest_unpacked

-- The longest of them.
abbrev pub longest : Format → ℕ
longest alpha = longest_alpha
longest binary = longest_binary
longest fixed = 4
longest packed = longest_packed
longest unpacked = longest_unpacked

-- What a value means: a text without trailing blanks, or a number: whether it is below zero, and its magnitude. Zero is never below zero.
pub data Value : Type 0 where
  text : Bytes → Value
  number : Bool → ℕ → Value

-- "zero with D means zero", and so does zero with B.
unfoldable pub signed : Bool → ℕ → Value
signed below n = number (below && ltb 0 n) n

-- Format A: "bytes without trailing blanks"
unfoldable pub strip : Bytes → Bytes
strip [] = []
strip (b ∷ bs) = elim (strip bs) [
  | [] ↦ elim (eqb b space) [ true ↦ [] | false ↦ b ∷ [] ]
  | x ∷ xs ↦ b ∷ x ∷ xs
]

-- The high and low halves of bytes, and bytes from halves.
unfoldable pub halves : Bytes → List ℕ
halves [] = []
halves (b ∷ bs) = b / 16 ∷ b % 16 ∷ halves bs

unfoldable pub pairs : List ℕ → Bytes
pairs [] = []
pairs (h ∷ []) = []
pairs (h ∷ l ∷ bs) = (h * 16 + l) ∷ pairs bs

-- Document 02, M-101: "A, C, E and F as plus, B and D as minus, for P and U. Incoming values accept the full list".
unfoldable pub accepted_plus : ℕ → Bool
accepted_plus s = eqb s 0xA || eqb s 0xC || eqb s 0xE || eqb s 0xF

unfoldable pub accepted_minus : ℕ → Bool
accepted_minus s = eqb s 0xB || eqb s 0xD

-- Whether a sign says below zero; 8 where it is no sign.
unfoldable pub sign_means : ℕ → Outcome Bool
sign_means s = elim (accepted_plus s) [
  | true ↦ done false
  | false ↦ elim (accepted_minus s) [ true ↦ done true | false ↦ refused (by 8) ]
]

-- The number with the digits ds and the sign s: "a wrong sign, a digit above 9 .. is a bad value".
unfoldable pub decimal : List ℕ → ℕ → Outcome Value
decimal ds s = do
  _ ← need (all (λ d. leb d 9) ds) 8
  below ← sign_means s
  done (signed below (spelled 10 ds 0))

-- "F is two's complement": the number whose bits, in `size` bytes, spell n.
unfoldable pub twos_complement : ℕ → ℕ → Value
twos_complement size n = elim (ltb n (2 ^ (8 * size - 1))) [ true ↦ number false n | false ↦ number true (2 ^ (8 * size) - n) ]

-- Column "Meaning": what bytes mean; of a value of length 0, the bytes after its length byte. 8 where they mean nothing.
unfoldable pub meaning : Format → Bytes → Outcome Value
meaning alpha bs = done (text (strip bs))
meaning binary bs = done (number false (spelled 256 bs 0))
meaning fixed bs = done (twos_complement (length bs) (spelled 256 bs 0))
meaning packed bs = decimal (but_last (halves bs)) (last (halves bs))
meaning unpacked bs = do
  _ ← need (all (λ b. eqb (b / 16) 0xF) (but_last bs)) 8
  decimal (map (λ b. b % 16) bs) (last bs / 16)

-- "sign F, or D below zero"
unfoldable pub sign_written : Bool → ℕ
sign_written false = 0xF
sign_written true = 0xD

-- U: digits with the sign in the high half of the last byte, "other high halves F".
unfoldable pub zoned : List ℕ → ℕ → Bytes
zoned [] s = []
zoned (d ∷ []) s = (s * 16 + d) ∷ []
zoned (d ∷ e ∷ ds) s = (0xF0 + d) ∷ zoned (e ∷ ds) s

-- Column "Normal form": the bytes of a value at a format and length, with its length byte where the length is 0.
-- 9 where it does not fit: "a value fits a length when its digits, bytes without trailing blanks, or range do".
unfoldable pub normal : Format → ℕ → Value → Outcome Bytes
normal alpha zero (text t) = do
  _ ← need (leb (length t) longest_alpha) 9
  done (suc (length t) ∷ t)
normal alpha (suc n) (text t) = do
  _ ← need (leb (length t) (suc n)) 9
  done (t ++ replicate (suc n - length t) space)
normal alpha n (number below x) = refused (by 9)
normal binary n (text t) = refused (by 9)
normal binary n (number false x) = do
  _ ← need (ltb x (256 ^ n)) 9
  done (digits 256 n x)
normal binary n (number true x) = refused (by 9)
normal fixed n (text t) = refused (by 9)
normal fixed n (number false x) = do
  _ ← need (ltb x (2 ^ (8 * n - 1))) 9
  done (digits 256 n x)
normal fixed n (number true x) = do
  _ ← need (leb x (2 ^ (8 * n - 1))) 9
  done (digits 256 n (2 ^ (8 * n) - x))
normal packed n (text t) = refused (by 9)
normal packed n (number below x) = do
  _ ← need (ltb x (10 ^ (2 * n - 1))) 9
  done (pairs (digits 10 (2 * n - 1) x ++ (sign_written below ∷ [])))
normal unpacked n (text t) = refused (by 9)
normal unpacked n (number below x) = do
  _ ← need (ltb x (10 ^ n)) 9
  done (zoned (digits 10 n x) (sign_written below))

-- Column "Null": blanks, or 0.
unfoldable pub null_value : Format → Value
null_value alpha = text []
null_value binary = number false 0
null_value fixed = number false 0
null_value packed = number false 0
null_value unpacked = number false 0

-- Null in normal form. Every allowed length holds it.
unfoldable pub null : Format → ℕ → Bytes
null f n = bytes_of (normal f n (null_value f))

-- The first value of a length in a run of bytes, without its length byte, and what stands after it.
-- "With length 0 a value is one length byte, which counts itself, then 0 to 253 bytes"; "length byte 0 or 255 is a bad value";
-- its length byte is tested for 7, then 8, before its bytes for 7.
unfoldable pub first_value : ℕ → Bytes → Outcome (Bytes × Bytes)
first_value zero [] = refused (by 7)
first_value zero (n ∷ bs) = do
  _ ← need (leb 1 n && leb n (suc longest_alpha)) 8
  cut 7 (n - 1) bs
first_value (suc n) bs = cut 7 (suc n) bs

-- The bytes of a value of a length without its length byte, and with it.
unfoldable pub content : ℕ → Bytes → Bytes
content zero bs = drop 1 bs
content (suc n) bs = bs

unfoldable pub with_length_byte : ℕ → Bytes → Bytes
with_length_byte zero bs = suc (length bs) ∷ bs
with_length_byte (suc n) bs = bs

-- Whether such bytes, without their length byte, are in normal form at a format and length.
unfoldable pub in_normal_form : Format → ℕ → Bytes → Bool
in_normal_form f n bs = elim (meaning f bs >>= normal f n) [ done b ↦ same b (with_length_byte n bs) | refused k ↦ false ]

-- Which values convert from one format to another: none, all, −2,147,483,648 to 2,147,483,647, or 0 to 2,147,483,647.
pub data Kind : Type 0 where
  never every word natural : Kind

-- "a five by five table of which formats convert"
unfoldable pub conversion : Format → Format → Kind
conversion alpha alpha = every
conversion alpha binary = never
conversion alpha fixed = never
conversion alpha packed = never
conversion alpha unpacked = never
conversion binary alpha = never
conversion binary binary = every
conversion binary fixed = natural
conversion binary packed = natural
conversion binary unpacked = natural
conversion fixed alpha = never
conversion fixed binary = natural
conversion fixed fixed = every
conversion fixed packed = word
conversion fixed unpacked = word
conversion packed alpha = never
conversion packed binary = natural
conversion packed fixed = word
conversion packed packed = every
conversion packed unpacked = every
conversion unpacked alpha = never
conversion unpacked binary = natural
conversion unpacked fixed = word
conversion unpacked packed = every
conversion unpacked unpacked = every

-- "the formats convert"
unfoldable pub converts : Format → Format → Bool
converts f g = elim (conversion f g) [ never ↦ false | every ↦ true | word ↦ true | natural ↦ true ]

-- The conversion ranges.
unfoldable pub in_range : Kind → Value → Bool
in_range never v = false
in_range every v = true
in_range word (text t) = false
in_range word (number false n) = leb n greatest_word
in_range word (number true n) = leb n lowest_word
in_range natural (text t) = false
in_range natural (number false n) = leb n greatest_word
in_range natural (number true n) = false

-- A value of format f, written at format g and length n: "value outside the conversion range or not fitting" is 9.
unfoldable pub converted : Format → Format → ℕ → Value → Outcome Bytes
converted f g n v = do
  _ ← need (in_range (conversion f g) v) 9
  normal g n v

-- What the bytes of a value of format f, without their length byte, give at format g and length n: 8 where they mean nothing, then 9.
unfoldable pub converted_bytes : Format → Format → ℕ → Bytes → Outcome Bytes
converted_bytes f g n bs = do
  v ← meaning f bs
  converted f g n v

-- Document 02, M-103: whether a length from 1 up in format g would have held what the bytes mean.
unfoldable pub would_hold : Format → Format → Bytes → ℕ → Bool
would_hold f g bs n = allowed g n && is_done (converted_bytes f g n bs)

-- The first of `count` numbers from n up that passes a test, or 0.
unfoldable pub first_up : (ℕ → Bool) → ℕ → ℕ → ℕ
first_up test n zero = 0
first_up test n (suc count) = elim (test n) [ true ↦ n | false ↦ first_up test (suc n) count ]

-- "the smallest length from 1 up in the format in effect that would have held that value, or 0 for a value outside the conversion range":
-- outside it no length holds the value.
unfoldable pub smallest_length : Format → Format → Bytes → ℕ
smallest_length f g bs = first_up (would_hold f g bs) 1 (longest g)

-- "With 9, a read shall also return" it.
unfoldable pub read_value : Format → Format → ℕ → Bytes → Outcome Bytes
read_value f g n bs = needing (smallest_length f g bs) (converted_bytes f g n bs)
