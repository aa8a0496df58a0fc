-- Document 01, "The format buffer", to "Anything else is bad syntax", and the forms with N of document 02, M-100. Every refusal here is 3.
use Rattle.std.specs.Prelude.{Bool, true, false, not, ◌&&◌, ◌||◌, List, [], ◌∷◌, ℕ, ◌-◌, eqb, leb, length}
use Rattle.std.proofs.Math.Option.{Option, none, some}
use Rattle.rules.specs.Outcome.{Outcome, done, refused, by, ◌>>=◌, need}
use Rattle.rules.specs.Limits.{longest_format, longest_blanks, longest_text, greatest_length, most_digits}
use Rattle.rules.specs.Characters.{space, period, comma, apostrophe, hyphen, open_parenthesis, close_parenthesis, digit, digit_0, letter_A, letter_B, letter_C, letter_F, letter_G, letter_N, letter_P, letter_U, letter_W, letter_X}
use Rattle.rules.specs.Lists.{Bytes, nothing, absent, all, any, spelled, but_last, last}
use Rattle.rules.specs.Values.{strip}
use Rattle.rules.specs.Table.{is_name, name_of}

-- `i-j`; a single `i` is `i-i`.
pub record Range : Type 0 where
  pub from : ℕ
  pub upto : ℕ

-- The indexes of a name: `i-j`; by M-100 also `N`, the last one that is stored, or `1-N`, all of them.
pub data Indexing : Type 0 where
  these : Range → Indexing
  the_last : Indexing
  up_to_the_last : Indexing

-- The four kinds of element, counts apart. A name has its occurrences, its values in parentheses, its length and its format, if any.
-- `NC` of M-100 is the count in the last occurrence.
pub data Element : Type 0 where
  blanks : ℕ → Element
  quoted : Bytes → Element
  named : ℕ → Option Indexing → Option Indexing → Option ℕ → Option ℕ → Element
  count : ℕ → Option ℕ → Element
  count_in_last : ℕ → Element
  series : ℕ → ℕ → Element

-- What stands between two commas: an element, or the length or the format of the element before it.
pub data Piece : Type 0 where
  element : Element → Piece
  length_piece : ℕ → Piece
  format_piece : ℕ → Piece

-- Whether the place after a byte lies between apostrophes.
abbrev pub turned : Bool → ℕ → Bool
turned inside b = elim (eqb b apostrophe) [ true ↦ not inside | false ↦ inside ]

-- "Elements parted by commas, ended by a period"; neither counts between apostrophes.
abbrev pub ends : Bool → ℕ → Bool
ends inside b = not inside && (eqb b comma || eqb b period)

-- A byte put before the first of some texts.
unfoldable pub onto : ℕ → List Bytes → List Bytes
onto b [] = (b ∷ []) ∷ []
onto b (t ∷ ts) = (b ∷ t) ∷ ts

-- The texts between the commas, up to the period. "Bytes after the period are ignored."
unfoldable pub texts : Bool → Bytes → Outcome (List Bytes)
texts inside [] = refused (by 3)
texts inside (b ∷ bs) = elim (ends inside b) [
  | true ↦ elim (eqb b period) [ true ↦ done ([] ∷ []) | false ↦ texts false bs >>= (λ ts. done ([] ∷ ts)) ]
  | false ↦ texts (turned inside b) bs >>= (λ ts. done (onto b ts))
]

-- "Spaces may stand at the start and around any comma and before the period, not inside an element".
unfoldable pub skip_spaces : Bytes → Bytes
skip_spaces [] = []
skip_spaces (b ∷ bs) = elim (eqb b space) [ true ↦ skip_spaces bs | false ↦ b ∷ bs ]

unfoldable pub trim : Bytes → Bytes
trim bs = skip_spaces (strip bs)

-- The digits that stand first, and what is after them.
unfoldable pub leading_digits : Bytes → List ℕ × Bytes
leading_digits [] = ([], [])
leading_digits (b ∷ bs) = elim (digit b) [
  | true ↦ let r = leading_digits bs in ((b - digit_0) ∷ r.0, r.1)
  | false ↦ ([], b ∷ bs)
]

-- "Numbers have one to three digits, leading zeros allowed."
unfoldable pub number_first : Bytes → Outcome (ℕ × Bytes)
number_first bs = let r = leading_digits bs in do
  _ ← need (leb 1 (length r.0) && leb (length r.0) most_digits) 3
  done (spelled 10 r.0 0, r.1)

-- `i`, or by M-100 `N`; and what is after it.
unfoldable pub index_first : Bytes → Outcome (Indexing × Bytes)
index_first [] = refused (by 3)
index_first (b ∷ bs) = elim (eqb b letter_N) [
  | true ↦ done (the_last, bs)
  | false ↦ number_first (b ∷ bs) >>= (λ i. done (these (record { from = i.0; upto = i.0 }), i.1))
]

-- After `i-`: `j`; by M-100 also `N` where i is 1. `N-` begins nothing.
unfoldable pub range_to : Indexing → Bytes → Outcome (Indexing × Bytes)
range_to the_last bs = refused (by 3)
range_to up_to_the_last bs = refused (by 3)
range_to (these r) bs = do
  j ← index_first bs
  elim j.0 [
    | these s ↦ done (these (record { from = r.from; upto = s.upto }), j.1)
    | the_last ↦ need (eqb r.from 1) 3 >>= (λ _. done (up_to_the_last, j.1))
    | up_to_the_last ↦ refused (by 3)
  ]

-- An index, or where a hyphen is after it, a range.
unfoldable pub range_end : Indexing → Bytes → Outcome (Indexing × Bytes)
range_end x [] = done (x, [])
range_end x (b ∷ bs) = elim (eqb b hyphen) [ true ↦ range_to x bs | false ↦ done (x, b ∷ bs) ]

-- `)` and nothing more.
unfoldable pub closing : Indexing → Bytes → Outcome Indexing
closing x [] = refused (by 3)
closing x (b ∷ bs) = do
  _ ← need (eqb b close_parenthesis && nothing bs) 3
  done x

-- After `(`: `k)` or `k-l)`; by M-100 also `N)` or `1-N)`.
unfoldable pub parenthesis : Bytes → Outcome Indexing
parenthesis bs = do
  k ← index_first bs
  r ← range_end k.0 k.1
  closing r.0 r.1

-- "`1-N` for the occurrence with parentheses is 3"
abbrev pub takes_parenthesis : Indexing → Bool
takes_parenthesis (these r) = true
takes_parenthesis the_last = true
takes_parenthesis up_to_the_last = false

-- After a name and `i` or `i-j`, `N` or `1-N`: nothing, or a parenthesis.
unfoldable pub after_range : ℕ → Indexing → Bytes → Outcome Element
after_range n x [] = done (named n (some x) none none none)
after_range n x (b ∷ bs) = do
  _ ← need (takes_parenthesis x && eqb b open_parenthesis) 3
  v ← parenthesis bs
  done (named n (some x) (some v) none none)

-- `iC`, or by M-100 `NC`.
abbrev pub indexed_count : ℕ → Indexing → Element
indexed_count n (these r) = count n (some r.from)
indexed_count n the_last = count_in_last n
indexed_count n up_to_the_last = count_in_last n

-- After a name and `i` or `N`: nothing, `C`, `-j`, or a parenthesis.
unfoldable pub after_index : ℕ → Indexing → Bytes → Outcome Element
after_index n x [] = done (named n (some x) none none none)
after_index n x (b ∷ bs) = elim (eqb b letter_C && nothing bs) [
  | true ↦ done (indexed_count n x)
  | false ↦ range_end x (b ∷ bs) >>= (λ r. after_range n r.0 r.1)
]

-- After `name-`: a name and nothing more.
unfoldable pub series_to : ℕ → Bytes → Outcome Element
series_to n [] = refused (by 3)
series_to n (a ∷ []) = refused (by 3)
series_to n (a ∷ b ∷ bs) = do
  _ ← need (is_name a b && nothing bs) 3
  done (series n (name_of a b))

-- After a name: nothing, `C`, `-name`, or an index.
unfoldable pub after_name : ℕ → Bytes → Outcome Element
after_name n [] = done (named n none none none none)
after_name n (b ∷ bs) =
    elim (eqb b letter_C && nothing bs) [
      | true ↦ done (count n none)
      | false ↦
          elim (eqb b hyphen) [ true ↦ series_to n bs | false ↦ index_first (b ∷ bs) >>= (λ i. after_index n i.0 i.1) ]
    ]

-- "format (A, B, F, G, P, U or W)"
unfoldable pub override_letters : List ℕ
override_letters = letter_A ∷ letter_B ∷ letter_F ∷ letter_G ∷ letter_P ∷ letter_U ∷ letter_W ∷ []

unfoldable pub is_override : ℕ → Bool
is_override b = any (eqb b) override_letters

-- After a number at the start: nothing, which makes it a length (0 to 255); or `X`, which makes it blanks (1 to 255).
unfoldable pub after_number : ℕ → Bytes → Outcome Piece
after_number n [] = do
  _ ← need (leb n greatest_length) 3
  done (length_piece n)
after_number n (b ∷ bs) = do
  _ ← need (eqb b letter_X && nothing bs && leb 1 n && leb n longest_blanks) 3
  done (element (blanks n))

-- After an apostrophe: "text of 1 to 255 bytes but 7D", and an apostrophe.
unfoldable pub text_piece : Bytes → Outcome Piece
text_piece bs = do
  _ ← need (eqb (last bs) apostrophe && all (λ b. not (eqb b apostrophe)) (but_last bs)) 3
  _ ← need (leb 1 (length (but_last bs)) && leb (length (but_last bs)) longest_text) 3
  done (element (quoted (but_last bs)))

-- What stands between two commas, without the spaces around it.
unfoldable pub piece : Bytes → Outcome Piece
piece [] = refused (by 3)
piece (a ∷ []) = elim (digit a) [
  | true ↦ done (length_piece (a - digit_0))
  | false ↦ need (is_override a) 3 >>= (λ _. done (format_piece a))
]
piece (a ∷ b ∷ bs) =
    elim (eqb a apostrophe) [
      | true ↦ text_piece (b ∷ bs)
      | false ↦ elim (digit a) [
        | true ↦ number_first (a ∷ b ∷ bs) >>= (λ i. after_number i.0 i.1)
        | false ↦ do
          _ ← need (is_name a b) 3
          e ← after_name (name_of a b) bs
          done (element e)
      ]
    ]

-- The elements after a place, and a length and a format right after it that want the name they belong to.
pub record Pending : Type 0 where
  pub size : Option ℕ
  pub format : Option ℕ
  pub elements : List Element

unfoldable pub settled : Pending → Bool
settled p = absent p.size && absent p.format

-- "after all of these but the counts may follow `, length` (0 to 255) and then, or instead, `, format`"; after nothing else.
unfoldable pub completed : Element → Pending → Outcome Element
completed (named n o v l f) p = done (named n o v p.size p.format)
completed (blanks n) p = need (settled p) 3 >>= λ _. done (blanks n)
completed (quoted t) p = need (settled p) 3 >>= λ _. done (quoted t)
completed (count n i) p = need (settled p) 3 >>= λ _. done (count n i)
completed (count_in_last n) p = need (settled p) 3 >>= λ _. done (count_in_last n)
completed (series n m) p = need (settled p) 3 >>= λ _. done (series n m)

-- A piece before what stands after it: an element, a length before a format or alone, a format.
unfoldable pub put_before : Piece → Pending → Outcome Pending
put_before (element e) p = do
  x ← completed e p
  done (record { size = none; format = none; elements = x ∷ p.elements })
put_before (length_piece n) p = do
  _ ← need (absent p.size) 3
  done (record { size = some n; format = p.format; elements = p.elements })
put_before (format_piece b) p = do
  _ ← need (settled p) 3
  done (record { size = none; format = some b; elements = p.elements })

unfoldable pub assembled : List Bytes → Outcome Pending
assembled [] = done (record { size = none; format = none; elements = [] })
assembled (t ∷ ts) = do
  p ← piece (trim t)
  r ← assembled ts
  put_before p r

-- The elements of a format buffer: "format syntax, no period, or a lent format slice over 2,048 bytes" is 3.
unfoldable pub elements : Bytes → Outcome (List Element)
elements bs = do
  _ ← need (leb (length bs) longest_format) 3
  ts ← texts false bs
  p ← assembled ts
  _ ← need (settled p) 3
  done p.elements
