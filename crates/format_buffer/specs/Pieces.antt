-- Pieces of a format: what the code answers of them.
use Rattle.std.specs.Prelude.{◌≡◌, Bool, false, not, ◌≤◌, eqb, None, Option, Some}
use Rattle.format_buffer.specs.declared.Indexing.{Indexing}
use Rattle.rules.specs.Outcome.{Outcome, done, refused, by, ◌>>=◌}
use Rattle.rules.specs.Limits.{greatest_length}
use Rattle.rules.specs.Characters.{apostrophe}
use Rattle.rules.specs.Lists.{Bytes, all}
use Rattle.rules.specs.Format as rules
use Rattle.format_buffer.specs.Elements.{element_of, sound, indexing_of, SmallIndexing}
use Rattle.format_buffer.specs.declared.Element.{Element}
use Rattle.format_buffer.specs.declared.Element.TheVariants as code
use Rattle.format_buffer.specs.declared.following.Trailer.{Trailer}
use Rattle.format_buffer.specs.declared.following.Trailer.TheVariants as trailer
use Rattle.format_buffer.specs.declared.pieces.Piece.{Piece}
use Rattle.format_buffer.specs.declared.pieces.Piece.TheVariants as piece

-- Values in parentheses.
abbrev pub bracket_of : Option Indexing → Outcome rules.Indexing
bracket_of (Some x) = done (indexing_of x)
bracket_of None = refused (by 3)

-- How large their numbers are.
abbrev pub bracket_small : Option Indexing → Type 0
bracket_small (Some x) = SmallIndexing x
bracket_small None = Unit {0}

pub record Bracketed (o : Outcome rules.Indexing) (r : Option Indexing) : Type 0 where
  pub answer : o ≡ bracket_of r
  pub small : bracket_small r

-- A piece, as `rules` has it.
abbrev pub piece_of : Bytes → Option Piece → Outcome rules.Piece
piece_of f (Some (piece.Element e)) = done (rules.element (element_of f e))
piece_of f (Some (piece.Length n)) = done (rules.length_piece n)
piece_of f (Some (piece.Format b)) = done (rules.format_piece b)
piece_of f None = refused (by 3)

-- A name that has no length and no format yet; anything else.
abbrev pub unfinished : Element → Type 0
unfinished (code.Blanks n) = Unit {0}
unfinished (code.Text from upto) = Unit {0}
unfinished (code.Named n) = (n.length ≡ None) × (n.letter ≡ None)
unfinished (code.Count c) = Unit {0}
unfinished (code.Series first last) = Unit {0}

-- How large the numbers of a piece are.
abbrev pub piece_sound : Bytes → Option Piece → Type 0
piece_sound f (Some (piece.Element e)) = sound f e × unfinished e
piece_sound f (Some (piece.Length n)) = n ≤ greatest_length
piece_sound f (Some (piece.Format b)) = Unit {0}
piece_sound f None = Unit {0}

-- A piece was read, as o says.
pub record Pieced (f : Bytes) (o : Outcome rules.Piece) (r : Option Piece) : Type 0 where
  pub answer : o ≡ piece_of f r
  pub sound : piece_sound f r

-- An element, if anything.
abbrev pub only_element : Outcome rules.Piece → Type 0
only_element o = (q : rules.Piece) → o ≡ done q → (e : rules.Element) × (q ≡ rules.element e)

-- What a piece is after a name.
abbrev pub trails : Outcome rules.Piece → Option Trailer → Type 0
trails o (Some (trailer.Length n)) = (o ≡ done (rules.length_piece n)) × (n ≤ greatest_length)
trails o (Some (trailer.Format b)) = o ≡ done (rules.format_piece b)
trails o (Some trailer.Neither) = only_element o
trails o None = o ≡ refused (by 3)

-- An element as a piece.
abbrev pub as_piece : Outcome rules.Element → Outcome rules.Piece
as_piece o = o >>= λ e. done (rules.element e)

-- "text of 1 to 255 bytes but 7D"
abbrev pub no_apostrophe : Bytes → Bool
no_apostrophe bs = all (λ b. not (eqb b apostrophe)) bs

-- A piece that begins with a digit.
abbrev pub number_piece : Bytes → Outcome rules.Piece
number_piece bs = rules.number_first bs >>= λ i. rules.after_number i.0 i.1
