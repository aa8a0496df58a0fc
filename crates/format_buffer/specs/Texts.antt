-- The texts of a format one after the other: what follows each, and what the code answers of them.
use Rattle.std.specs.Prelude.{◌≡◌, Bool, true, false, [], ◌∷◌, ℕ, suc, ◌+◌, ◌≤◌, ◌<◌, eqb, length, drop, get_or, None, Option, Some}
use Rattle.std.proofs.Math.Option.{none}
use Rattle.rules.specs.Outcome.{Outcome, done, ◌>>=◌}
use Rattle.rules.specs.Characters.{period}
use Rattle.rules.specs.Lists.{Bytes}
use Rattle.rules.specs.Format as rules
use Rattle.rules.specs.Format.{turned, ends, texts, Pending, settled, assembled, put_before}
use Rattle.format_buffer.specs.Part.{part}
use Rattle.format_buffer.specs.Elements.{shortest_element}
use Rattle.format_buffer.specs.Pieces.{piece_of, piece_sound}
use Rattle.format_buffer.specs.declared.pieces.Piece.{Piece}
use Rattle.format_buffer.specs.declared.pieces.Piece.TheVariants as piece
use Rattle.format_buffer.specs.declared.texts.PieceAt.{PieceAt}
use Rattle.format_buffer.specs.declared.texts.Bounds.{Bounds}

-- How many bytes stand before the comma or period that ends a text.
unfoldable pub extent : Bool → Bytes → ℕ
extent inside [] = 0
extent inside (b ∷ bs) = elim (ends inside b) [ true ↦ 0 | false ↦ suc (extent (turned inside b) bs) ]

-- Some bytes stand as o says, at a place between two others.
pub record Narrowed (at upto r : ℕ) (o bs : Bytes) : Type 0 where
  pub answer : bs ≡ o
  pub low : at ≤ r
  pub high : r ≤ upto

-- The elements of some bytes, with a length and a format that stand before them.
unfoldable pub pending : Bytes → Outcome Pending
pending bs = texts false bs >>= assembled

-- Neither a length nor a format stands before the elements, if there are any.
abbrev pub elements_first : Outcome Pending → Type 0
elements_first o = (p : Pending) → o ≡ done p → settled p ≡ true

-- Nothing after the period counts.
abbrev pub none_pending : Pending
none_pending = record { size = none; format = none; elements = [] }

-- The same for what follows the comma or the period at a place.
unfoldable pub rest : Bytes → ℕ → Outcome Pending
rest f end = elim (eqb (get_or f end 0) period) [ true ↦ done none_pending | false ↦ pending (drop (end + 1) f) ]

-- The text from a place on was found: where it stands without the spaces around it, and where it ends; if it has no end, the bounds are empty.
pub record Bounded (f : Bytes) (at : ℕ) (r : Bounds) : Type 0 where
  pub answer : pending (drop at f) ≡ (rules.piece (part f r.first r.last) >>= λ p. rest f r.end >>= put_before p)
  pub from : at ≤ r.first
  pub order : r.first ≤ r.last
  pub upto : r.last ≤ r.end
  pub inside : r.end ≤ length f
  pub ended : r.first < r.last → r.end < length f

-- Where a text ends, if it does; an element has its characters before that.
abbrev pub reached : Bytes → ℕ → ℕ → Option Piece → Type 0
reached f at end (Some (piece.Element e)) = (at + shortest_element ≤ end) × (end < length f)
reached f at end (Some (piece.Length n)) = (at ≤ end) × (end < length f)
reached f at end (Some (piece.Format b)) = (at ≤ end) × (end < length f)
reached f at end None = Unit {0}

-- The text from a place on was read: its piece, and where it ends.
pub record Looked (f : Bytes) (at : ℕ) (r : PieceAt) : Type 0 where
  pub answer : pending (drop at f) ≡ (piece_of f r.piece >>= λ p. rest f r.end >>= put_before p)
  pub place : reached f at r.end r.piece
  pub sound : piece_sound f r.piece
