-- The records of what the code answers: how a piece is made, and what is known once an answer is.
use Rattle.std.specs.Prelude.{None, Option, Some}
use mathlib.Core.Path.{◌≡◌, refl, ap, ◌∙◌}
use Prim.Native.Nat.{ℕ, ◌≤◌}
use native.Mathlib.Omega.{arith}
use Rattle.rules.specs.Outcome.{Outcome, done, refused, by}
use Rattle.rules.specs.Limits.{greatest_length}
use Rattle.rules.specs.Lists.{Bytes}
use Rattle.rules.specs.Format as rules
use Rattle.format_buffer.specs.Elements.{element_of, sound, indexing_of, SmallIndexing, Small, bare_name, with_occurrences, with_values, with_length, with_format}
use Rattle.format_buffer.specs.Pieces.{Bracketed, bracket_of, Pieced, as_piece, unfinished}
use Rattle.format_buffer.specs.declared.Indexing.{Indexing}
use Rattle.format_buffer.specs.declared.Named.{Named}
use Rattle.format_buffer.specs.declared.Element.{Element}
use Rattle.format_buffer.specs.declared.pieces.Piece.{Piece}
use Rattle.format_buffer.specs.declared.pieces.Piece.TheVariants as piece

pub bracketed_values : {o : Outcome rules.Indexing} {r : (Option Indexing)} {x : Indexing} → Bracketed o r → r ≡ Some x
    → (o ≡ done (indexing_of x)) × SmallIndexing x
bracketed_values w q = (w.answer ∙ ap bracket_of q, rw q at w.small)

pub bracketed_bad : {o : Outcome rules.Indexing} {r : (Option Indexing)} → Bracketed o r → r ≡ None → o ≡ refused (by 3)
bracketed_bad w q = w.answer ∙ ap bracket_of q

pub pieced_bad : {f : Bytes} {o : Outcome rules.Piece} → o ≡ refused (by 3) → Pieced f o None
pieced_bad e = record { answer = e; sound = tt }

pub pieced_from : {f : Bytes} {o o' : Outcome rules.Piece} {r : (Option Piece)} → o ≡ o' → Pieced f o' r → Pieced f o r
pieced_from e w = record { answer = e ∙ w.answer; sound = w.sound }

pub element_bad : {f : Bytes} {o : Outcome rules.Element} → o ≡ refused (by 3) → Pieced f (as_piece o) None
element_bad e = record { answer = rw e refl; sound = tt }

pub element_is : {f : Bytes} {o : Outcome rules.Element} {e e' : Element} → e ≡ e' → o ≡ done (element_of f e') → sound f e' → unfinished e'
    → Pieced f (as_piece o) (Some (piece.Element e))
element_is q h s u = record { answer = rw (q, h) refl; sound = rw q (s, u) }

pub element_from : {f : Bytes} {o o' : Outcome rules.Element} {r : (Option Piece)} → o ≡ o' → Pieced f (as_piece o') r → Pieced f (as_piece o) r
element_from e w = rw e w

-- The numbers of a name as it grows.
pub small_bare : (name : ℕ) → Small (bare_name name)
small_bare name = record { occurrences = tt; values = tt; length = tt }

module _ {n : Named} (s : Small n) where
  pub small_occurrences : {x : Indexing} → SmallIndexing x → Small (with_occurrences n x)
  small_occurrences h = record { occurrences = h; values = s.values; length = s.length }

  pub small_values : {x : Indexing} → SmallIndexing x → Small (with_values n x)
  small_values h = record { occurrences = s.occurrences; values = h; length = s.length }

  pub small_length : {l : ℕ} → l ≤ greatest_length → Small (with_length n l)
  small_length h = record { occurrences = s.occurrences; values = s.values; length = h }

  pub small_format : (b : ℕ) → Small (with_format n b)
  small_format b = record { occurrences = s.occurrences; values = s.values; length = s.length }
