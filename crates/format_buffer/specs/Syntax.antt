-- The elements of a format, one at a time.
use Rattle.std.specs.Prelude.{◌≡◌, true, false, List, [], ◌∷◌, ℕ, ◌+◌, ◌≤◌, ◌<◌, eqb, length, drop, get_or, None, Option, Some}
use Rattle.format_buffer.specs.declared.Element.{Element}
use Rattle.std.proofs.Math.Option.{some}
use Rattle.rules.specs.Outcome.{Outcome, done, refused, by, ◌>>=◌, need}
use Rattle.rules.specs.Characters.{period}
use Rattle.rules.specs.Lists.{Bytes, absent}
use Rattle.rules.specs.Format as rules
use Rattle.rules.specs.Format.{texts, settled, completed, assembled}
use Rattle.format_buffer.specs.Elements.{element_of, named_of, sound, shortest_element}
use Rattle.format_buffer.specs.Texts.{rest}
use Rattle.format_buffer.specs.declared.Named.{Named}

-- The elements of some bytes, up to a period: `elements` of `rules` without the limit on all the bytes.
unfoldable pub parsed : Bytes → Outcome (List rules.Element)
parsed bs = do
  ts ← texts false bs
  p ← assembled ts
  _ ← need (settled p) 3
  done p.elements

-- An element before others.
abbrev pub element_before : rules.Element → Outcome (List rules.Element) → Outcome (List rules.Element)
element_before e o = o >>= λ es. done (e ∷ es)

-- The elements after the comma or the period at a place.
unfoldable pub elements_after : Bytes → ℕ → Outcome (List rules.Element)
elements_after f stop = elim (eqb (get_or f stop 0) period) [ true ↦ done [] | false ↦ parsed (drop (stop + 1) f) ]

-- The elements from a place on, by a step of the code: an element and those after it.
abbrev pub by_step : Bytes → Option (Element × ℕ) → Outcome (List rules.Element)
by_step f (Some (e, stop)) = element_before (element_of f e) (elements_after f stop)
by_step f None = refused (by 3)

-- The comma or period after an element stands in the format, after the characters of the element, and the element's numbers are as
-- large as they may be.
abbrev pub step_place : Bytes → ℕ → Option (Element × ℕ) → Type 0
step_place f at (Some (e, stop)) = (at + shortest_element ≤ stop) × (stop < length f) × sound f e
step_place f at None = Unit {0}

-- A step was made: the elements from a place on, o, are those of the step.
pub record Stepped (f : Bytes) (at : ℕ) (o : Outcome (List rules.Element)) (r : Option (Element × ℕ)) : Type 0 where
  pub answer : o ≡ by_step f r
  pub place : step_place f at r

-- A step from wherever the element that ends at a place begins.
abbrev pub SteppedUpto : Bytes → ℕ → Outcome (List rules.Element) → Option (Element × ℕ) → Type 0
SteppedUpto f end o r = (at : ℕ) → at + shortest_element ≤ end → Stepped f at o r

-- A name at a length, which a format may follow.
unfoldable pub then_format : Bytes → ℕ → Named → ℕ → Outcome (List rules.Element)
then_format f end n size = rest f end >>= λ p. need (absent p.size) 3 >>= λ _. done (named_of n (some size) p.format ∷ p.elements)

-- An element, completed by what follows it.
unfoldable pub then_completed : Bytes → ℕ → rules.Element → Outcome (List rules.Element)
then_completed f end e = rest f end >>= λ p. completed e p >>= λ x. done (x ∷ p.elements)
