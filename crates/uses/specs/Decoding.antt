-- A format decoded one element at a time: where it stands, and what is left to say from there on.
use Rattle.std.specs.Prelude.{◌≡◌, List, [], ◌++◌, ℕ, ◌+◌, ◌≤◌, length, Err, Ok, Result}
use Rattle.rules.specs.declared.Refusal.{Refusal}
use Rattle.rules.specs.Outcome.{Outcome, done, refused, ◌>>=◌}
use Rattle.rules.specs.Lists.{Bytes}
use Rattle.rules.specs.Numbers.{refusal}
use Rattle.rules.specs.Table.{Entry}
use Rattle.rules.specs.Format as rules
use Rattle.rules.specs.Use as rules_use
use Rattle.rules.specs.Use.{Indexes, uses}
use Rattle.format_buffer.specs.Elements.{element_of, sound}
use Rattle.format_buffer.specs.Syntax.{element_before}
use Rattle.format_buffer.specs.declared.Element.{Element}
use Rattle.uses.specs.Meanings.{Remembers}
use Rattle.uses.specs.Kept.{uses_kept, GoodUses}

-- How many uses are kept; after a refusal that does not matter.
abbrev pub uses_so_far : Result ℕ Refusal → ℕ
uses_so_far (Ok n) = n
uses_so_far (Err x) = 0

-- What is left, by the elements that are left: their uses after those kept; after an element that is refused whether their syntax is
-- bad, since that comes before it.
unfoldable pub uses_left : List Entry → Bytes → Indexes → Outcome (List rules.Element) → List ℕ → Result ℕ Refusal → Outcome (List rules_use.Use)
uses_left es f ls xs kept (Ok n) = xs >>= uses es ls >>= λ us. done (uses_kept es f kept n ++ us)
uses_left es f ls xs kept (Err x) = xs >>= λ ys. refused (refusal x)

-- An element was decoded, in whatever format it stands: whatever follows it is left from there on. In an update no index is N.
pub record KeepsElement (es : List Entry) (e : Element) (last last' kept kept' : List ℕ) (d d' : Result ℕ Refusal) : Type 0 where
  pub same : length last' ≡ length last
  pub room : length kept' ≡ length kept
  pub more : uses_so_far d' ≤ uses_so_far d + 1
  pub good : (f : Bytes) → sound f e → GoodUses es f kept (uses_so_far d) → GoodUses es f kept' (uses_so_far d')
  pub left : (f : Bytes) → sound f e → (ls : Indexes) → Remembers es last ls [] → (ls' : Indexes) × Remembers es last' ls' []
      × ((xs : Outcome (List rules.Element)) → uses_left es f ls (element_before (element_of f e) xs) kept d ≡ uses_left es f ls' xs kept' d')
