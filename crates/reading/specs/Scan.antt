-- The elements of a format, one at a time: where a scan stands, and what is left to say from there on.
use Rattle.std.specs.Prelude.{◌≡◌, Bool, List, ℕ, ◌-◌, ◌≤◌, length, Err, Ok, Result}
use Rattle.rules.specs.declared.Refusal.{Refusal}
use Rattle.rules.specs.Outcome.{Outcome, refused, ◌>>=◌}
use Rattle.rules.specs.Lists.{Bytes}
use Rattle.rules.specs.Table.{Entry, parts}
use Rattle.rules.specs.Record.{Record}
use Rattle.rules.specs.Format as rules
use Rattle.rules.specs.Use.{Item, Indexes}
use Rattle.rules.specs.Last.{Lasts, meanings, counts_in, use_resolved, items_read}
use Rattle.rules.specs.Services.{filled}
use Rattle.rules.specs.Numbers.{refusal}
use Rattle.format_buffer.specs.Elements.{element_of}
use Rattle.format_buffer.specs.Syntax.{element_before}
use Rattle.format_buffer.specs.declared.Element.{Element}
use Rattle.uses.specs.Meant.{use_meant}
use Rattle.uses.specs.Scopes.{scope_at}
use Rattle.uses.specs.declared.Use.{Use}
use Rattle.uses.specs.declared.scopes.Scopes.{Scopes}
use Rattle.uses.specs.Meanings.{Remembers, meanings_of}
use Rattle.records.specs.Places.{IsRecord}
use Rattle.filling.specs.Filling.{Filling, Continues}

-- The items of what an element means, by the scopes of its indexes.
abbrev pub meaning_items : List Entry → Bytes → Use → Scopes → Record → List Item
meaning_items es f u s r = use_resolved (parts es) (counts_in (parts es) r) (scope_at s.occurrences) (scope_at s.values) (use_meant es f u)

-- Where a scan of a format stands: an element is refused, or else the items so far end at a place or one of them is refused.
abbrev pub Progress : Type 0
Progress = Result (Result ℕ Refusal) Refusal

-- Where it stands in the buffer; after a refusal that does not matter.
abbrev pub filled_upto : Progress → ℕ
filled_upto (Ok (Ok p)) = p
filled_upto (Ok (Err n)) = 0
filled_upto (Err n) = 0

-- What a scan answers where it stands.
abbrev pub answer_of : Progress → Result ℕ Refusal
answer_of (Ok items) = items
answer_of (Err n) = Err n

-- What is left, by the elements that are left: their items; after an item that is refused whether their uses are, and after an
-- element that is refused whether their syntax is bad, since either comes before it.
unfoldable pub left_of : List Entry → Record → ℕ → Indexes → Lasts → Outcome (List rules.Element) → Progress → Outcome Bytes
left_of es r end ls ns xs (Ok (Ok p)) =
    xs >>= meanings es ls ns >>= λ ms. filled (parts es) r (end - p) (items_read (parts es) (counts_in (parts es) r) ms)
left_of es r end ls ns xs (Ok (Err n)) = xs >>= meanings es ls ns >>= λ ms. refused (refusal n)
left_of es r end ls ns xs (Err n) = xs >>= λ ys. refused (refusal n)

-- An element was put: whatever follows it is left from where the scan stands then.
pub record PutsElement (es : List Entry) (b : Bytes) (places : List ℕ) (f : Bytes) (end : ℕ) (write : Bool) (e : Element) (last last' : List ℕ)
    (s : Progress) (entry exit : Bytes) (s' : Progress) : Type 0 where
  pub fits : filled_upto s' ≤ end
  pub same : length last' ≡ length last
  pub kept : length exit ≡ length entry
  pub continues : (ls : Indexes) (ns : Lasts) → Remembers es last ls ns → (ls' : Indexes) × (ns' : Lasts) × Remembers es last' ls' ns'
      × ((r : Record) → IsRecord es b places r → (xs : Outcome (List rules.Element))
      → Continues (left_of es r end ls ns (element_before (element_of f e) xs) s) (left_of es r end ls' ns' xs s') (filled_upto s) (filled_upto s') write entry exit)

-- The items of a format end and write as they are to, or the first refusal is the format's.
abbrev pub Scans : List Entry → Bytes → List ℕ → Bytes → ℕ → Bool → Bytes → Bytes → Result ℕ Refusal → Type 0
Scans es b places f end write entry exit n =
    (r : Record) → IsRecord es b places r
    → Filling (meanings_of es f >>= λ ms. filled (parts es) r end (items_read (parts es) (counts_in (parts es) r) ms)) 0 write entry exit n
