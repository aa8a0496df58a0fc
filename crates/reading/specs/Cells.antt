-- The values of a field in one occurrence: what is wanted of them, and those of it that exist.
use Rattle.std.specs.Prelude.{◌≡◌, Bool, true, List, [], ℕ, pred, ◌+◌, ◌-◌, ◌≤◌, ◌<◌, length, take, drop, get_or, None, Option, Some}
use Rattle.rules.specs.Outcome.{Outcome, done}
use Rattle.rules.specs.Limits.{highest_index}
use Rattle.rules.specs.Lists.{Bytes}
use Rattle.rules.specs.Values.{allowed, converts, read_value, content, null}
use Rattle.rules.specs.Values as Rules
use Rattle.rules.specs.Table.{Entry}
use Rattle.rules.specs.Record.{times, counted, stored_value}
use Rattle.rules.specs.Use.{over}
use Rattle.value_formats.specs.Formats.{format_at}
use Rattle.value_formats.specs.declared.Format.{Format}
use Rattle.tables.specs.Entries.{is_multiple, field_format, coded, size_of, what_at}
use Rattle.rules.specs.Format.{Range}
use Rattle.rules.specs.Last.{resolved}
use Rattle.format_buffer.specs.Elements.{range}
use Rattle.format_buffer.specs.declared.Scope.{Scope}
use Rattle.format_buffer.specs.declared.Scope.TheVariants.{AsWritten}
use Rattle.uses.specs.Scopes.{scope_at}
use Rattle.reading.specs.declared.cells.ValueRun.{ValueRun}
use Rattle.reading.specs.declared.cells.Wanted.{Wanted}

-- The values of a cell that stands at a place, or there is no cell.
abbrev pub CellHolds : Bytes → Rules.Format → ℕ → Bool → List Bytes → Option ℕ → Type 0
CellHolds b f n mu vs (Some q) = (q ≤ length b) × (rest : Bytes) × (counted mu (stored_value f n) (drop q b) ≡ done (vs, rest))
CellHolds b f n mu vs None = vs ≡ []

-- What is wanted of a field may be asked for.
pub record Wants (w : Wanted) : Type 0 where
  pub standard : allowed (format_at w.own) w.standard ≡ true
  pub size : allowed (format_at w.format) w.size ≡ true
  pub converts : converts (format_at w.own) (format_at w.format) ≡ true
  pub first : 1 ≤ w.first
  pub ordered : w.first ≤ w.last
  pub last : w.last ≤ highest_index
  -- Only of an MU field is there a last value.
  pub scope : (w.scope ≡ AsWritten → ⊥) → w.multiple ≡ true

-- What is wanted of entry i.
abbrev pub wanted_at : List Entry → ℕ → ℕ → ℕ → Scope → Format → ℕ → Wanted
wanted_at es i first last scope format size =
    let what = what_at es i in
    record { own = coded (field_format what); standard = size_of what; multiple = is_multiple what; first = first; last = last; scope = scope; format = format; size = size }

-- The values that are meant, where n are stored.
abbrev pub values_meant : Wanted → ℕ → Range
values_meant w n = resolved (scope_at w.scope) (range w.first w.last) n

-- A stored value at the format and length in effect; and those wanted of a cell's values, of which one that doesn't exist is null.
abbrev pub converted_to : Wanted → Bytes → Outcome Bytes
converted_to w v = read_value (format_at w.own) (format_at w.format) w.size (content w.standard v)

abbrev pub wanted : Wanted → List Bytes → List (Outcome Bytes)
wanted w vs = over (values_meant w (length vs)) (λ k. converted_to w (get_or vs (pred k) (null (format_at w.own) w.standard)))

-- Those that exist.
abbrev pub existing : Wanted → List Bytes → List Bytes
existing w vs = let r = values_meant w (length vs) in take (r.upto + 1 - r.from) (drop (r.from - 1) vs)

-- The first n values of the bytes from a place on.
abbrev pub Stand : Wanted → Bytes → ℕ → ℕ → List Bytes → Type 0
Stand w b at n us = (rest : Bytes) × (times n (stored_value (format_at w.own) w.standard) (drop at b) ≡ done (us, rest))

-- Those of the values wanted that exist stand in a run; the others are missing.
pub record Exist (w : Wanted) (b : Bytes) (vs : List Bytes) (r : ValueRun) : Type 0 where
  pub place : r.at ≤ length b
  pub stand : Stand w b r.at r.count (existing w vs)
  pub missing : r.missing ≡ (values_meant w (length vs)).upto + 1 - (values_meant w (length vs)).from - r.count
