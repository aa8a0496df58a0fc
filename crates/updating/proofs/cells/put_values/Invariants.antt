-- `updating::cells::put_values` meets its contract: the values that are left fill the room as all of them do from the start.
use mathlib.Core.List.{List}
use mathlib.Core.Option.{Option}
use Prim.Native.Nat.{ℕ}
use Rattle.rules.specs.Lists.{Bytes}
use Rattle.value_formats.specs.Formats.{format_at}
use Rattle.updating.specs.New.{NotesBy, Old}
use Rattle.updating.proofs.NewValues.{Putting}
use Rattle.updating.proofs.cells.put_values.Given as goal

abbrev pub invariant-loop-k : goal.invariant-loop-k
invariant-loop-k l =
    (given : ℕ → Option Bytes) (vs : List Bytes) → NotesBy l.stage (format_at l.format) l.size given l.by → Old l.b (format_at l.format) l.size vs l.old → Putting given (format_at l.format) l.size vs l.b l.old l.n l.end l.at l.k l.q l.p l.initial.out l.out
