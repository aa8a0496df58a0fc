-- `reading::cells::put_run` meets its contract: at their own format and length the values are the bytes between two places.
use borrow.Author.Rules.{rules}
use denote.Enum.Bare.{same_true}
use mathlib.Core.Path.{sym, ◌∙◌}
use Prim.Native.Nat.{◌-◌, ◌≤◌}
use native.Mathlib.Omega.{arith}
use Rattle.value_formats.specs.Formats.{format_at}
use Rattle.value_formats.specs.contracts.Format.{the_type}
use Rattle.reading.proofs.CellRuns.{they_end, stored_bytes, copied}
use Rattle.reading.proofs.cells.put_run.Goals as goal
use Rattle.reading.proofs.cells.put_run.Goals.{After-values_end-upto}

-- The values end after they begin.
ordered : (c : After-values_end-upto) → c.args.run.at ≤ c.values_end-upto.result
ordered c =
    let a = c.args in
    (stored_bytes a.w a.b.now a.run.at a.run.count c.requires.2.0 c.requires.2.1 c.requires.1 (c.values_end-upto.ensures (format_at a.w.own) (they_end a.w a.b.now a.run.at a.run.count c.requires.2.0 c.requires.2.1))).0

pub slice_bounds-put_bytes-count : goal.slice_bounds-put_bytes-count
slice_bounds-put_bytes-count c = ordered (goal.at.slice_bounds-put_bytes-count c).After-values_end-upto

pub slice_bounds-put_bytes-start : goal.slice_bounds-put_bytes-start
slice_bounds-put_bytes-start c =
    let a = c.args in
    omega (arith, ordered (goal.at.slice_bounds-put_bytes-start c).After-values_end-upto, (c.values_end-upto.ensures (format_at a.w.own) (they_end a.w a.b.now a.run.at a.run.count c.requires.2.0 c.requires.2.1)).place)

pub returns-then-w : goal.returns-then-w
returns-then-w c us t =
    let a = c.args in
    let same = same_true the_type (search rules) _ _ (sym c.eq.ensures ∙ c.if-eq.true) in
    copied a.w a.b.now a.run.at a.run.count us t c.requires.1 (c.values_end-upto.ensures (format_at a.w.own) (they_end a.w a.b.now a.run.at a.run.count us t)) same c.if-w.true (a.end - a.at) c.put_bytes.ensures
